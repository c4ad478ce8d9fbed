use Rattle.nq_datagrams.proofs.Readers.{client-reads-messages}
use Rattle.nq_datagrams.proofs.laws.client_reads_messages.Goals as goal

pub returns : goal.returns
returns c = client-reads-messages
