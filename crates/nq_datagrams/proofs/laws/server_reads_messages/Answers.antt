use Rattle.nq_datagrams.proofs.Readers.{server-reads-messages}
use Rattle.nq_datagrams.proofs.laws.server_reads_messages.Goals as goal

pub returns : goal.returns
returns c = server-reads-messages
