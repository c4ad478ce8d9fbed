use Rattle.std.proofs.Common.{subst}
use Rattle.nq_base.specs.declared.ending.ending.Ending.{Ending}
use Rattle.nq_hosts.specs.Telling.{TellsSo, bytes_line}
use Rattle.nq_hosts.proofs.answers.telling.tell_bytes.Goals as goal

pub returns : goal.returns
unfolding bytes_line
returns g c =
    subst (λ number. TellsSo Ending.Limit (bytes_line number) c.tell_number.result (g.K.Sink.held c.args.out.now) (g.K.Sink.held c.tell_number.new.out)
    (g.K.Sink.faults c.args.out.now) (g.K.Sink.faults c.tell_number.new.out)) c.line_of_last-number.ensures c.tell_number.ensures
