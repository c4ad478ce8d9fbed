use Rattle.std.proofs.Common.{◌∙◌}
use Rattle.nq_service.proofs.serving.serve_store.Goals as goal

pub returns : goal.returns
returns g c = record {
  serves = record {
    end = c.serve-served.result.end;
    served = c.serve-served.result.left;
    between = g.K.Sink.held c.serve-served.new.out;
    count = g.K.Sink.faults c.serve-served.new.out;
    handed = c.tell_end.ensures.disk ∙ c.into_disk.ensures;
    same = c.serve-served.ensures.follows;
    tells = c.serve-served.ensures.serves;
    cause = c.serve-served.ensures.cause;
    prints = c.tell_end.ensures.prints;
  };
}
