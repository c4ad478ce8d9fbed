use Rattle.std.proofs.Common.{reverse, ◌∙◌, ap}
use Rattle.std.proofs.Math.Seq.{take-length}
use Rattle.nq_model.specs.laws.Journal.{call_of}
use Rattle.nq_check.proofs.along.call_along.Goals as goal

pub returns : goal.returns
returns c = c.call_before.ensures ∙ ap (λ l. call_of (reverse l) c.args.by.now c.args.n) (take-length c.args.whole.now)
