use Rattle.std.proofs.Common.{reverse, ◌∙◌, ap}
use Rattle.std.proofs.Math.Seq.{take-length}
use Rattle.nq_model.specs.laws.JournalTest.{exists}
use Rattle.nq_rules.specs.Sought.{passes}
use Rattle.nq_check.proofs.along.is_somewhere.Goals as goal

pub returns : goal.returns
returns c = c.is_before.ensures ∙ ap (λ l. exists (passes c.args.sought) (reverse l)) (take-length c.args.whole.now)
