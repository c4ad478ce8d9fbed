use Rattle.std.proofs.Common.{sym, ◌∙◌}
use Rattle.nq_rules.specs.Sought.{passes}
use Rattle.nq_rules.proofs.Places.{exists_there}
use Rattle.nq_check.proofs.along.is_there.Goals as goal

pub returns-in-Some : goal.returns-in-Some
returns-in-Some c =
    λ t. exists_there (passes c.args.sought) c.args.entries.now c.args.at c.in-Some.entry.now c.in-Some.ensures (sym c.passes.ensures ∙ t)
