use Rattle.std.proofs.Common.{reverse, take}
use Rattle.nq_check.specs.Losses.{PassBetween, is_naming}
use Rattle.nq_check.specs.Namings.{IsNamed}
use Rattle.nq_model.specs.laws.Journal.{Each}
use Rattle.nq_check.proofs.namings.name_all.Given as goal

abbrev pub invariant-loop-place : goal.invariant-loop-place
invariant-loop-place l =
    Each (IsNamed l.names.named.entries) (reverse (take l.place l.whole)) × PassBetween (is_naming l.whole) l.whole 0 l.place
