use Rattle.std.proofs.Common.{◌≡◌, reverse, take}
use Rattle.nq_rules.specs.Grants.{given}
use Rattle.nq_model.specs.laws.CutOff.{last_grant}
use Rattle.nq_rules.proofs.excused.last_grant.Given as goal

abbrev pub invariant-loop-entry : goal.invariant-loop-entry
invariant-loop-entry l = given l.last ≡ last_grant (reverse (take l.entry-index l.before)) l.by l.on
