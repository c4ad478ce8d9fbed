use Rattle.std.proofs.Common.{◌≡◌, drop}
use Rattle.nq_stage.specs.Offering.{first_unknown}
use Rattle.nq_stage.proofs.stager.stager.Stager.first_unknown.Given as goal

-- those before the place are acknowledged, so the first one of all is the first one from there on
abbrev pub invariant-loop-place : goal.invariant-loop-place
invariant-loop-place l = first_unknown l.self.who l.self.acknowledged (drop l.place l.dirty.dirty) ≡ first_unknown l.self.who l.self.acknowledged l.dirty.dirty
