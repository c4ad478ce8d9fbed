use Rattle.std.proofs.Common.{take}
use Rattle.nq_base.specs.Name.{IsNew}
use Rattle.nq_script.proofs.heads.is_new.Given as goal

abbrev pub invariant-loop-place : goal.invariant-loop-place
invariant-loop-place l = IsNew l.name (take l.place l.files)
