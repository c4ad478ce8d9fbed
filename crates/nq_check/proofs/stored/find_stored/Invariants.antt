use Rattle.std.proofs.Common.{◌≡◌, length}
use Rattle.nq_check.specs.Stored.{AreStored}
use Rattle.nq_check.proofs.stored.find_stored.Given as goal

abbrev pub invariant-loop-place : goal.invariant-loop-place
invariant-loop-place l = (length l.stored.items ≡ l.place) × AreStored l.whole l.stored.items
