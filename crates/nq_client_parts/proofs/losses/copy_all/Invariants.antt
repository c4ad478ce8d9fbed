use Rattle.std.proofs.Common.{◌≡◌, ◌++◌, take}
use Rattle.nq_client_parts.proofs.losses.copy_all.Given as goal

abbrev pub invariant-loop-place : goal.invariant-loop-place
invariant-loop-place l = l.into.items ≡ l.fn.into.items ++ take l.place l.losses.items
