use Rattle.std.proofs.Common.{◌≡◌, ◌++◌, filter, take}
use Rattle.nq_client_parts.specs.Lost.{is_beside}
use Rattle.nq_client_parts.proofs.losses.copy_side.Given as goal

abbrev pub invariant-loop-loss : goal.invariant-loop-loss
invariant-loop-loss l = l.into.items ≡ l.fn.into.items ++ filter (is_beside l.past l.file) (take l.loss-index l.losses)
