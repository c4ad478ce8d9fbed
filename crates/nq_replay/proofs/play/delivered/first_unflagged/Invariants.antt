use Rattle.std.proofs.Common.{length, ◌-◌, ◌≡◌, ◌≤◌, ◌<◌, ℕ, true, false, slice_index_or}
use Rattle.nq_replay.proofs.play.delivered.first_unflagged.Given as goal

abbrev pub invariant-loop-packet : goal.invariant-loop-packet
invariant-loop-packet l = record {
  from : l.from ≤ l.packet;
  flagged : (packet : ℕ) → l.from ≤ packet → packet < l.packet → slice_index_or l.flags packet false ≡ true;
}

abbrev pub decreases-loop-packet : goal.decreases-loop-packet
decreases-loop-packet l = length l.flags - l.packet
