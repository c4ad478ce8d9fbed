use Rattle.std.proofs.Common.{◌≡◌, ◌≤◌, ◌++◌, length, filter, map}
use Rattle.nq_model.specs.protocol.Client.{is_push_of}
use Rattle.nq_model.specs.protocol.Hear.{loss_of}
use Rattle.nq_client_parts.specs.DirtyEntries.{delayed}
use Rattle.nq_client_parts.proofs.dirty.entries.add_losses.Given as goal

-- what is left to add makes up the whole, and has room
abbrev pub invariant-loop-key : goal.invariant-loop-key
invariant-loop-key l =
    (l.into.items ++ map loss_of (filter (is_push_of l.file) (delayed l.key-iterator)) ≡ l.initial.into.items ++ map loss_of
    (filter (is_push_of l.file) (delayed l.entries.entries)))
    × (length (filter (is_push_of l.file) (delayed l.key-iterator)) ≤ l.into.spare)
