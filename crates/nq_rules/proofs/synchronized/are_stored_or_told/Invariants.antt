use Rattle.std.proofs.Common.{◌≡◌, reverse, take, not, ◌||◌}
use Rattle.nq_model.specs.laws.JournalTest.{each}
use Rattle.nq_model.specs.laws.SynchronizedTest.{is_delayed_on, is_stored_or_told}
use Rattle.nq_rules.proofs.synchronized.are_stored_or_told.Given as goal

abbrev pub invariant-loop-place : goal.invariant-loop-place
invariant-loop-place l =
    l.all ≡ each (λ write. not (is_delayed_on l.by l.on write) || is_stored_or_told (reverse l.whole) (reverse l.stores) (reverse l.answered) write)
    (reverse (take l.place l.answered))
