use Rattle.std.proofs.Common.{◌≡◌, ◌≤◌, ◌-◌, length}
use Rattle.nq_cache.specs.Entries.{walked}
use Rattle.nq_cache.proofs.entries.walk.Given as goal

abbrev pub invariant-loop : goal.invariant-loop
invariant-loop l =
    (l.entries.entries ≡ walked l.file (length l.initial.entries.entries - l.counter) l.initial.entries.entries)
    × (l.entries.cap ≡ l.initial.entries.cap)
    × (l.counter ≤ l.times)
