use Rattle.std.proofs.Common.{◌≡◌, ◌+◌, ◌-◌, ◌≤◌, length}
use Rattle.nq_disk.specs.Record.{wrong_range}
use Rattle.nq_disk.proofs.redo.area.Area.wrong_range.Given as goal

abbrev pub invariant-loop-turn : goal.invariant-loop-turn
invariant-loop-turn l = record {
  same : wrong_range l.self.place l.self.size l.self.bound (l.count - l._turn) l.end l.at l.rest ≡ wrong_range l.self.place l.self.size l.self.bound
      l.count l.len (l.self.place + 16) l.bytes;
  within : l.at + length l.rest ≤ l.self.place + l.self.size;
}
