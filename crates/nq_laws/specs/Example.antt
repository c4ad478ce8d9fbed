-- A schedule with its journal.
use Rattle.std.specs.Prelude.{List, [], ◌∷◌, ◌≡◌, ℕ, Bool, true, ◌&&◌, map}
use Rattle.nq_base.specs.declared.Entry.{Entry}
use Rattle.nq_model.specs.protocol.Lines.{Line, Play, play_all}
use Rattle.nq_model.specs.protocol.Skew.{is_within_skew}
use Rattle.nq_model.specs.protocol.World.{Head}

-- a schedule, as its head and its lines, and the journal that it makes, the newest entry first
pub record Example : Type 0 where
  pub head : Head
  pub lines : List Line
  pub journal : List Entry

-- more deliveries than any `flow` of the examples makes
abbrev pub deliveries : ℕ
deliveries = 200

-- the run of an example's schedule
abbrev pub played : Example → Play
played example = play_all deliveries example.head example.lines

-- the journal that the run makes
abbrev pub journal_made : Example → List Entry
journal_made example = (played example).world.journal

-- the journal that the example gives
abbrev pub journal_given : Example → List Entry
journal_given example = example.journal

-- the runs of these schedules make the journals that are given
abbrev pub RunAsGiven : List Example → Type 0
RunAsGiven examples = map journal_made examples ≡ map journal_given examples

-- whether a schedule is within skew
abbrev pub is_fair : Example → Bool
is_fair example = is_within_skew example.head.hosts example.head.longest (played example).events

abbrev pub are_fair : List Example → Bool
are_fair [] = true
are_fair (example ∷ examples) = is_fair example && are_fair examples
