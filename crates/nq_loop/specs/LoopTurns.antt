-- The turns of a loop, one after another, each of which made all of its steps.
use Rattle.std.specs.Prelude.{◌≡◌, ℕ, Bool, false, zero, suc}
use Rattle.nq_loop.specs.Looping.{Makes, Moment, rounds_due, turn_steps}
use Rattle.nq_loop.specs.Steps.{MakesAll}
use Rattle.nq_loop.specs.Turning.{all_answered}
use Rattle.nq_model.specs.protocol.World.{Head, run}

-- a turn made all of its steps, by a reading of the clock
pub record MakesTurn (head : Head) (at after : Moment) : Type 0 where
  pub reading : ℕ
  pub moved : Bool
  pub made : MakesAll (Makes head) (turn_steps head.hosts (rounds_due (run head at.events).server.now reading)) moved at after

-- so many turns did, each while a call was left
abbrev pub MakesTurns : Head → (count : ℕ) → (at after : Moment) → Type 0
MakesTurns head zero at after = after ≡ at
MakesTurns head (suc count) at after =
    (between : Moment) × MakesTurns head count at between × (all_answered head between.events ≡ false) × MakesTurn head between after
