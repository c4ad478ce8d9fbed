-- A turn with which a loop goes on made all of its steps.
use Rattle.std.proofs.Common.{ℕ, Bool}
use Rattle.nq_loop.specs.Looping.{Makes, Moment, rounds_due, turn_steps}
use Rattle.nq_loop.specs.Steps.{MakesAll}
use Rattle.nq_loop.specs.Turning.{Between, GoesOn}
use Rattle.nq_model.specs.protocol.World.{Head, run}

module _ (head : Head) (at after : Moment) where
  -- all steps of a turn were made, by a reading of the clock
  abbrev pub AllMade : Type 0
  AllMade = (reading : ℕ) × (moved : Bool) × MakesAll (Makes head) (turn_steps head.hosts (rounds_due (run head at.events).server.now reading)) moved at after

pub all-made : (head : Head) (at after : Between) → GoesOn head at after → AllMade head at.moment after.moment
all-made head at after goes = (goes.2.reading, goes.1, goes.2.made)
