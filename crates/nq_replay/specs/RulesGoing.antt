-- What playing over a world does, beside what it is to do by the world's rules. Below, `plays` tells whether a world has come to a moment,
-- and `flags` tells which packets were delivered.
use Rattle.std.specs.Prelude.{◌≡◌, ◌<◌, ℕ, Bool, List, Option, Some, None}
use Rattle.nq_model.specs.protocol.Stepped.{done}
use Rattle.nq_model.specs.protocol.World.{Head}
use Rattle.nq_replay.specs.Delivering.{Marks}
use Rattle.nq_replay.specs.Rules.{Rules}
use Rattle.nq_world.specs.Answering.{told as answer_of}
use Rattle.nq_world.specs.declared.stepped.Stepped.{Stepped}

-- What a step does to a world that has come to a moment, by the answer: the event was to be taken, and the world has come to the moment
-- behind it; or the answer is that of the rules. A keeper may fail, and memory may be wanting.
abbrev pub StepsBy : {E A S W : Type 0} → Rules E A S → (plays : Head → S → W → Type 0) → Head → S → E → Stepped → W → Type 0
StepsBy rules plays head moment event Stepped.Done new = (rules.answer head moment event ≡ done) × plays head (rules.more moment event) new
StepsBy rules plays head moment event Stepped.Fault new = Unit {0}
StepsBy rules plays head moment event Stepped.Memory new = Unit {0}
StepsBy rules plays head moment event said new = answer_of (rules.answer head moment event) ≡ said

-- a world has come to a moment, and the flags tell which packets were delivered before it
pub record IsAt {E A S W : Type 0} (rules : Rules E A S) (plays : Head → S → W → Type 0) (head : Head) (moment : S) (w : W) (flags : List Bool)
    : Type 0 where
  pub playing : plays head moment w
  pub marks : Marks flags (rules.scheduled moment)

-- of so many packets this one is flagged, if there is one
abbrev pub IsFlagged : (packets : ℕ) → Option ℕ → Type 0
IsFlagged packets None = Unit {0}
IsFlagged packets (Some packet) = packet < packets

-- an answer that is no fault of a keeper
abbrev pub IsNoFault : Stepped → Type 0
IsNoFault Stepped.Fault = ⊥
IsNoFault other = Unit {0}
