-- A schedule within skew, and one tick more.
use Rattle.std.specs.Prelude.{List, [], ◌∷◌}
use Rattle.nq_base.specs.declared.Event.{Event}
use Rattle.nq_model.specs.protocol.Skew.{IsWithinSkew}

-- a tick of the server's clock, a crash, a tick of each host's clock, and three ticks of the server's; the newest event
-- first
abbrev pub some_ticks : List Event
some_ticks =
    Event.ServerTick ∷ Event.ServerTick ∷ Event.ServerTick ∷ Event.ClientTick 1 ∷ Event.ClientTick 0 ∷ Event.Crash 60 ∷
    Event.ServerTick ∷ []

-- this is within skew, and with one more tick of the server's clock it is not
abbrev pub OneTickMore : Type 0
OneTickMore = IsWithinSkew 2 60 some_ticks × (IsWithinSkew 2 60 (Event.ServerTick ∷ some_ticks) → ⊥)
