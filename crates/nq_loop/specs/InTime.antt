-- A run in which all arrives in time: before the clocks tick, and each link keeps its order. Events are told with the newest first.
use Rattle.std.specs.Prelude.{ℕ, ◌==◌, ◌&&◌, ◌||◌, not, Bool, true, false, List, [], ◌∷◌}
use Rattle.nq_base.specs.declared.Event.{Event}
use Rattle.nq_model.specs.protocol.Lines.{Play, play}
use Rattle.nq_model.specs.protocol.World.{Head}
use Rattle.law_rounds.specs.DeliveryEnds.{calmed}
use Rattle.law_rounds.specs.WholeRounds.{is_next}

-- a run as it is played from the start, with what is under way after it
abbrev pub played : Head → List Event → Play
played head [] = calmed head [] []
played head (event ∷ earlier) = play (played head earlier) event

-- whether nothing is under way
abbrev pub none_under_way : List ℕ → Bool
none_under_way [] = true
none_under_way (k ∷ under_way) = false

-- whether an event comes in time: a packet as the next of its link, and the first tick of a round when nothing is under way
abbrev pub comes_in_time : Play → Event → Bool
comes_in_time p (Event.Deliver k) = is_next p.world.packets p.fresh k
comes_in_time p (Event.ClientTick host) = not (host == 0) || none_under_way p.fresh
comes_in_time p other = true

-- whether each event of a run does
abbrev pub all_in_time : Head → List Event → Bool
all_in_time head [] = true
all_in_time head (event ∷ earlier) = comes_in_time (played head earlier) event && all_in_time head earlier
