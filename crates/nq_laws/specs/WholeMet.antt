-- That the laws of whole rounds speak of something, and that links have to keep their order.
use Rattle.std.specs.Prelude.{◌≡◌, ◌≤◌, ℕ, ◌+◌, ◌*◌, Bool, true, false, List, [], ◌∷◌, Option, Some, None, is_some, length, slice_get, zero, suc}
use Rattle.nq_base.specs.Block.{filled}
use Rattle.nq_base.specs.declared.Call.{Call}
use Rattle.nq_base.specs.declared.Event.{Event}
use Rattle.nq_model.specs.protocol.Client.{Client}
use Rattle.nq_model.specs.protocol.Lines.{Play}
use Rattle.nq_model.specs.protocol.World.{Head, run}
use Rattle.law_rounds.specs.DeliveryEnds.{AreUnderWay, calmed}
use Rattle.law_rounds.specs.CalmRoundsAreLawful.{IsLawful}
use Rattle.law_rounds.specs.QuietDeliveries.{recovers}
use Rattle.law_rounds.specs.RoundsEndQuiet.{IsSmall}
use Rattle.law_rounds.specs.WholeRounds.{whole_rounds, AreWhole, LinksKeepOrder, CanBeMade}
use Rattle.nq_laws.specs.WholeCallsAnswered.{served_rounds_for, open_calls, rounds_for}

-- whether a client has an open call
abbrev pub is_open : Option Client → Bool
is_open None = false
is_open (Some c) = is_some c.call

-- three hosts, terms of 6 ticks, and a file of one block
abbrev pub late_head : Head
late_head = record { hosts = 3; term = 6; longest = 6; files = ((97 ∷ []), 1) ∷ [] }

-- a crash, and then, while the server recovers, two reads at odds by a tick, and a put; the newest event first
abbrev pub late_events : List Event
late_events =
    Event.Call 2 (Call.Put 1 0 (filled 7)) ∷ Event.Call 0 (Call.Read 1 0) ∷ Event.ClientTick 1 ∷
    Event.Call 1 (Call.Read 1 0) ∷ Event.Crash 6 ∷ []

-- the law of whole rounds speaks of a schedule with a recovery: whole rounds answer all three calls. The put is open after more than half as many
pub record OpenCallsAreMet : Type 0 where
  pub lawful : IsLawful 6 late_head (calmed late_head late_events [])
  pub recovering : recovers (run late_head late_events).server.phase ≡ true
  pub calls : open_calls (run late_head late_events).clients ≡ 3
  pub made : CanBeMade (rounds_for 6 3) (calmed late_head late_events [])
  pub small : IsSmall (whole_rounds made.orders (calmed late_head late_events []))
  pub fewer : CanBeMade 18 (calmed late_head late_events [])
  pub half : rounds_for 6 3 ≤ 2 * 18
  pub unanswered : is_open (slice_get (whole_rounds fewer.orders (calmed late_head late_events [])).world.clients 2) ≡ true

-- two hosts, terms of 6 ticks, and a file of one block
abbrev pub pair_head : Head
pair_head = record { hosts = 2; term = 6; longest = 6; files = ((97 ∷ []), 1) ∷ [] }

-- a read and a put; the newest event first
abbrev pub pair_events : List Event
pair_events = Event.Call 1 (Call.Put 1 0 (filled 7)) ∷ Event.Call 0 (Call.Read 1 0) ∷ []

-- both requests are under way
abbrev pub both : List ℕ
both = 0 ∷ 1 ∷ []

abbrev pub pair_calmed : Play
pair_calmed = calmed pair_head pair_events both

-- whole rounds of them: the put hears that it is put off before the reader hears of its lease and gives it up, and it is answered in the third round
abbrev pub put_off_first : List (List ℕ)
put_off_first = (0 ∷ 1 ∷ 4 ∷ 2 ∷ 3 ∷ 5 ∷ []) ∷ [] ∷ (6 ∷ 7 ∷ []) ∷ [] ∷ [] ∷ [] ∷ [] ∷ [] ∷ [] ∷ [] ∷ [] ∷ []

-- the laws of whole rounds speak of these
pub record WholeRoundsAreMet : Type 0 where
  pub lawful : IsLawful 6 pair_head pair_calmed
  pub serves : recovers (run pair_head pair_events).server.phase ≡ false
  pub under_way : AreUnderWay (length (run pair_head pair_events).packets) both
  pub calls : open_calls (run pair_head pair_events).clients ≡ 2
  pub many : served_rounds_for 2 ≤ length put_off_first
  pub whole : AreWhole put_off_first pair_calmed
  pub links : LinksKeepOrder put_off_first pair_calmed
  pub small : IsSmall (whole_rounds put_off_first pair_calmed)
  pub unanswered : is_open (slice_get (whole_rounds ((0 ∷ 1 ∷ 4 ∷ 2 ∷ 3 ∷ 5 ∷ []) ∷ [] ∷ []) pair_calmed).world.clients 1) ≡ true

-- a round in which packets overtake others of their links, from this number on: a notice overtakes the grant that it takes back, and the request that is
-- sent anew overtakes the VACATED before it
abbrev pub overtaking : (first : ℕ) → List ℕ
overtaking n = n ∷ (n + 1) ∷ (n + 3) ∷ (n + 2) ∷ (n + 6) ∷ (n + 8) ∷ (n + 7) ∷ (n + 5) ∷ (n + 9) ∷ (n + 4) ∷ []

-- such rounds, each with one behind it in which both pause
abbrev pub overtakings : (count first : ℕ) → List (List ℕ)
overtakings zero first = []
overtakings (suc count) first = overtaking first ∷ [] ∷ overtakings count (first + 10)

-- by such rounds neither the read nor the put is answered: after more rounds than are enough where links keep their order both are open
pub record LinksMatter : Type 0 where
  pub whole : AreWhole (overtakings 12 0) pair_calmed
  pub many : rounds_for 6 2 ≤ length (overtakings 12 0)
  pub small : IsSmall (whole_rounds (overtakings 12 0) pair_calmed)
  pub open_read : is_open (slice_get (whole_rounds (overtakings 12 0) pair_calmed).world.clients 0) ≡ true
  pub open_put : is_open (slice_get (whole_rounds (overtakings 12 0) pair_calmed).world.clients 1) ≡ true
