-- That this law speaks of something: a run with a recovery behind it, a dead writer, a dead reader and a busy host meets its premises.
use Rattle.std.specs.Prelude.{◌≡◌, ℕ, ◌+◌, Bool, true, false, nat_lt, List, [], ◌∷◌, Option, Some, None, is_some, slice_get, zero, suc}
use Rattle.nq_base.specs.Block.{filled}
use Rattle.nq_base.specs.declared.Call.{Call}
use Rattle.nq_base.specs.declared.Event.{Event}
use Rattle.nq_model.specs.protocol.Client.{Client, UnderWay}
use Rattle.nq_model.specs.protocol.Lines.{Play}
use Rattle.nq_model.specs.protocol.Skew.{is_within_skew}
use Rattle.nq_model.specs.protocol.World.{Head}
use Rattle.law_rounds.specs.DeliveryEnds.{calmed}
use Rattle.law_rounds.specs.QuietDeliveries.{recovers}
use Rattle.law_timely.specs.NobodyIsWaitedFor.{needs_no_lease, longest_wait}
use Rattle.law_timely.specs.Timely.{play_events, is_timely, ticks_to_settle}

-- four hosts, terms of 6 ticks, and two files of one block
abbrev pub met_head : Head
met_head = record { hosts = 4; term = 6; longest = 6; files = ((97 ∷ []), 1) ∷ ((98 ∷ []), 1) ∷ [] }

-- so many ticks of each clock
abbrev pub ticks : (count : ℕ) → List Event → List Event
ticks zero later = later
ticks (suc count) later =
    Event.ClientTick 0 ∷ Event.ClientTick 1 ∷ Event.ClientTick 2 ∷ Event.ClientTick 3 ∷ Event.ServerTick ∷ ticks count later

-- so many ticks of each clock, told with the newest first, behind earlier events
abbrev pub ticks_behind : (count : ℕ) → List Event → List Event
ticks_behind zero earlier = earlier
ticks_behind (suc count) earlier =
    Event.ServerTick ∷ Event.ClientTick 3 ∷ Event.ClientTick 2 ∷ Event.ClientTick 1 ∷ Event.ClientTick 0 ∷ ticks_behind count earlier

-- the server crashes, and recovers for 14 ticks; then host 0 delays a write on a file, and host 1 reads the other; told with the newest first
abbrev pub met_events : List Event
met_events =
    Event.Deliver 3 ∷ Event.Deliver 2 ∷ Event.Call 1 (Call.Read 2 0) ∷ Event.Deliver 1 ∷ Event.Deliver 0
    ∷ Event.Call 0 (Call.Write 1 0 (filled 7)) ∷ ticks_behind 14 (Event.Crash 6 ∷ [])

-- from then on hosts 0 and 1 are dead
abbrev pub met_dead : List ℕ
met_dead = 0 ∷ 1 ∷ []

-- five ticks of each clock; host 2 reads what host 0 wrote, and is put off; host 3 looks up a name
abbrev pub met_settling : List Event
met_settling =
    ticks 5 (Event.Call 2 (Call.Read 1 0) ∷ Event.Deliver 6 ∷ Event.Deliver 8 ∷ Event.Call 3 (Call.Lookup (97 ∷ [])) ∷ [])

-- the name is looked up; host 2 asks again at every second tick of its own
abbrev pub met_rest : List Event
met_rest =
    Event.Deliver 9 ∷ Event.Deliver 10
    ∷ ticks 1 (Event.ClientTick 0 ∷ Event.ClientTick 1 ∷ Event.ClientTick 2 ∷ Event.Deliver 12 ∷ Event.Deliver 14 ∷ Event.ClientTick 3 ∷ Event.ServerTick
    ∷ ticks 1 (Event.ClientTick 0 ∷ Event.ClientTick 1 ∷ Event.ClientTick 2 ∷ Event.Deliver 16 ∷ Event.Deliver 18 ∷ Event.ClientTick 3 ∷ Event.ServerTick
    ∷ ticks 1 []))

abbrev pub met_start : Play
met_start = calmed met_head met_events []

abbrev pub met_moment : Play
met_moment = play_events met_settling met_start

abbrev pub met_later : Play
met_later = play_events met_rest met_moment

-- whether a client has an open call that needs no lease
abbrev pub call_needs_none : Option UnderWay → Bool
call_needs_none None = false
call_needs_none (Some u) = needs_no_lease u.call

abbrev pub waits_for_nobody : Option Client → Bool
waits_for_nobody None = false
waits_for_nobody (Some c) = call_needs_none c.call

-- whether a client has an open call
abbrev pub has_call : Option Client → Bool
has_call None = false
has_call (Some c) = is_some c.call

-- both parts are timely and within skew; the server serves; the name is looked up at once, and the read of the file of the dead writer waits
pub record TimelyIsMet : Type 0 where
  pub settles : is_timely met_dead met_start met_settling ≡ true
  pub goes_on : is_timely met_dead met_moment met_rest ≡ true
  pub within : is_within_skew 4 6 met_later.events ≡ true
  pub late : nat_lt (met_start.world.server.now + ticks_to_settle) (met_moment.world.server.now + 1) ≡ true
  pub later : nat_lt (met_moment.world.server.now + longest_wait) met_later.world.server.now ≡ true
  pub serves : recovers met_moment.world.server.phase ≡ false
  pub asks : waits_for_nobody (slice_get met_moment.world.clients 3) ≡ true
  pub answered : has_call (slice_get met_later.world.clients 3) ≡ false
  pub busy : has_call (slice_get met_later.world.clients 2) ≡ true
