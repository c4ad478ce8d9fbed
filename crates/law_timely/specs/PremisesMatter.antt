-- Without one of its premises the law that nobody is waited for is false: while the server recovers, of a dead host, out of skew, and where packets
-- need longer than a tick, a `lookup` waits beyond its time.
use Rattle.std.specs.Prelude.{◌≡◌, ℕ, ◌+◌, ◌&&◌, Bool, true, false, nat_lt, List, [], ◌∷◌, ◌++◌, slice_get, zero, suc}
use Rattle.nq_base.specs.declared.Call.{Call}
use Rattle.nq_base.specs.declared.Event.{Event}
use Rattle.nq_model.specs.protocol.Lines.{Play}
use Rattle.nq_model.specs.protocol.Skew.{is_within_skew}
use Rattle.nq_model.specs.protocol.World.{Head}
use Rattle.law_rounds.specs.DeliveryEnds.{calmed}
use Rattle.law_rounds.specs.QuietDeliveries.{recovers}
use Rattle.law_timely.specs.NobodyIsWaitedFor.{longest_wait}
use Rattle.law_timely.specs.Timely.{play_events, is_timely}
use Rattle.law_timely.specs.TimelyMet.{waits_for_nobody}

-- one host, terms of 6 ticks, and no file
abbrev pub lone_head : Head
lone_head = record { hosts = 1; term = 6; longest = 6; files = [] }

-- so many ticks of both clocks
abbrev pub both_tick : (count : ℕ) → List Event → List Event
both_tick zero later = later
both_tick (suc count) later = Event.ClientTick 0 ∷ Event.ServerTick ∷ both_tick count later

-- so many ticks of the server's clock alone
abbrev pub server_alone : (count : ℕ) → List Event
server_alone zero = []
server_alone (suc count) = Event.ServerTick ∷ server_alone count

abbrev pub looks_up : Event
looks_up = Event.Call 0 (Call.Lookup (97 ∷ []))

-- whether a call of host 0 that needs no lease is open behind the first part, and still open behind the second, in which the server's clock ticks
-- more than four times
abbrev pub waits_beyond : (from : Play) → (first second : List Event) → Bool
waits_beyond from first second =
    waits_for_nobody (slice_get (play_events first from).world.clients 0)
    && waits_for_nobody (slice_get (play_events second (play_events first from)).world.clients 0)
    && nat_lt ((play_events first from).world.server.now + longest_wait) (play_events second (play_events first from)).world.server.now

-- from here on the network is to be timely: behind a start, and behind a crash
abbrev pub fresh_start : Play
fresh_start = calmed lone_head [] []

abbrev pub crashed_start : Play
crashed_start = calmed lone_head (Event.Crash 6 ∷ []) []

-- five ticks, and a call
abbrev pub call_soon : List Event
call_soon = both_tick 5 (looks_up ∷ [])

-- five ticks, and a call that is put off
abbrev pub call_put_off : List Event
call_put_off = both_tick 5 (looks_up ∷ Event.Deliver 0 ∷ Event.Deliver 1 ∷ [])

-- it is put off again and again
abbrev pub put_off_again : List Event
put_off_again =
    both_tick 1 (Event.ClientTick 0 ∷ Event.Deliver 2 ∷ Event.Deliver 3 ∷ Event.ServerTick
    ∷ both_tick 1 (Event.ClientTick 0 ∷ Event.Deliver 4 ∷ Event.Deliver 5 ∷ Event.ServerTick ∷ both_tick 1 []))

-- a call that is put off by the last moment of a recovery, whose end follows
abbrev pub call_before_end : List Event
call_before_end = both_tick 13 (looks_up ∷ Event.Deliver 0 ∷ Event.Deliver 1 ∷ Event.ServerTick ∷ [])

-- each time one premise is missing, and the call waits
pub record PremisesMatter : Type 0 where
  pub recovering : waits_beyond crashed_start call_put_off put_off_again ≡ true
  pub recovering_timely : is_timely [] crashed_start (call_put_off ++ put_off_again) ≡ true
  pub recovers_then : recovers (play_events call_put_off crashed_start).world.server.phase ≡ true
  pub dead : waits_beyond fresh_start call_soon (both_tick 5 []) ≡ true
  pub dead_timely : is_timely (0 ∷ []) fresh_start (call_soon ++ both_tick 5 []) ≡ true
  pub slow_untimely : is_timely [] fresh_start (call_soon ++ both_tick 5 []) ≡ false
  pub out_of_skew : waits_beyond crashed_start call_before_end (server_alone 5) ≡ true
  pub out_of_skew_timely : is_timely [] crashed_start (call_before_end ++ server_alone 5) ≡ true
  pub serves_then : recovers (play_events call_before_end crashed_start).world.server.phase ≡ false
  pub skewed : is_within_skew 1 6 (play_events (call_before_end ++ server_alone 5) crashed_start).events ≡ false
