-- That this law speaks of something: a run in which a live host's row comes to be to go, and is given up before the next tick, meets its premises.
use Rattle.std.specs.Prelude.{◌≡◌, ℕ, ◌+◌, Bool, true, false, nat_lt, List, [], ◌∷◌, ◌++◌, Option, Some, None}
use Rattle.nq_base.specs.Block.{filled}
use Rattle.nq_base.specs.declared.Call.{Call}
use Rattle.nq_base.specs.declared.Event.{Event}
use Rattle.nq_base.specs.declared.Row.{Row}
use Rattle.nq_model.specs.protocol.Lines.{Play}
use Rattle.nq_model.specs.protocol.Skew.{is_within_skew}
use Rattle.nq_model.specs.protocol.Table.{find_row}
use Rattle.law_rounds.specs.DeliveryEnds.{calmed}
use Rattle.law_timely.specs.Timely.{play_events, is_timely, is_still, ticks_to_settle}
use Rattle.law_timely.specs.TimelyMet.{met_head, ticks}

-- host 0 is dead
abbrev pub gone_hosts : List ℕ
gone_hosts = 0 ∷ []

abbrev pub first_moment : Play
first_moment = calmed met_head [] []

-- five ticks of each clock
abbrev pub still_moment : Play
still_moment = play_events (ticks 5 []) first_moment

-- host 1 delays a write on a file, and host 2 reads it, and is put off
abbrev pub asked_back : List Event
asked_back =
    Event.Call 1 (Call.Write 2 0 (filled 7)) ∷ Event.Deliver 0 ∷ Event.Deliver 1 ∷ Event.Call 2 (Call.Read 2 0) ∷ Event.Deliver 2 ∷ []

-- the notice and the reply arrive; host 1 stores its write, and gives the lease up
abbrev pub gives_back : List Event
gives_back = Event.Deliver 3 ∷ Event.Deliver 4 ∷ Event.Deliver 5 ∷ Event.Deliver 6 ∷ Event.Deliver 7 ∷ []

abbrev pub asked_moment : Play
asked_moment = play_events asked_back still_moment

abbrev pub given_moment : Play
given_moment = play_events gives_back asked_moment

-- whether there is a row that is to go
abbrev pub is_to_go : Option Row → Bool
is_to_go None = false
is_to_go (Some row) = row.evicting

-- all of it is timely and within skew; the row is to go while packets are under way, and at no tick
pub record GivenUpIsMet : Type 0 where
  pub settles : is_timely gone_hosts first_moment (ticks 5 []) ≡ true
  pub late : nat_lt (first_moment.world.server.now + ticks_to_settle) (still_moment.world.server.now + 1) ≡ true
  pub still : is_still gone_hosts still_moment.world.packets still_moment.fresh ≡ true
  pub goes_on : is_timely gone_hosts still_moment (asked_back ++ gives_back) ≡ true
  pub within : is_within_skew 4 6 given_moment.events ≡ true
  pub told : is_to_go (find_row 2 1 asked_moment.world.server.table.rows) ≡ true
  pub still_again : is_still gone_hosts given_moment.world.packets given_moment.fresh ≡ true
  pub given_up : is_to_go (find_row 2 1 given_moment.world.server.table.rows) ≡ false
