-- A timely network: what goes between the server and a live host arrives in order, and before any clock ticks; whatever goes to or from a dead
-- host is lost.
use Rattle.std.specs.Prelude.{◌≡◌, ℕ, ◌==◌, ◌&&◌, not, Bool, true, false, List, [], ◌∷◌, Option, Some, None, slice_get}
use Rattle.std.specs.List.{list_any}
use Rattle.nq_base.specs.declared.Event.{Event}
use Rattle.nq_base.specs.declared.Party.{Party}
use Rattle.nq_model.specs.protocol.Lines.{Play, play}
use Rattle.nq_model.specs.protocol.Message.{Packet}
use Rattle.law_rounds.specs.WholeRounds.{is_next}

-- ---- who is dead

-- whether a host is one of the dead
abbrev pub is_dead : (dead : List ℕ) → (host : ℕ) → Bool
is_dead dead host = list_any (λ h. h == host) dead

-- whether a party is the server or a live host
abbrev pub lives : (dead : List ℕ) → Party → Bool
lives dead Party.Server = true
lives dead (Party.Client host) = not (is_dead dead host)

-- whether a packet, if it was sent, goes between the server and a live host
abbrev pub goes_on_live_link : (dead : List ℕ) → Option Packet → Bool
goes_on_live_link dead None = false
goes_on_live_link dead (Some p) = lives dead p.sender && lives dead p.to

-- whether nothing of this is under way between the server and a live host
abbrev pub is_still : (dead : List ℕ) → (sent : List Packet) → (under_way : List ℕ) → Bool
is_still dead sent [] = true
is_still dead sent (k ∷ under_way) = not (goes_on_live_link dead (slice_get sent k)) && is_still dead sent under_way

-- ---- events

-- whether an event is timely: anybody calls anything; a packet arrives that is the next of a live link; a clock ticks while nothing is under way
-- on any live link. Nobody starts again, and nothing of a dead host arrives
abbrev pub is_timely_event : (dead : List ℕ) → Play → Event → Bool
is_timely_event dead p (Event.Call host op) = true
is_timely_event dead p (Event.Deliver k) =
    goes_on_live_link dead (slice_get p.world.packets k) && is_next p.world.packets p.fresh k
is_timely_event dead p Event.ServerTick = is_still dead p.world.packets p.fresh
is_timely_event dead p (Event.ClientTick host) = is_still dead p.world.packets p.fresh
is_timely_event dead p (Event.Restart host) = false
is_timely_event dead p (Event.Crash longest) = false

-- events are played, which are told with the oldest first
abbrev pub play_events : List Event → Play → Play
play_events [] p = p
play_events (event ∷ later) p = play_events later (play p event)

-- whether all of them are timely
abbrev pub is_timely : (dead : List ℕ) → Play → List Event → Bool
is_timely dead p [] = true
is_timely dead p (event ∷ later) = is_timely_event dead p event && is_timely dead (play p event) later

-- a timely part of a run leads from one moment to another
pub record LeadsTo (dead : List ℕ) (from to : Play) : Type 0 where
  pub part : List Event
  pub is_timely_part : is_timely dead from part ≡ true
  pub leads : play_events part from ≡ to

-- after so many ticks of the server's clock each request of a live host that was lost before was sent again: two ticks of the host's own, and the
-- skew
abbrev pub ticks_to_settle : ℕ
ticks_to_settle = 5
