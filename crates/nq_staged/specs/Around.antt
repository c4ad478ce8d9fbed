-- What stands around an inner world as the code keeps it, and the world with staged writes that it shows.
use Rattle.std.specs.Prelude.{◌≡◌, ℕ, ◌+◌, Bool, true, false, List, [], ◌∷◌, ◌++◌, Option, Some, None, drop, slice_get, slice_set}
use Rattle.nq_base.specs.declared.Event.{Event}
use Rattle.nq_base.specs.declared.Party.{Party}
use Rattle.nq_base.specs.declared.Push.{Push}
use Rattle.nq_model.specs.protocol.World.{World}
use Rattle.nq_link.specs.Packets.{Datagram}
use Rattle.nq_stage.specs.Bodies.{Bodies}
use Rattle.nq_stage.specs.declared.Pushed.{Pushed}
use Rattle.nq_stage.specs.declared.Written.{Written}
use Rattle.nq_stage.specs.Offering.{offer_of, offered}
use Rattle.nq_stage.specs.Shortening.{shortening, shortened}
use Rattle.nq_stage.specs.declared.run.event.StagedCounts.{StagedCounts}
use Rattle.nq_stage.specs.Outer.{Outer, Counts, Side, Outside, new_pool}
use Rattle.nq_stage.specs.Outside.{sends, sends_all, standing, side_of, new_side}

-- the pool, the sides by host, what travels with the oldest first, the packet that goes out next, how many packets of the inner world
-- have gone out, and the counts
pub record AroundOver : Type 0 where
  pub pool : Bodies
  pub sides : List Side
  pub sent : List Outer
  pub due : Option Outer
  pub gone : ℕ
  pub counts : Counts

-- the counts of the code
abbrev pub counts_of : StagedCounts → Counts
counts_of c = record { staged = c.staged; commits = c.commits; unstaged = c.unstaged }

-- a datagram as it travels outside
abbrev pub outer_of : Datagram → Option ℕ → Outer
outer_of d stands = record { sender = d.sender; to = d.to; bytes = d.bytes; stands = stands }

-- what travels outside as a datagram
abbrev pub datagram_of : Outer → Datagram
datagram_of p = record { sender = p.sender; to = p.to; bytes = p.bytes }

-- datagrams with the inner packets for which they stand
abbrev pub travelling : List Datagram → List (Option ℕ) → List Outer
travelling [] stands = []
travelling (d ∷ ds) [] = []
travelling (d ∷ ds) (s ∷ stands) = outer_of d s ∷ travelling ds stands

-- nothing stands around a new inner world but these sides and an empty pool
abbrev pub new_around : (boot : ℕ) → List Side → AroundOver
new_around boot sides = record {
  pool = record { boot = boot; bodies = [] };
  sides = sides;
  sent = [];
  due = None;
  gone = 0;
  counts = record { staged = 0; commits = 0; unstaged = 0 };
}

-- ---- what it shows

-- around this inner world, which ran these events, without what is still to go out
abbrev pub over : World → List Event → AroundOver → Outside
over w ran a = record { world = w; pool = a.pool; sides = a.sides; sent = a.sent; ran = ran; counts = a.counts }

-- what is due goes out
abbrev pub with_due : Option Outer → Outside → Outside
with_due None o = o
with_due (Some p) o = sends o p

-- the same, once what is due has gone out
abbrev pub once_sent : World → List Event → AroundOver → Outside
once_sent w ran a = with_due a.due (over w ran a)

-- the same, once all that the inner world sent has gone out as well
abbrev pub shown : World → List Event → AroundOver → Outside
shown w ran a = sends_all (once_sent w ran a) a.gone (drop a.gone w.packets)

-- all that so many inner packets make has gone out
pub record IsSettled (packets : ℕ) (a : AroundOver) : Type 0 where
  pub none_due : a.due ≡ None
  pub all_gone : packets ≡ a.gone

-- ---- going out

-- what is due goes out
abbrev pub flushed_as : Option Outer → AroundOver → AroundOver
flushed_as None a = a
flushed_as (Some p) a = record a { sent = a.sent ++ p ∷ []; due = None }

abbrev pub flushed : AroundOver → AroundOver
flushed a = flushed_as a.due a

-- the bytes as which an inner packet of this number goes out through a side, and the side then
abbrev pub passed_as : (number : ℕ) → Side → List ℕ → Option (Pushed × ℕ) → List ℕ × Side
passed_as number side bytes None = (bytes, side)
passed_as number side bytes (Some push) =
    ((shortened side.stager push.0 push.1 bytes).0, side_of number (shortened side.stager push.0 push.1 bytes).1)

abbrev pub passed : (number : ℕ) → Side → List ℕ → List ℕ × Side
passed number side bytes = passed_as number side bytes (shortening side.stager bytes)

-- the same through the side of a host, if there is one
abbrev pub passed_at : (number : ℕ) → List Side → (host : ℕ) → List ℕ → Option Side → List ℕ × List Side
passed_at number sides host bytes None = (bytes, sides)
passed_at number sides host bytes (Some side) = ((passed number side bytes).0, slice_set sides host (passed number side bytes).1)

-- an inner packet is due, as these bytes
abbrev pub due_as : AroundOver → Datagram → (bytes : List ℕ) → List Side → AroundOver
due_as a d bytes sides =
    record a { sides = sides; due = Some (standing a.gone d.sender d.to bytes); gone = a.gone + 1 }

-- the next inner packet is due: a host's goes through that host's side
abbrev pub prepared_by : AroundOver → Datagram → List ℕ × List Side → AroundOver
prepared_by a d went = due_as a d went.0 went.1

abbrev pub prepared_from : AroundOver → Datagram → Party → AroundOver
prepared_from a d Party.Server = due_as a d d.bytes a.sides
prepared_from a d (Party.Client host) = prepared_by a d (passed_at a.gone a.sides host d.bytes (slice_get a.sides host))

abbrev pub prepared : AroundOver → Datagram → AroundOver
prepared a d = prepared_from a d d.sender

-- ---- offering

-- what a side offers of these delayed writes, and the side then
abbrev pub side_offers_as : Side → Option (Written × List ℕ) → Option (List ℕ) × Side
side_offers_as side None = (None, side)
side_offers_as side (Some b) = (Some (offered side.stager b.0 b.1).0, record side { stager = (offered side.stager b.0 b.1).1 })

abbrev pub side_offers : Side → List Push → Option Push → Option (List ℕ) × Side
side_offers side dirty push = side_offers_as side (offer_of side.stager dirty push)

-- the same of the side of a host, if there is one
abbrev pub offers_at : List Side → (host : ℕ) → List Push → Option Push → Option Side → Option (List ℕ) × List Side
offers_at sides host dirty push None = (None, sides)
offers_at sides host dirty push (Some side) = ((side_offers side dirty push).0, slice_set sides host (side_offers side dirty push).1)

-- ---- inner events

-- where a COMMIT was rebuilt, it is counted
abbrev pub counted : (commit : Bool) → Counts → Counts
counted true counts = record counts { commits = counts.commits + 1 }
counted false counts = counts

-- an inner event was run, which led to this inner world: a crash makes a new pool, a restart a new side
abbrev pub renewed_around : Event → World → AroundOver → AroundOver
renewed_around (Event.Crash longest) w a = record a { pool = new_pool w }
renewed_around (Event.Restart host) w a = record a { sides = new_side (slice_get w.clients host) a.sides host }
renewed_around event w a = a
