-- The inner world is the run of the inner events, and an offer is no event of it.
use Rattle.std.proofs.Common.{◌≡◌, ℕ, ◌+◌, List, [], ◌∷◌, Option, Some, None, refl, sym, ap, ◌∙◌, subst, length, drop}
use Rattle.std.specs.Prelude.{slice_get}
use Rattle.nq_base.specs.declared.Event.{Event}
use Rattle.nq_base.specs.declared.Party.{Party}
use Rattle.nq_datagrams.specs.Messages.{bytes_of}
use Rattle.nq_model.specs.protocol.Client.{Client}
use Rattle.nq_model.specs.protocol.Message.{Packet}
use Rattle.nq_model.specs.protocol.World.{Head, World, run, step}
use Rattle.nq_stage.specs.Answering.{Answer, write, unstaged, own_stage, own_commit, staged, answered}
use Rattle.nq_stage.specs.Bodies.{Bodies}
use Rattle.nq_stage.specs.declared.messages.Commit.{Commit}
use Rattle.nq_stage.specs.declared.messages.Pushed.{Pushed}
use Rattle.nq_stage.specs.declared.messages.Written.{Written}
use Rattle.nq_stage.specs.Reading.{Stage}
use Rattle.nq_stage.specs.declared.run.event.StagedEvent.{StagedEvent}
use Rattle.nq_stage.specs.Outer.{Outer, Side, Outside, new_pool, outside_start}
use Rattle.nq_stage.specs.Outside.{sends, sends_as, sends_by, sends_from, sends_all, renewed, inner, inner_delivery, takes_stage, takes_commit}
use Rattle.nq_stage.specs.Outside.{served_commit, served_stage, to_server, told_side, heard_by, to_host, takes, delivers, sends_stage, offers_body}
use Rattle.nq_stage.specs.Outside.{offers, outside_step, outside_run}
use Rattle.nq_stage.specs.Theorem.{RunsInside, OffersStoreNothing}
use Rattle.nq_stage.specs.Hearing.{Told, acknowledged, again, other, told_by}
use Rattle.nq_stage.specs.Offering.{offer_of}
use Rattle.nq_stage.specs.Shortening.{shortening}

-- ---- what is sent changes nothing inside

-- the inner world, the inner events that were run, and the pool
abbrev pub Core : Outside → World × List Event × Bodies
Core o = (o.world, o.ran, o.pool)

sent : (o : Outside) (p : Outer) → Core (sends o p) ≡ Core o
unfolding sends
sent o p = refl

sent-as : (o : Outside) (number host : ℕ) (p : Packet) (side : Side) (short : Option (Pushed × ℕ)) → Core (sends_as o number host p side short) ≡ Core o
unfolding sends
sent-as o number host p side None = refl
sent-as o number host p side (Some push) = refl

sent-by : (o : Outside) (number host : ℕ) (p : Packet) (side : Option Side) → Core (sends_by o number host p side) ≡ Core o
unfolding sends
sent-by o number host p None = refl
sent-by o number host p (Some side) = sent-as o number host p side (shortening side.stager (bytes_of p.message))

pub core-from : (o : Outside) (number : ℕ) (p : Packet) (from : Party) → Core (sends_from o number p from) ≡ Core o
unfolding sends
core-from o number p Party.Server = refl
core-from o number p (Party.Client host) = sent-by o number host p (slice_get o.sides host)

pub core-all : (o : Outside) (number : ℕ) (ps : List Packet) → Core (sends_all o number ps) ≡ Core o
core-all o number [] = refl
core-all o number (p ∷ ps) = core-all (sends_from o number p p.sender) (number + 1) ps ∙ core-from o number p p.sender

-- the same without the pool
abbrev pub Inner : Outside → World × List Event
Inner o = (o.world, o.ran)

abbrev without-pool : World × List Event × Bodies → World × List Event
without-pool c = (c.0, c.1)

pub sent-from : (o : Outside) (number : ℕ) (p : Packet) (from : Party) → Inner (sends_from o number p from) ≡ Inner o
sent-from o number p from = ap without-pool (core-from o number p from)

pub sent-all : (o : Outside) (number : ℕ) (ps : List Packet) → Inner (sends_all o number ps) ≡ Inner o
sent-all o number ps = ap without-pool (core-all o number ps)

-- ---- an event is run

-- the pool after an inner event that led to this world: a crash makes a new one
abbrev pub pool_then : Event → World → Bodies → Bodies
pool_then (Event.Crash longest) w pool = new_pool w
pool_then event w pool = pool

pub core-ran : (o : Outside) (event : Event) (w : World) → Core (renewed o event w) ≡ (w, event ∷ o.ran, pool_then event w o.pool)
core-ran o (Event.Call host op) w = refl
core-ran o (Event.Deliver k) w = refl
core-ran o Event.ServerTick w = refl
core-ran o (Event.ClientTick host) w = refl
core-ran o (Event.Restart host) w = refl
core-ran o (Event.Crash longest) w = refl

pub ran : (o : Outside) (event : Event) (w : World) → Inner (renewed o event w) ≡ (w, event ∷ o.ran)
ran o event w = ap without-pool (core-ran o event w)

pub inner-ran : (o : Outside) (event : Event) → Core (inner o event) ≡ (step o.world event, event ∷ o.ran, pool_then event (step o.world event) o.pool)
inner-ran o event =
    let w = step o.world event in
    core-all (renewed o event w) (length o.world.packets) (drop (length o.world.packets) w.packets) ∙ core-ran o event w

-- ---- a delivery

-- A delivery takes in a STAGE, or runs the delivery of an inner packet, or does neither. What is shown of each holds after it.
module _ (o : Outside) (Q : World × List Event × Bodies → Type 0) (stays : Q (Core o)) (stages : (s : Stage)
    → Q (o.world, o.ran, (staged o.pool s).1)) (goes : (number : ℕ) → Q (step o.world (Event.Deliver number), Event.Deliver number ∷ o.ran, o.pool)) where
  quiet : (u : Outside) → Core u ≡ Core o → Q (Core u)
  quiet u same = subst Q (sym same) stays

  delivered : (u : Outside) (stands : Option ℕ) → Core u ≡ Core o → Q (Core (inner_delivery u stands))
  delivered u None same = quiet u same
  delivered u (Some number) same = subst Q (sym (inner-ran u (Event.Deliver number) ∙ ap (λ i. (
    step i.0 (Event.Deliver number),
    Event.Deliver number
        ∷ i.1,
    i.2,
  )) same)) (goes number)

  staging : (host : ℕ) (s : Stage) → Q (Core (takes_stage o host (staged o.pool s)))
  unfolding takes_stage sends
  staging host s = stages s

  committing : (host : ℕ) (stands : Option ℕ) (a : Answer) → Q (Core (takes_commit o host stands a))
  unfolding sends
  committing host stands (write bytes) = delivered (record o { counts = record o.counts { commits = o.counts.commits + 1 } }) stands refl
  committing host stands (unstaged bytes) = stays

  serving-commit : (host : ℕ) (p : Outer) (c : Option Commit) → Q (Core (served_commit o host p c))
  serving-commit host p None = delivered o p.stands refl
  serving-commit host p (Some c) = committing host p.stands (answered o.pool c)

  serving-stage : (host : ℕ) (p : Outer) (s : Option Stage) → Q (Core (served_stage o host p s))
  serving-stage host p None = serving-commit host p (own_commit host p.bytes)
  serving-stage host p (Some s) = staging host s

  at-server : (p : Outer) (from : Party) → Q (Core (to_server o p from))
  at-server p Party.Server = delivered o p.stands refl
  at-server p (Party.Client host) = serving-stage host p (own_stage host p.bytes)

  telling : (host : ℕ) (side : Side) (t : Told) → Q (Core (told_side o host side t))
  unfolding sends
  telling host side (again bytes) = stays
  telling host side (acknowledged w verifier) = stays
  telling host side other = stays

  hearing : (host : ℕ) (p : Outer) (side : Option Side) → Q (Core (heard_by o host p side))
  hearing host p None = stays
  hearing host p (Some side) = telling host side (told_by side.stager p.bytes)

  at-host : (host : ℕ) (p : Outer) (stands : Option ℕ) → Q (Core (to_host o host p stands))
  at-host host p (Some number) = delivered o (Some number) refl
  at-host host p None = hearing host p (slice_get o.sides host)

  taking : (p : Outer) (to : Party) → Q (Core (takes o p to))
  taking p Party.Server = at-server p p.sender
  taking p (Party.Client host) = at-host host p p.stands

  pub delivery-cases : (p : Option Outer) → Q (Core (delivers o p))
  delivery-cases None = stays
  delivery-cases (Some p) = taking p p.to

-- ---- an offer

offering-body : (o : Outside) (host : ℕ) (side : Side) (b : Option (Written × List ℕ)) → Core (offers_body o host side b) ≡ Core o
unfolding sends_stage sends
offering-body o host side None = refl
offering-body o host side (Some b) = refl

pub core-offering : (o : Outside) (host : ℕ) (side : Option Side) (c : Option Client) → Core (offers o host side c) ≡ Core o
core-offering o host (Some side) (Some c) = offering-body o host side (offer_of side.stager c.dirty c.push)
core-offering o host None c = refl
core-offering o host (Some side) None = refl

pub offers-store-nothing : OffersStoreNothing
offers-store-nothing o host = ap (λ i. i.0) (core-offering o host (slice_get o.sides host) (slice_get o.world.clients host))

-- ---- a staged schedule

-- an inner world is the run of these events
abbrev Runs : Head → World × List Event × Bodies → Type 0
Runs head i = i.0 ≡ run head i.1

runs-on : (head : Head) (o : Outside) (event : Event) → Runs head (Core o) → Runs head (Core (inner o event))
runs-on head o event h = subst (Runs head) (sym (inner-ran o event)) (ap (λ v. step v event) h)

stepping : (head : Head) (o : Outside) (event : StagedEvent) → Runs head (Core o) → Runs head (Core (outside_step o event))
stepping head o (StagedEvent.Stage host) h = subst (Runs head) (sym (core-offering o host (slice_get o.sides host) (slice_get o.world.clients host))) h
stepping head o (StagedEvent.Plain (Event.Deliver number)) h = delivery-cases o (Runs head) h (λ s. h) (λ k. ap (λ v. step v (Event.Deliver k)) h)
    (slice_get o.sent number)
stepping head o (StagedEvent.Plain (Event.Call host op)) h = runs-on head o (Event.Call host op) h
stepping head o (StagedEvent.Plain Event.ServerTick) h = runs-on head o Event.ServerTick h
stepping head o (StagedEvent.Plain (Event.ClientTick host)) h = runs-on head o (Event.ClientTick host) h
stepping head o (StagedEvent.Plain (Event.Restart host)) h = runs-on head o (Event.Restart host) h
stepping head o (StagedEvent.Plain (Event.Crash longest)) h = runs-on head o (Event.Crash longest) h

pub runs-inside : RunsInside
unfolding outside_start
runs-inside head [] = refl
runs-inside head (event ∷ earlier) = stepping head (outside_run head earlier) event (runs-inside head earlier)
