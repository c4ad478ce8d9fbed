-- The inner world is the run of the inner events, and to ask for a list is no event of it.
use Rattle.std.proofs.Common.{◌≡◌, ℕ, ◌+◌, ◌==◌, ◌&&◌, not, Bool, true, false, List, [], ◌∷◌, Option, Some, None, refl, sym, ap, ◌∙◌, subst, length}
use Rattle.std.proofs.Common.{drop, if◌then◌else◌}
use Rattle.std.specs.Prelude.{slice_get, slice_set}
use Rattle.nq_base.specs.declared.Event.{Event}
use Rattle.nq_base.specs.declared.Party.{Party}
use Rattle.nq_datagrams.specs.Incoming.{datagram_in}
use Rattle.nq_directory.specs.declared.listing.messages.DirTag.{DirTag}
use Rattle.nq_directory.specs.declared.listing.messages.ReadDir.{ReadDir}
use Rattle.nq_directory.specs.Reading.{read_dir_in, dir_vacated_in}
use Rattle.nq_model.specs.protocol.Client.{Client}
use Rattle.nq_model.specs.protocol.Kept.{host_row}
use Rattle.nq_model.specs.protocol.Message.{Packet}
use Rattle.nq_model.specs.protocol.Server.{Phase, serving, recovering}
use Rattle.nq_model.specs.protocol.World.{Head, World, run, step}
use Rattle.nq_directory.specs.Asking.{Asks, heard, lists_dir}
use Rattle.nq_directory.specs.NameCacheNames.{Names}
use Rattle.nq_name_server.specs.Served.{leaf_behind}
use Rattle.nq_name_server.specs.Serving.{Serves, ToHost, holds_up, puts_off, reads_dir, vacates}
use Rattle.nq_name_server.specs.declared.run.event.NameEvent.{NameEvent}
use Rattle.nq_name_server.specs.Outer.{Outer, Outside, outside_start}
use Rattle.nq_name_server.specs.Outside.{Changes, beside, changes_as, delivers, asks_as, heard_by, held_or, inner, inside, is_changing, lists}
use Rattle.nq_name_server.specs.Outside.{outside_run, outside_step, passes, reads, reads_in, renewed, sends, sends_all, sends_from, sends_these}
use Rattle.nq_name_server.specs.Outside.{served_as, served_read, served_vacated, serves, takes, to_host, to_server}
use Rattle.nq_name_server.specs.Theorem.{ListsChangeNothing, RunsInside}

-- ---- what is sent changes nothing inside

-- the inner world, and the inner events that were run
abbrev pub Core : Outside → World × List Event
Core o = (o.world, o.ran)

core-all : (o : Outside) (number : ℕ) (ps : List Packet) → Core (sends_all o number ps) ≡ Core o
unfolding sends
core-all o number [] = refl
core-all o number (p ∷ ps) = core-all (sends o (inside number p)) (number + 1) ps

core-these : (o : Outside) (ds : List ToHost) → Core (sends_these o ds) ≡ Core o
unfolding sends
core-these o [] = refl
core-these o (d ∷ ds) = core-these (sends o (beside Party.Server (Party.Client d.host) d.bytes)) ds

pub core-served : (o : Outside) (s : Serves) → Core (served_as o s) ≡ Core o
unfolding served_as
core-served o s = core-these (record o { served = s.served }) s.sends

core-from : (o : Outside) (host : ℕ) (bytes : Option (List ℕ)) → Core (sends_from o host bytes) ≡ Core o
unfolding sends
core-from o host None = refl
core-from o host (Some bytes) = refl

pub core-asked : (o : Outside) (host : ℕ) (a : Asks) → Core (asks_as o host a) ≡ Core o
unfolding asks_as
core-asked o host a = core-from (record o { sides = slice_set o.sides host a.names }) host a.sends

-- ---- an event is run

ran : (o : Outside) (event : Event) (w : World) → Core (renewed o event w) ≡ (w, event ∷ o.ran)
ran o (Event.Call host op) w = refl
ran o (Event.Deliver k) w = refl
ran o Event.ServerTick w = refl
ran o (Event.ClientTick host) w = refl
ran o (Event.Restart host) w = refl
ran o (Event.Crash longest) w = refl

pub inner-ran : (o : Outside) (event : Event) → Core (inner o event) ≡ (step o.world event, event ∷ o.ran)
inner-ran o event =
    let w = step o.world event in
    core-all (renewed o event w) (length o.world.packets) (drop (length o.world.packets) w.packets) ∙ ran o event w

-- ---- a delivery

-- A delivery runs the delivery of an inner packet, or leaves the inner world as it is. What is shown of both holds after it.
module _ (o : Outside) (Q : World × List Event → Type 0) (stays : Q (Core o)) (goes : (number : ℕ) → Q (
  step o.world (Event.Deliver number),
  Event.Deliver number ∷ o.ran,
)) where
  quiet : (u : Outside) → Core u ≡ Core o → Q (Core u)
  quiet u same = subst Q (sym same) stays

  going : (number : ℕ) → Q (Core (inner o (Event.Deliver number)))
  going number = subst Q (sym (inner-ran o (Event.Deliver number))) (goes number)

  holding : (number : ℕ) (s : Option Serves) → Q (Core (held_or o number s))
  holding number None = going number
  holding number (Some s) = quiet (served_as o s) (core-served o s)

  passing : (number : ℕ) (c : Option Changes) → Q (Core (passes o number c))
  passing number None = going number
  passing number (Some c) = holding number (holds_up o.served c.who c.prefix)

  reading-in : (r : ReadDir) (phase : Phase) → Q (Core (reads_in o r phase))
  reading-in r serving = quiet (served_as o (reads_dir o.served r (leaf_behind r.prefix r.after o.world.server.kept.files)))
      (core-served o (reads_dir o.served r (leaf_behind r.prefix r.after o.world.server.kept.files)))
  reading-in r (recovering until heard last) = quiet (served_as o (record { served = o.served; sends = puts_off r ∷ [] }))
      (core-served o (record { served = o.served; sends = puts_off r ∷ [] }))

  either : (b : Bool) (u : Outside) → Q (Core u) → Q (Core (if b then u else o))
  either true u h = h
  either false u h = stays

  reading : (host : ℕ) (r : ReadDir) → Q (Core (reads o host r))
  reading host r =
      either (r.who.host == host && r.who.inc == (host_row o.world.server.kept host).inc) (reads_in o r o.world.server.phase)
      (reading-in r o.world.server.phase)

  vacating : (host : ℕ) (t : Option DirTag) → Q (Core (served_vacated o host t))
  vacating host None = stays
  vacating host (Some t) = either (t.who.host == host) (record o { served = vacates o.served t }) stays

  serving-read : (host : ℕ) (bytes : List ℕ) (r : Option ReadDir) → Q (Core (served_read o host bytes r))
  serving-read host bytes None = vacating host (dir_vacated_in bytes)
  serving-read host bytes (Some r) = reading host r

  serving-packet : (host : ℕ) (p : Outer) (is : Option ℕ) → Q (Core (serves o host p is))
  serving-packet host p None = serving-read host p.bytes (read_dir_in p.bytes)
  serving-packet host p (Some number) = passing number (changes_as o.world.server.kept host (datagram_in p.bytes))

  at-server : (p : Outer) (from : Party) → Q (Core (to_server o p from))
  at-server p Party.Server = stays
  at-server p (Party.Client host) = serving-packet host p p.is

  hearing : (host : ℕ) (bytes : List ℕ) (n : Option Names) (c : Option Client) → Q (Core (heard_by o host bytes n c))
  hearing host bytes (Some n) (Some c) = quiet (asks_as o host (heard n bytes c.term c.now)) (core-asked o host (heard n bytes c.term c.now))
  hearing host bytes None c = stays
  hearing host bytes (Some n) None = stays

  at-host : (host : ℕ) (p : Outer) (is : Option ℕ) → Q (Core (to_host o host p is))
  at-host host p (Some number) = going number
  at-host host p None = hearing host p.bytes (slice_get o.sides host) (slice_get o.world.clients host)

  taking : (p : Outer) (to : Party) → Q (Core (takes o p to))
  taking p Party.Server = at-server p p.sender
  taking p (Party.Client host) = at-host host p p.is

  pub delivery-cases : (p : Option Outer) → Q (Core (delivers o p))
  delivery-cases None = stays
  delivery-cases (Some p) = taking p p.to

-- ---- a list

either-core : (o u : Outside) (b : Bool) → Core u ≡ Core o → Core (if b then u else o) ≡ Core o
either-core o u true same = same
either-core o u false same = refl

pub core-listing : (o : Outside) (host : ℕ) (prefix : List ℕ) (n : Option Names) (c : Option Client) → Core (lists o host prefix n c) ≡ Core o
core-listing o host prefix (Some n) (Some c) =
    either-core o (asks_as o host (lists_dir n prefix c.term c.now)) (c.attached && not (is_changing c.call))
    (core-asked o host (lists_dir n prefix c.term c.now))
core-listing o host prefix None c = refl
core-listing o host prefix (Some n) None = refl

pub lists-change-nothing : ListsChangeNothing
lists-change-nothing o host prefix = ap (λ i. i.0) (core-listing o host prefix (slice_get o.sides host) (slice_get o.world.clients host))

-- ---- a schedule with lists

-- an inner world is the run of these events
abbrev Runs : Head → World × List Event → Type 0
Runs head i = i.0 ≡ run head i.1

runs-on : (head : Head) (o : Outside) (event : Event) → Runs head (Core o) → Runs head (Core (inner o event))
runs-on head o event h = subst (Runs head) (sym (inner-ran o event)) (ap (λ v. step v event) h)

stepping : (head : Head) (o : Outside) (event : NameEvent) → Runs head (Core o) → Runs head (Core (outside_step o event))
stepping head o (NameEvent.List host prefix) h = subst (Runs head) (sym (core-listing o host prefix (slice_get o.sides host)
    (slice_get o.world.clients host))) h
stepping head o (NameEvent.Plain (Event.Deliver number)) h = delivery-cases o (Runs head) h (λ k. ap (λ v. step v (Event.Deliver k)) h)
    (slice_get o.sent number)
stepping head o (NameEvent.Plain (Event.Call host op)) h = runs-on head o (Event.Call host op) h
stepping head o (NameEvent.Plain Event.ServerTick) h = runs-on head o Event.ServerTick h
stepping head o (NameEvent.Plain (Event.ClientTick host)) h = runs-on head o (Event.ClientTick host) h
stepping head o (NameEvent.Plain (Event.Restart host)) h = runs-on head o (Event.Restart host) h
stepping head o (NameEvent.Plain (Event.Crash longest)) h = runs-on head o (Event.Crash longest) h

pub runs-inside : RunsInside
unfolding outside_start
runs-inside head [] = refl
runs-inside head (event ∷ earlier) = stepping head (outside_run head earlier) event (runs-inside head earlier)
