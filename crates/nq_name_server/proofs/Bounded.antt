-- What travels is of packets that the inner world sent, and there is at least as much of it. The inner events are no more than the events.
use Rattle.std.proofs.Common.{◌≡◌, ◌≤◌, ◌<◌, ◌⊎◌, inl, inr, ℕ, zero, suc, ◌+◌, ◌-◌, ◌==◌, Bool, true, false, not, ◌&&◌, List, [], ◌∷◌, ◌++◌, length}
use Rattle.std.proofs.Common.{drop, Option, Some, None, if◌then◌else◌, refl, sym, ap, subst, arith, length-append}
use Rattle.std.proofs.lemmas.List.{length-drop}
use Rattle.std.specs.Prelude.{slice_get}
use Rattle.nq_base.specs.declared.Event.{Event}
use Rattle.nq_base.specs.declared.Party.{Party}
use Rattle.nq_datagrams.specs.Incoming.{datagram_in}
use Rattle.nq_directory.specs.declared.listing.messages.DirTag.{DirTag}
use Rattle.nq_directory.specs.declared.listing.messages.ReadDir.{ReadDir}
use Rattle.nq_directory.specs.Reading.{read_dir_in, dir_vacated_in}
use Rattle.nq_model.specs.protocol.Client.{Client}
use Rattle.nq_model.specs.protocol.Kept.{host_row}
use Rattle.nq_model.specs.protocol.Message.{Packet}
use Rattle.nq_model.specs.protocol.Server.{Phase, serving, recovering}
use Rattle.nq_model.specs.protocol.World.{Head, World, start, step}
use Rattle.nq_directory.specs.Asking.{Asks, heard, lists_dir}
use Rattle.nq_directory.specs.NameCacheNames.{Names}
use Rattle.nq_name_server.specs.Served.{leaf_behind}
use Rattle.nq_name_server.specs.Serving.{Serves, ToHost, holds_up, puts_off, reads_dir, vacates}
use Rattle.nq_name_server.specs.declared.run.event.NameEvent.{NameEvent}
use Rattle.nq_name_server.specs.Outer.{Outer, Outside, outside_start}
use Rattle.nq_name_server.specs.Outside.{Changes, asks_as, beside, changes_as, delivers, heard_by, held_or, inner, inside, is_changing, lists}
use Rattle.nq_name_server.specs.Outside.{outside_run, outside_step, passes, reads_in, renewed, sends, sends_all, sends_from, sends_these, served_as}
use Rattle.nq_name_server.specs.Outside.{served_read, served_vacated, serves, takes, to_host, to_server}
use Rattle.nq_name_server.proofs.Inner.{Core, inner-ran}
use Rattle.nq_name_server.proofs.Growing.{grows}

at-end : {X : Type 0} (xs : List X) (y : X) (k : ℕ) (x : X) → slice_get (xs ++ y ∷ []) k ≡ Some x → (slice_get xs k ≡ Some x) ⊎ (y ≡ x)
at-end [] y zero x is = inr (cc)
at-end [] y (suc k) x is = absurd (cc)
at-end (z ∷ xs) y zero x is = inl is
at-end (z ∷ xs) y (suc k) x is = at-end xs y k x is

-- ---- packets below a number

abbrev Below : (n : ℕ) → Option ℕ → Type 0
Below n is = (m : ℕ) → is ≡ Some m → m < n

abbrev pub AreBelow : (n : ℕ) → List Outer → Type 0
AreBelow n sent = (k : ℕ) (p : Outer) → slice_get sent k ≡ Some p → Below n p.is

below-none : (n : ℕ) → Below n None
below-none n m is = absurd (cc)

below-some : (n k : ℕ) → k < n → Below n (Some k)
below-some n k less m is = let e : k ≡ m = cc in subst (λ x. x < n) e less

more-below : (n m : ℕ) (sent : List Outer) → n ≤ m → AreBelow n sent → AreBelow m sent
more-below n m sent less b k p at j is = let c : j < n = b k p at j is in omega arith

one-below : (n : ℕ) (sent : List Outer) (p : Outer) → Below n p.is → AreBelow n sent → AreBelow n (sent ++ p ∷ [])
one-below n sent p below b k q at = elim (at-end sent p k q at) [
  | inl there ↦ b k q there
  | inr same ↦ subst (λ (x : Outer). Below n x.is) same below
]

-- what travels is of packets of the inner world, of which there are no more than of what travels
pub record IsFine (o : Outside) : Type 0 where
  pub bounded : AreBelow (length o.world.packets) o.sent
  pub many : length o.world.packets ≤ length o.sent

-- from there the next is so too, with one inner event more at most
pub record Next (before : ℕ) (o : Outside) : Type 0 where
  pub fine : IsFine o
  pub few : length o.ran ≤ before + 1

stays : (o : Outside) → IsFine o → Next (length o.ran) o
stays o fine = record { fine = fine; few = omega arith }

next-sends : (o : Outside) (n : ℕ) (p : Outer) → Below (length o.world.packets) p.is → Next n o → Next n (sends o p)
unfolding sends
next-sends o n p below next =
    let more : length (o.sent ++ p ∷ []) ≡ length o.sent + 1 = length-append o.sent (p ∷ []) in
    let many : length o.world.packets ≤ length o.sent = next.fine.many in
    record {
      fine = record { bounded = one-below (length o.world.packets) o.sent p below next.fine.bounded; many = omega arith };
      few = next.few;
    }

-- ---- what is none of the inner world

next-these : (ds : List ToHost) (o : Outside) (n : ℕ) → Next n o → Next n (sends_these o ds)
next-these [] o n next = next
next-these (d ∷ ds) o n next =
    let p = beside Party.Server (Party.Client d.host) d.bytes in
    next-these ds (sends o p) n (next-sends o n p (below-none (length o.world.packets)) next)

served-next : (o : Outside) (s : Serves) → IsFine o → Next (length o.ran) (served_as o s)
unfolding served_as
served-next o s fine =
    next-these s.sends (record o { served = s.served }) (length o.ran) (record {
      fine = record { bounded = fine.bounded; many = fine.many };
      few = omega arith;
    })

from-next : (o : Outside) (n host : ℕ) (sent : Option (List ℕ)) → Next n o → Next n (sends_from o host sent)
from-next o n host None next = next
from-next o n host (Some bytes) next = next-sends o n (beside (Party.Client host) Party.Server bytes) (below-none (length o.world.packets)) next

asks-next : (o : Outside) (host : ℕ) (a : Asks) → IsFine o → Next (length o.ran) (asks_as o host a)
unfolding asks_as
asks-next o host a fine = from-next _ (length o.ran) host a.sends (record { fine = record { bounded = fine.bounded; many = fine.many }; few = omega arith })

-- ---- inner packets that go out

below-all : (o : Outside) (n number : ℕ) (ps : List Packet) → number + length ps ≤ n → AreBelow n o.sent → AreBelow n (sends_all o number ps).sent
unfolding sends
below-all o n number [] less b = b
below-all o n number (p ∷ ps) less b =
    below-all (sends o (inside number p)) n (number + 1) ps (omega arith) (one-below n o.sent (inside number p) (below-some n number (omega arith)) b)

many-all : (o : Outside) (number : ℕ) (ps : List Packet) → length (sends_all o number ps).sent ≡ length o.sent + length ps
unfolding sends
many-all o number [] = omega arith
many-all o number (p ∷ ps) =
    let one : length (o.sent ++ inside number p ∷ []) ≡ length o.sent + 1 = length-append o.sent (inside number p ∷ []) in
    let rest : length (sends_all (sends o (inside number p)) (number + 1) ps).sent ≡ length (o.sent ++ inside number p ∷ []) + length ps =
    many-all (sends o (inside number p)) (number + 1) ps in
    omega arith

renewed-sent : (o : Outside) (event : Event) (w : World) → (renewed o event w).sent ≡ o.sent
renewed-sent o (Event.Call host op) w = refl
renewed-sent o (Event.Deliver k) w = refl
renewed-sent o Event.ServerTick w = refl
renewed-sent o (Event.ClientTick host) w = refl
renewed-sent o (Event.Restart host) w = refl
renewed-sent o (Event.Crash longest) w = refl

inner-next : (o : Outside) (event : Event) → IsFine o → Next (length o.ran) (inner o event)
inner-next o event fine =
    let w = step o.world event in
    let before = length o.world.packets in
    let more = drop before w.packets in
    let r = renewed o event w in
    let on : Core (inner o event) ≡ (w, event ∷ o.ran) = inner-ran o event in
    let world : (inner o event).world ≡ w = ap (λ i. i.0) on in
    let events : (inner o event).ran ≡ event ∷ o.ran = ap (λ i. i.1) on in
    let grown : before ≤ length w.packets = grows o.world event in
    let rest : length more ≡ length w.packets - before = length-drop before w.packets in
    let here : AreBelow (length w.packets) r.sent = subst (AreBelow (length w.packets)) (sym (renewed-sent o event w))
    (more-below before (length w.packets) o.sent grown fine.bounded) in
    let bounded : AreBelow (length w.packets) (inner o event).sent = below-all r (length w.packets) before more (omega arith) here in
    let sent : length (inner o event).sent ≡ length r.sent + length more = many-all r before more in
    let same : length r.sent ≡ length o.sent = ap length (renewed-sent o event w) in
    let many : before ≤ length o.sent = fine.many in
    let enough : length w.packets ≤ length (inner o event).sent = omega arith in
    let count : length (inner o event).ran ≡ length (event ∷ o.ran) = ap length events in
    record {
      fine = record {
        bounded = subst (λ (v : World). AreBelow (length v.packets) (inner o event).sent) (sym world) bounded;
        many = subst (λ (v : World). length v.packets ≤ length (inner o event).sent) (sym world) enough;
      };
      few = omega arith;
    }

-- ---- a packet at the server

held-next : (o : Outside) (number : ℕ) (s : Option Serves) → IsFine o → Next (length o.ran) (held_or o number s)
held-next o number None fine = inner-next o (Event.Deliver number) fine
held-next o number (Some s) fine = served-next o s fine

passes-next : (o : Outside) (number : ℕ) (c : Option Changes) → IsFine o → Next (length o.ran) (passes o number c)
passes-next o number None fine = inner-next o (Event.Deliver number) fine
passes-next o number (Some c) fine = held-next o number (holds_up o.served c.who c.prefix) fine

reads-in-next : (o : Outside) (r : ReadDir) (phase : Phase) → IsFine o → Next (length o.ran) (reads_in o r phase)
reads-in-next o r serving fine = served-next o (reads_dir o.served r (leaf_behind r.prefix r.after o.world.server.kept.files)) fine
reads-in-next o r (recovering until heard last) fine = served-next o (record { served = o.served; sends = puts_off r ∷ [] }) fine

choice : (n : ℕ) (b : Bool) (x y : Outside) → Next n x → Next n y → Next n (if b then x else y)
choice n true x y first second = first
choice n false x y first second = second

vacated-next : (o : Outside) (host : ℕ) (t : Option DirTag) → IsFine o → Next (length o.ran) (served_vacated o host t)
vacated-next o host None fine = stays o fine
vacated-next o host (Some t) fine =
    choice (length o.ran) (t.who.host == host) (record o { served = vacates o.served t }) o
    (record { fine = record { bounded = fine.bounded; many = fine.many }; few = omega arith }) (stays o fine)

read-next : (o : Outside) (host : ℕ) (bytes : List ℕ) (r : Option ReadDir) → IsFine o → Next (length o.ran) (served_read o host bytes r)
read-next o host bytes None fine = vacated-next o host (dir_vacated_in bytes) fine
read-next o host bytes (Some r) fine =
    choice (length o.ran) (r.who.host == host && r.who.inc == (host_row o.world.server.kept host).inc) (reads_in o r o.world.server.phase) o
    (reads-in-next o r o.world.server.phase fine) (stays o fine)

serves-next : (o : Outside) (host : ℕ) (p : Outer) (is : Option ℕ) → IsFine o → Next (length o.ran) (serves o host p is)
serves-next o host p None fine = read-next o host p.bytes (read_dir_in p.bytes) fine
serves-next o host p (Some number) fine = passes-next o number (changes_as o.world.server.kept host (datagram_in p.bytes)) fine

server-next : (o : Outside) (p : Outer) (from : Party) → IsFine o → Next (length o.ran) (to_server o p from)
server-next o p Party.Server fine = stays o fine
server-next o p (Party.Client host) fine = serves-next o host p p.is fine

-- ---- a packet at a host, and a list

heard-next : (o : Outside) (host : ℕ) (bytes : List ℕ) (n : Option Names) (c : Option Client) → IsFine o → Next (length o.ran) (heard_by o host bytes n c)
heard-next o host bytes None c fine = stays o fine
heard-next o host bytes (Some n) None fine = stays o fine
heard-next o host bytes (Some n) (Some c) fine = asks-next o host (heard n bytes c.term c.now) fine

host-next : (o : Outside) (host : ℕ) (p : Outer) (is : Option ℕ) → IsFine o → Next (length o.ran) (to_host o host p is)
host-next o host p (Some number) fine = inner-next o (Event.Deliver number) fine
host-next o host p None fine = heard-next o host p.bytes (slice_get o.sides host) (slice_get o.world.clients host) fine

takes-next : (o : Outside) (p : Outer) (to : Party) → IsFine o → Next (length o.ran) (takes o p to)
takes-next o p Party.Server fine = server-next o p p.sender fine
takes-next o p (Party.Client host) fine = host-next o host p p.is fine

delivers-next : (o : Outside) (p : Option Outer) → IsFine o → Next (length o.ran) (delivers o p)
delivers-next o None fine = stays o fine
delivers-next o (Some p) fine = takes-next o p p.to fine

lists-next : (o : Outside) (host : ℕ) (prefix : List ℕ) (n : Option Names) (c : Option Client) → IsFine o → Next (length o.ran) (lists o host prefix n c)
lists-next o host prefix None c fine = stays o fine
lists-next o host prefix (Some n) None fine = stays o fine
lists-next o host prefix (Some n) (Some c) fine =
    choice (length o.ran) (c.attached && not (is_changing c.call)) (asks_as o host (lists_dir n prefix c.term c.now)) o
    (asks-next o host (lists_dir n prefix c.term c.now) fine) (stays o fine)

-- ---- one event, and a schedule

pub step-next : (o : Outside) (event : NameEvent) → IsFine o → Next (length o.ran) (outside_step o event)
step-next o (NameEvent.List host prefix) fine = lists-next o host prefix (slice_get o.sides host) (slice_get o.world.clients host) fine
step-next o (NameEvent.Plain (Event.Deliver number)) fine = delivers-next o (slice_get o.sent number) fine
step-next o (NameEvent.Plain (Event.Call host op)) fine = inner-next o (Event.Call host op) fine
step-next o (NameEvent.Plain Event.ServerTick) fine = inner-next o Event.ServerTick fine
step-next o (NameEvent.Plain (Event.ClientTick host)) fine = inner-next o (Event.ClientTick host) fine
step-next o (NameEvent.Plain (Event.Restart host)) fine = inner-next o (Event.Restart host) fine
step-next o (NameEvent.Plain (Event.Crash longest)) fine = inner-next o (Event.Crash longest) fine

begins : (head : Head) → IsFine (outside_start head)
unfolding outside_start start
begins head = record { bounded = λ k p is. absurd (cc); many = omega arith }

pub runs-fine : (head : Head) (events : List NameEvent) → IsFine (outside_run head events)
runs-fine head [] = begins head
runs-fine head (event ∷ earlier) = (step-next (outside_run head earlier) event (runs-fine head earlier)).fine

begins-none : (head : Head) → length (outside_start head).ran ≡ 0
unfolding outside_start
begins-none head = refl

pub few-run : (head : Head) (events : List NameEvent) → length (outside_run head events).ran ≤ length events
few-run head [] = let none : length (outside_start head).ran ≡ 0 = begins-none head in omega arith
few-run head (event ∷ earlier) =
    let before : length (outside_run head earlier).ran ≤ length earlier = few-run head earlier in
    let next : length (outside_run head (event ∷ earlier)).ran ≤ length (outside_run head earlier).ran + 1 =
    (step-next (outside_run head earlier) event (runs-fine head earlier)).few in
    omega arith
