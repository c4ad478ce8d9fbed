-- What travels outside stands for packets that the inner world sent, and there is at least as much of it. The inner events are no more
-- than the events.
use Rattle.std.proofs.Common.{◌≡◌, ◌≤◌, ◌<◌, ◌⊎◌, inl, inr, ℕ, zero, suc, ◌+◌, ◌-◌, List, [], ◌∷◌, ◌++◌, length, drop, map, Option, Some, None, refl}
use Rattle.std.proofs.Common.{sym, ap, subst, ◌∙◌, arith, length-append}
use Rattle.std.proofs.lemmas.List.{length-drop}
use Rattle.std.specs.Prelude.{slice_get, slice_set}
use Rattle.nq_base.specs.declared.Event.{Event}
use Rattle.nq_base.specs.declared.Party.{Party}
use Rattle.nq_datagrams.specs.Messages.{bytes_of}
use Rattle.nq_model.specs.protocol.Client.{Client}
use Rattle.nq_model.specs.protocol.Message.{Packet}
use Rattle.nq_model.specs.protocol.World.{Head, World, first_clients, start, step}
use Rattle.nq_stage.specs.Answering.{Answer, write, unstaged, own_stage, own_commit, staged, answered}
use Rattle.nq_stage.specs.Bodies.{Bodies}
use Rattle.nq_stage.specs.declared.Commit.{Commit}
use Rattle.nq_stage.specs.declared.Pushed.{Pushed}
use Rattle.nq_stage.specs.declared.Written.{Written}
use Rattle.nq_stage.specs.Reading.{Stage}
use Rattle.nq_stage.specs.Hearing.{Told, acknowledged, again, other, told_by, kept_by}
use Rattle.nq_stage.specs.Offering.{offer_of, offered}
use Rattle.nq_stage.specs.Shortening.{shortened, shortening}
use Rattle.nq_stage.specs.Staged.{Staged, new_stager}
use Rattle.nq_stage.specs.declared.run.event.StagedEvent.{StagedEvent}
use Rattle.nq_stage.specs.Outer.{Outer, Side, Outside, outside_start}
use Rattle.nq_stage.specs.Outside.{sends, standing, side_of, sends_as, sends_by, sends_from, sends_all, renewed, new_side, inner, inner_delivery}
use Rattle.nq_stage.specs.Outside.{takes_stage, takes_commit, served_commit, served_stage, to_server, told_side, heard_by, to_host, takes, delivers}
use Rattle.nq_stage.specs.Outside.{sends_stage, offers_body, offers, outside_step, outside_run}
use Rattle.nq_stage.proofs.Inner.{Inner, sent-all, ran}
use Rattle.nq_staged.proofs.Growing.{grows}

-- ---- lists

at-end : {X : Type 0} (xs : List X) (y : X) (k : ℕ) (x : X) → slice_get (xs ++ y ∷ []) k ≡ Some x → (slice_get xs k ≡ Some x) ⊎ (y ≡ x)
at-end [] y zero x is = inr (cc)
at-end [] y (suc k) x is = absurd (cc)
at-end (z ∷ xs) y zero x is = inl is
at-end (z ∷ xs) y (suc k) x is = at-end xs y k x is

at-set : {X : Type 0} (xs : List X) (i : ℕ) (y : X) (k : ℕ) (x : X) → slice_get (slice_set xs i y) k ≡ Some x → (slice_get xs k ≡ Some x) ⊎ (y ≡ x)
at-set [] i y k x is = inl is
at-set (z ∷ xs) zero y zero x is = inr (cc)
at-set (z ∷ xs) zero y (suc k) x is = inl is
at-set (z ∷ xs) (suc i) y zero x is = inl is
at-set (z ∷ xs) (suc i) y (suc k) x is = at-set xs i y k x is

-- ---- what stands for packets below a number

abbrev Below : (n : ℕ) → Option ℕ → Type 0
Below n stands = (m : ℕ) → stands ≡ Some m → m < n

pub record IsBounded (n : ℕ) (o : Outside) : Type 0 where
  pub sent : (k : ℕ) (p : Outer) → slice_get o.sent k ≡ Some p → Below n p.stands
  pub sides : (host : ℕ) (s : Side) → slice_get o.sides host ≡ Some s → Below n s.last

below-none : (n : ℕ) → Below n None
below-none n m is = absurd (cc)

below-some : (n k : ℕ) → k < n → Below n (Some k)
below-some n k less m is = let e : k ≡ m = cc in subst (λ x. x < n) e less

below-more : (n m : ℕ) (stands : Option ℕ) → n ≤ m → Below n stands → Below m stands
below-more n m stands less below k is = let b : k < n = below k is in omega arith

bounded-more : (n m : ℕ) (o : Outside) → n ≤ m → IsBounded n o → IsBounded m o
bounded-more n m o less b = record {
  sent = λ k p is. below-more n m p.stands less (b.sent k p is);
  sides = λ host s is. below-more n m s.last less (b.sides host s is);
}

bounded-sends : (n : ℕ) (o : Outside) (p : Outer) → Below n p.stands → IsBounded n o → IsBounded n (sends o p)
unfolding sends
bounded-sends n o p below b = record {
  sent = λ k q is. elim (at-end o.sent p k q is) [
    | inl there ↦ b.sent k q there
    | inr same ↦ subst (λ (x : Outer). Below n x.stands) same below
  ];
  sides = b.sides;
}

bounded-side : (n : ℕ) (o : Outside) (host : ℕ) (s : Side) → Below n s.last → IsBounded n o → IsBounded n (record o { sides = slice_set o.sides host s })
bounded-side n o host s below b = record {
  sent = b.sent;
  sides = λ h t is. elim (at-set o.sides host s h t is) [
    | inl there ↦ b.sides h t there
    | inr same ↦ subst (λ (x : Side). Below n x.last) same below
  ];
}

-- ---- inner packets that go out

bounded-as : (n : ℕ) (o : Outside) (number host : ℕ) (p : Packet) (side : Side) (short : Option (Pushed × ℕ)) → number < n → IsBounded n o
    → IsBounded n (sends_as o number host p side short)
bounded-as n o number host p side None less b = bounded-sends n o (standing number p.sender p.to (bytes_of p.message)) (below-some n number less) b
bounded-as n o number host p side (Some push) less b =
    let short = shortened side.stager push.0 push.1 (bytes_of p.message) in
    bounded-sends n (record o { sides = slice_set o.sides host (side_of number short.1) }) (standing number p.sender p.to short.0) (below-some n number less)
    (bounded-side n o host (side_of number short.1) (below-some n number less) b)

bounded-by : (n : ℕ) (o : Outside) (number host : ℕ) (p : Packet) (side : Option Side) → number < n → IsBounded n o
    → IsBounded n (sends_by o number host p side)
bounded-by n o number host p None less b = bounded-sends n o (standing number p.sender p.to (bytes_of p.message)) (below-some n number less) b
bounded-by n o number host p (Some side) less b = bounded-as n o number host p side (shortening side.stager (bytes_of p.message)) less b

bounded-from : (n : ℕ) (o : Outside) (number : ℕ) (p : Packet) (from : Party) → number < n → IsBounded n o → IsBounded n (sends_from o number p from)
bounded-from n o number p Party.Server less b = bounded-sends n o (standing number p.sender p.to (bytes_of p.message)) (below-some n number less) b
bounded-from n o number p (Party.Client host) less b = bounded-by n o number host p (slice_get o.sides host) less b

bounded-all : (n : ℕ) (o : Outside) (number : ℕ) (ps : List Packet) → number + length ps ≤ n → IsBounded n o → IsBounded n (sends_all o number ps)
bounded-all n o number [] less b = b
bounded-all n o number (p ∷ ps) less b =
    bounded-all n (sends_from o number p p.sender) (number + 1) ps (omega arith) (bounded-from n o number p p.sender (omega arith) b)

-- each makes one that travels
one-more : (o : Outside) (p : Outer) → length (sends o p).sent ≡ length o.sent + 1
unfolding sends
one-more o p = length-append o.sent (p ∷ [])

one-as : (o : Outside) (number host : ℕ) (p : Packet) (side : Side) (short : Option (Pushed × ℕ)) → length (sends_as o number host p side short).sent
    ≡ length o.sent + 1
one-as o number host p side None = one-more o (standing number p.sender p.to (bytes_of p.message))
one-as o number host p side (Some push) =
    let short = shortened side.stager push.0 push.1 (bytes_of p.message) in
    one-more (record o { sides = slice_set o.sides host (side_of number short.1) }) (standing number p.sender p.to short.0)

one-by : (o : Outside) (number host : ℕ) (p : Packet) (side : Option Side) → length (sends_by o number host p side).sent ≡ length o.sent + 1
one-by o number host p None = one-more o (standing number p.sender p.to (bytes_of p.message))
one-by o number host p (Some side) = one-as o number host p side (shortening side.stager (bytes_of p.message))

one-from : (o : Outside) (number : ℕ) (p : Packet) (from : Party) → length (sends_from o number p from).sent ≡ length o.sent + 1
one-from o number p Party.Server = one-more o (standing number p.sender p.to (bytes_of p.message))
one-from o number p (Party.Client host) = one-by o number host p (slice_get o.sides host)

pub many-all : (o : Outside) (number : ℕ) (ps : List Packet) → length (sends_all o number ps).sent ≡ length o.sent + length ps
many-all o number [] = omega arith
many-all o number (p ∷ ps) =
    let one : length (sends_from o number p p.sender).sent ≡ length o.sent + 1 = one-from o number p p.sender in
    let rest : length (sends_all (sends_from o number p p.sender) (number + 1) ps).sent ≡ length (sends_from o number p p.sender).sent + length ps =
    many-all (sends_from o number p p.sender) (number + 1) ps in
    omega arith

-- ---- one event

-- all that travels stands for packets of the inner world, of which there are no more than of what travels
pub record IsFine (o : Outside) : Type 0 where
  pub bounded : IsBounded (length o.world.packets) o
  pub many : length o.world.packets ≤ length o.sent

-- from there the next is so too, with one inner event more at most
pub record Next (before : ℕ) (o : Outside) : Type 0 where
  pub fine : IsFine o
  pub few : length o.ran ≤ before + 1

stays : (o : Outside) → IsFine o → Next (length o.ran) o
stays o fine = record { fine = fine; few = omega arith }

fine-sends : (o : Outside) (p : Outer) → Below (length o.world.packets) p.stands → IsFine o → IsFine (sends o p)
unfolding sends
fine-sends o p below fine =
    let more : length (o.sent ++ p ∷ []) ≡ length o.sent + 1 = length-append o.sent (p ∷ []) in
    let many : length o.world.packets ≤ length o.sent = fine.many in
    record { bounded = bounded-sends (length o.world.packets) o p below fine.bounded; many = omega arith }

ran-sends : (o : Outside) (p : Outer) → (sends o p).ran ≡ o.ran
unfolding sends
ran-sends o p = refl

next-sends : (o : Outside) (p : Outer) → Below (length o.world.packets) p.stands → IsFine o → Next (length o.ran) (sends o p)
next-sends o p below fine =
    let same : length (sends o p).ran ≡ length o.ran = ap length (ran-sends o p) in
    record { fine = fine-sends o p below fine; few = omega arith }

fine-side : (o : Outside) (host : ℕ) (s : Side) → Below (length o.world.packets) s.last → IsFine o → IsFine (record o { sides = slice_set o.sides host s })
fine-side o host s below fine = record { bounded = bounded-side (length o.world.packets) o host s below fine.bounded; many = fine.many }

-- an inner event
renewed-side : (n : ℕ) (o : Outside) (c : Option Client) (host : ℕ) → IsBounded n o → IsBounded n (record o { sides = new_side c o.sides host })
renewed-side n o None host b = b
renewed-side n o (Some c) host b = bounded-side n o host (record { stager = new_stager c.who; last = None }) (below-none n) b

renewed-bounded : (n : ℕ) (o : Outside) (event : Event) (w : World) → IsBounded n o → IsBounded n (renewed o event w)
renewed-bounded n o (Event.Call host op) w b = record { sent = b.sent; sides = b.sides }
renewed-bounded n o (Event.Deliver k) w b = record { sent = b.sent; sides = b.sides }
renewed-bounded n o Event.ServerTick w b = record { sent = b.sent; sides = b.sides }
renewed-bounded n o (Event.ClientTick host) w b = record { sent = b.sent; sides = b.sides }
renewed-bounded n o (Event.Restart host) w b = let s = renewed-side n o (slice_get w.clients host) host b in record { sent = b.sent; sides = s.sides }
renewed-bounded n o (Event.Crash longest) w b = record { sent = b.sent; sides = b.sides }

renewed-sent : (o : Outside) (event : Event) (w : World) → (renewed o event w).sent ≡ o.sent
renewed-sent o (Event.Call host op) w = refl
renewed-sent o (Event.Deliver k) w = refl
renewed-sent o Event.ServerTick w = refl
renewed-sent o (Event.ClientTick host) w = refl
renewed-sent o (Event.Restart host) w = refl
renewed-sent o (Event.Crash longest) w = refl

inner-next : (o : Outside) (event : Event) → IsFine o → Next (length o.ran) (inner o event)
inner-next o event fine =
    let w = step o.world event in
    let before = length o.world.packets in
    let more = drop before w.packets in
    let r = renewed o event w in
    let on : Inner (inner o event) ≡ (w, event ∷ o.ran) = sent-all r before more ∙ ran o event w in
    let world : (inner o event).world ≡ w = ap (λ i. i.0) on in
    let events : (inner o event).ran ≡ event ∷ o.ran = ap (λ i. i.1) on in
    let grown : before ≤ length w.packets = grows o.world event in
    let rest : length more ≡ length w.packets - before = length-drop before w.packets in
    let bounded : IsBounded (length w.packets) (inner o event) =
    bounded-all (length w.packets) r before more (omega arith) (renewed-bounded (length w.packets) o event w (bounded-more before (length w.packets) o
    grown fine.bounded)) in
    let sent : length (inner o event).sent ≡ length r.sent + length more = many-all r before more in
    let same : length r.sent ≡ length o.sent = ap length (renewed-sent o event w) in
    let many : before ≤ length o.sent = fine.many in
    let enough : length w.packets ≤ length (inner o event).sent = omega arith in
    let count : length (inner o event).ran ≡ length (event ∷ o.ran) = ap length events in
    record {
      fine = record {
        bounded = subst (λ v. IsBounded (length v.packets) (inner o event)) (sym world) bounded;
        many = subst (λ (v : World). length v.packets ≤ length (inner o event).sent) (sym world) enough;
      };
      few = omega arith;
    }

delivery-next : (o : Outside) (stands : Option ℕ) → IsFine o → Next (length o.ran) (inner_delivery o stands)
delivery-next o None fine = stays o fine
delivery-next o (Some number) fine = inner-next o (Event.Deliver number) fine

-- a packet at the server
stage-next : (o : Outside) (host : ℕ) (given : List ℕ × Bodies) → IsFine o → Next (length o.ran) (takes_stage o host given)
unfolding takes_stage
stage-next o host given fine =
    let p : Outer = record { sender = Party.Server; to = Party.Client host; bytes = given.0; stands = None } in
    next-sends (record o { pool = given.1; counts = record o.counts { staged = o.counts.staged + 1 } }) p (below-none (length o.world.packets))
    (record { bounded = record { sent = fine.bounded.sent; sides = fine.bounded.sides }; many = fine.many })

commit-next : (o : Outside) (host : ℕ) (stands : Option ℕ) (a : Answer) → IsFine o → Next (length o.ran) (takes_commit o host stands a)
commit-next o host stands (write bytes) fine =
    delivery-next (record o { counts = record o.counts { commits = o.counts.commits + 1 } }) stands
    (record { bounded = record { sent = fine.bounded.sent; sides = fine.bounded.sides }; many = fine.many })
commit-next o host stands (unstaged bytes) fine =
    let p : Outer = record { sender = Party.Server; to = Party.Client host; bytes = bytes; stands = None } in
    next-sends (record o { counts = record o.counts { unstaged = o.counts.unstaged + 1 } }) p (below-none (length o.world.packets))
    (record { bounded = record { sent = fine.bounded.sent; sides = fine.bounded.sides }; many = fine.many })

served-commit-next : (o : Outside) (host : ℕ) (p : Outer) (c : Option Commit) → IsFine o → Next (length o.ran) (served_commit o host p c)
served-commit-next o host p None fine = delivery-next o p.stands fine
served-commit-next o host p (Some c) fine = commit-next o host p.stands (answered o.pool c) fine

served-stage-next : (o : Outside) (host : ℕ) (p : Outer) (s : Option Stage) → IsFine o → Next (length o.ran) (served_stage o host p s)
served-stage-next o host p None fine = served-commit-next o host p (own_commit host p.bytes) fine
served-stage-next o host p (Some s) fine = stage-next o host (staged o.pool s) fine

server-next : (o : Outside) (p : Outer) (from : Party) → IsFine o → Next (length o.ran) (to_server o p from)
server-next o p Party.Server fine = delivery-next o p.stands fine
server-next o p (Party.Client host) fine = served-stage-next o host p (own_stage host p.bytes) fine

-- a packet at a host
told-next : (o : Outside) (host : ℕ) (side : Side) (t : Told) → slice_get o.sides host ≡ Some side → IsFine o → Next (length o.ran) (told_side o host side t)
told-next o host side (again bytes) there fine =
    let s : Side = record side { stager = kept_by side.stager (again bytes) } in
    let last = fine.bounded.sides host side there in
    next-sends (record o { sides = slice_set o.sides host s }) (record {
      sender = Party.Client host;
      to = Party.Server;
      bytes = bytes;
      stands =
          side.last;
    }) last (fine-side o host s last fine)
told-next o host side (acknowledged w verifier) there fine =
    let s : Side = record side { stager = kept_by side.stager (acknowledged w verifier) } in
    record { fine = fine-side o host s (fine.bounded.sides host side there) fine; few = omega arith }
told-next o host side other there fine =
    let s : Side = record side { stager = kept_by side.stager other } in
    record { fine = fine-side o host s (fine.bounded.sides host side there) fine; few = omega arith }

heard-next : (o : Outside) (host : ℕ) (p : Outer) (side : Option Side) → slice_get o.sides host ≡ side → IsFine o
    → Next (length o.ran) (heard_by o host p side)
heard-next o host p None there fine = stays o fine
heard-next o host p (Some side) there fine = told-next o host side (told_by side.stager p.bytes) there fine

host-next : (o : Outside) (host : ℕ) (p : Outer) (stands : Option ℕ) → IsFine o → Next (length o.ran) (to_host o host p stands)
host-next o host p (Some number) fine = inner-next o (Event.Deliver number) fine
host-next o host p None fine = heard-next o host p (slice_get o.sides host) refl fine

takes-next : (o : Outside) (p : Outer) (to : Party) → IsFine o → Next (length o.ran) (takes o p to)
takes-next o p Party.Server fine = server-next o p p.sender fine
takes-next o p (Party.Client host) fine = host-next o host p p.stands fine

delivers-next : (o : Outside) (p : Option Outer) → IsFine o → Next (length o.ran) (delivers o p)
delivers-next o None fine = stays o fine
delivers-next o (Some p) fine = takes-next o p p.to fine

-- an offer
offered-next : (o : Outside) (host : ℕ) (side : Side) (given : List ℕ × Staged) → slice_get o.sides host ≡ Some side → IsFine o
    → Next (length o.ran) (sends_stage o host side given)
unfolding sends_stage
offered-next o host side given there fine =
    let s : Side = record side { stager = given.1 } in
    next-sends (record o { sides = slice_set o.sides host s }) (record {
      sender = Party.Client host;
      to = Party.Server;
      bytes = given.0;
      stands =
          None;
    }) (below-none (length o.world.packets)) (fine-side o host s (fine.bounded.sides host side there) fine)

body-next : (o : Outside) (host : ℕ) (side : Side) (b : Option (Written × List ℕ)) → slice_get o.sides host ≡ Some side → IsFine o
    → Next (length o.ran) (offers_body o host side b)
body-next o host side None there fine = stays o fine
body-next o host side (Some b) there fine = offered-next o host side (offered side.stager b.0 b.1) there fine

offers-next : (o : Outside) (host : ℕ) (side : Option Side) (c : Option Client) → slice_get o.sides host ≡ side → IsFine o
    → Next (length o.ran) (offers o host side c)
offers-next o host (Some side) (Some c) there fine = body-next o host side (offer_of side.stager c.dirty c.push) there fine
offers-next o host None c there fine = stays o fine
offers-next o host (Some side) None there fine = stays o fine

pub step-next : (o : Outside) (event : StagedEvent) → IsFine o → Next (length o.ran) (outside_step o event)
step-next o (StagedEvent.Stage host) fine = offers-next o host (slice_get o.sides host) (slice_get o.world.clients host) refl fine
step-next o (StagedEvent.Plain (Event.Deliver number)) fine = delivers-next o (slice_get o.sent number) fine
step-next o (StagedEvent.Plain (Event.Call host op)) fine = inner-next o (Event.Call host op) fine
step-next o (StagedEvent.Plain Event.ServerTick) fine = inner-next o Event.ServerTick fine
step-next o (StagedEvent.Plain (Event.ClientTick host)) fine = inner-next o (Event.ClientTick host) fine
step-next o (StagedEvent.Plain (Event.Restart host)) fine = inner-next o (Event.Restart host) fine
step-next o (StagedEvent.Plain (Event.Crash longest)) fine = inner-next o (Event.Crash longest) fine

-- ---- a staged schedule

abbrev first_sides : List Client → List Side
first_sides cs = map (λ c. record { stager = new_stager c.who; last = None }) cs

no-last : (n : ℕ) (cs : List Client) (host : ℕ) (s : Side) → slice_get (first_sides cs) host ≡ Some s → Below n s.last
no-last n [] host s is = absurd (cc)
no-last n (c ∷ cs) zero s is = let e : record { stager = new_stager c.who; last = None } ≡ s = cc in subst (λ (x : Side). Below n x.last) e (below-none n)
no-last n (c ∷ cs) (suc host) s is = no-last n cs host s is

begins : (head : Head) → IsFine (outside_start head)
unfolding outside_start start
begins head = record {
  bounded = record { sent = λ k p is. absurd (cc); sides = λ host s is. no-last 0 (first_clients head.term 0 head.hosts) host s is };
  many = omega arith;
}

pub runs-fine : (head : Head) (events : List StagedEvent) → IsFine (outside_run head events)
runs-fine head [] = begins head
runs-fine head (event ∷ earlier) = (step-next (outside_run head earlier) event (runs-fine head earlier)).fine

begins-none : (head : Head) → length (outside_start head).ran ≡ 0
unfolding outside_start
begins-none head = refl

pub few-run : (head : Head) (events : List StagedEvent) → length (outside_run head events).ran ≤ length events
few-run head [] = let none : length (outside_start head).ran ≡ 0 = begins-none head in omega arith
few-run head (event ∷ earlier) =
    let before : length (outside_run head earlier).ran ≤ length earlier = few-run head earlier in
    let next : length (outside_run head (event ∷ earlier)).ran ≤ length (outside_run head earlier).ran + 1 =
    (step-next (outside_run head earlier) event (runs-fine head earlier)).few in
    omega arith
