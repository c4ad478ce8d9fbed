-- What is still to go out shows in the same way before it goes and after.
use Rattle.std.proofs.Common.{◌≡◌, ℕ, zero, suc, ◌+◌, ◌<◌, List, [], ◌∷◌, length, drop, map, Option, Some, None, refl, sym, ap, ◌∙◌, arith}
use Rattle.std.proofs.lemmas.List.{drop_more}
use Rattle.std.proofs.lemmas.Option.{get_or_from_slice_get, slice_get_within, slice_get-map}
use Rattle.std.specs.Option.{option_map}
use Rattle.std.specs.Prelude.{Result, Ok, Err, OnErr, OnOk, slice_get}
use Rattle.nq_base.specs.declared.Event.{Event}
use Rattle.nq_base.specs.declared.Party.{Party}
use Rattle.nq_model.specs.protocol.Message.{Packet}
use Rattle.nq_model.specs.protocol.World.{World}
use Rattle.nq_link.specs.Packets.{Datagram}
use Rattle.nq_name_server.specs.Outside.{sends, sends_all}
use Rattle.nq_name_server.specs.Around.{AroundOver, datagram, flushed_as, flushed_one, once_sent, over, sent_one, shown, with_due}

-- ---- lists

drop-at : {X : Type 0} (xs : List X) (i : ℕ) (x : X) → slice_get xs i ≡ Some x → drop i xs ≡ x ∷ drop (i + 1) xs
drop-at xs i x there = drop_more xs i x (slice_get_within xs i x there) ∙ ap (λ y. y ∷ drop (i + 1) xs) (get_or_from_slice_get xs i x x there)

pub there : {X : Type 0} (xs : List X) (i : ℕ) → i < length xs → (x : X) × (slice_get xs i ≡ Some x)
there [] i less = absurd (omega arith)
there (x ∷ xs) zero less = (x, refl)
there (x ∷ xs) (suc i) less = there xs i (omega arith)

-- a packet of which a datagram tells
record OfDatagram (packets : List Packet) (k : ℕ) (d : Datagram) : Type 0 where
  packet : Packet
  there : slice_get packets k ≡ Some packet
  tells : datagram packet ≡ d

of-option : (o : Option Packet) (d : Datagram) → option_map datagram o ≡ Some d → (p : Packet) × ((o ≡ Some p) × (datagram p ≡ d))
of-option None d is = absurd (cc)
of-option (Some p) d is = (p, (refl, (let e : datagram p ≡ d = cc in e)))

of-datagram : (packets : List Packet) (datagrams : List Datagram) (k : ℕ) (d : Datagram)
    → datagrams ≡ map datagram packets → slice_get datagrams k ≡ Some d → OfDatagram packets k d
of-datagram packets datagrams k d are there =
    let found = of-option (slice_get packets k) d (sym (slice_get-map datagram packets k) ∙ ap (λ l. slice_get l k) (sym are) ∙ there) in
    record { packet = found.0; there = found.1.0; tells = found.1.1 }

-- ---- what is due

-- the first of what is left of these
pub next_due : (ds : List (Party × List ℕ)) (k : ℕ) (d : Party × List ℕ) → slice_get ds k ≡ Some d → drop k ds ≡ d ∷ drop (k + 1) ds
next_due ds k d at = drop-at ds k d at

pub none-due : (w : World) (ran : List Event) (a : AroundOver) → a.due ≡ [] → once_sent w ran a ≡ over w ran a
none-due w ran a none = ap (λ d. with_due a.sender d (over w ran a)) none

flushes : (w : World) (ran : List Event) (a : AroundOver) (due : List (Party × List ℕ)) → a.due ≡ due → shown w ran (flushed_as due a) ≡ shown w ran a
unfolding sends
flushes w ran a [] is = refl
flushes w ran a (d ∷ ds) is = ap (λ l. sends_all (with_due a.sender l (over w ran a)) a.gone (drop a.gone w.packets)) (sym is)

flushes-fewer : (a : AroundOver) (due : List (Party × List ℕ)) → a.due ≡ due → 0 < length a.due → length (flushed_as due a).due + 1 ≡ length a.due
flushes-fewer a [] is some = let e = ap length is in absurd (omega arith)
flushes-fewer a (d ∷ ds) is some = let e = ap length is in omega arith

flushes-gone : (a : AroundOver) (due : List (Party × List ℕ)) → (flushed_as due a).gone ≡ a.gone
flushes-gone a [] = refl
flushes-gone a (d ∷ ds) = refl

-- ---- the next inner packet

sends-shown : (w : World) (ran : List Event) (a : AroundOver) (p : Packet) → a.due ≡ [] → slice_get w.packets a.gone ≡ Some p
    → shown w ran (sent_one a (datagram p)) ≡ shown w ran a
unfolding sends
sends-shown w ran a p none at =
    ap (λ d. sends_all (with_due a.sender d (over w ran (sent_one a (datagram p)))) (a.gone + 1) (drop (a.gone + 1) w.packets)) none
    ∙ ap (λ ps. sends_all (over w ran a) a.gone ps) (sym (drop-at w.packets a.gone p at))
    ∙ ap (λ o. sends_all o a.gone (drop a.gone w.packets)) (sym (none-due w ran a none))

-- ---- by whether there was memory

pub flush_all : {A E : Type 0} (r : Result A E) (a b : AroundOver) → OnOk r (b ≡ flushed_one a) → OnErr r (b ≡ a) → (w : World) (ran : List Event)
    → shown w ran b ≡ shown w ran a
flush_all (Ok x) a b sent refused w ran = ap (shown w ran) sent ∙ flushes w ran a a.due refl
flush_all (Err e) a b sent refused w ran = ap (shown w ran) refused

pub flush_fewer : {A E : Type 0} (r : Result A E) (a b : AroundOver) → 0 < length a.due → OnOk r (b ≡ flushed_one a) → OnOk r (length b.due + 1 ≡ length a.due)
flush_fewer (Ok x) a b some sent = ap (λ (c : AroundOver). length c.due + 1) sent ∙ flushes-fewer a a.due refl some
flush_fewer (Err e) a b some sent = tt

pub flush_gone : {A E : Type 0} (r : Result A E) (a b : AroundOver) → OnOk r (b ≡ flushed_one a) → OnErr r (b ≡ a) → b.gone ≡ a.gone
flush_gone (Ok x) a b sent refused = ap (λ (c : AroundOver). c.gone) sent ∙ flushes-gone a a.due
flush_gone (Err e) a b sent refused = ap (λ (c : AroundOver). c.gone) refused

pub send_all : {A E : Type 0} (r : Result A E) (packets : List Datagram) (a b : AroundOver) → a.due ≡ [] → a.gone < length packets
    → ((d : Datagram) → slice_get packets a.gone ≡ Some d → OnOk r (b ≡ sent_one a d)) → OnErr r (b ≡ a)
    → (w : World) (ran : List Event) → packets ≡ map datagram w.packets → shown w ran b ≡ shown w ran a
send_all (Ok x) packets a b none less made refused w ran are =
    let d = there packets a.gone less in
    let p = of-datagram w.packets packets a.gone d.0 are d.1 in
    ap (shown w ran) (made d.0 d.1 ∙ ap (sent_one a) (sym p.tells)) ∙ sends-shown w ran a p.packet none p.there
send_all (Err e) packets a b none less made refused w ran are = ap (shown w ran) refused

pub send_gone : {A E : Type 0} (r : Result A E) (packets : List Datagram) (a b : AroundOver) → a.gone < length packets
    → ((d : Datagram) → slice_get packets a.gone ≡ Some d → OnOk r (b ≡ sent_one a d)) → OnOk r (b.gone ≡ a.gone + 1)
send_gone (Ok x) packets a b less made = let d = there packets a.gone less in ap (λ (c : AroundOver). c.gone) (made d.0 d.1)
send_gone (Err e) packets a b less made = tt

pub send_due : {A E : Type 0} (r : Result A E) (packets : List Datagram) (a b : AroundOver) → a.due ≡ [] → a.gone < length packets
    → ((d : Datagram) → slice_get packets a.gone ≡ Some d → OnOk r (b ≡ sent_one a d)) → OnErr r (b ≡ a) → b.due ≡ []
send_due (Ok x) packets a b none less made refused =
    let d = there packets a.gone less in ap (λ (c : AroundOver). c.due) (made d.0 d.1) ∙ none
send_due (Err e) packets a b none less made refused = ap (λ (c : AroundOver). c.due) refused ∙ none
