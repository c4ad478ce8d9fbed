-- What an event of the inner world sends, and the server after it.
use Rattle.std.proofs.Common.{◌≡◌, ℕ, zero, suc, ◌+◌, List, [], ◌∷◌, ◌++◌, Some, None, drop, length, refl, sym, subst, ap, ◌∙◌, arith, inl, inr}
use Rattle.std.proofs.Common.{append_assoc, append-nil}
use Rattle.std.specs.Prelude.{slice_get, slice_set}
use Rattle.nq_base.specs.declared.Event.{Event}
use Rattle.nq_base.specs.declared.Party.{Party}
use Rattle.nq_model.specs.protocol.Message.{Packet, datagram_of}
use Rattle.nq_model.specs.protocol.Server.{Server, ServerStep}
use Rattle.nq_model.specs.protocol.ServerStep.{receive}
use Rattle.nq_model.specs.protocol.World.{World, after_server, deliver, deliver_to, sending_host, step}
use Rattle.nq_name_server.specs.Outer.{Outer, Outside}
use Rattle.nq_name_server.specs.Outside.{inside, sends, sends_all}
use Rattle.walk_steps.proofs.OneHost.{of-one-host}
use Rattle.walk_steps.proofs.ClientMoves.{none-some}
use Rattle.law_names.proofs.InnerSteps.{AreInner}
use Rattle.law_names.proofs.OuterFits.{IsInner}

-- ---- packets of the inner world

abbrev pub insides : (number : ℕ) → List Packet → List Outer
insides number [] = []
insides number (p ∷ ps) = inside number p ∷ insides (number + 1) ps

-- inner packets that go as they are are sent, and nothing else changes
pub sent-all : (o : Outside) (number : ℕ) (ps : List Packet) → sends_all o number ps ≡ record o { sent = o.sent ++ insides number ps }
unfolding sends
sent-all o number [] = ap (λ l. record o { sent = l }) (sym (append-nil o.sent))
sent-all o number (p ∷ ps) =
    sent-all (record o { sent = o.sent ++ inside number p ∷ [] }) (number + 1) ps
    ∙ ap (λ l. record o { sent = l }) (append_assoc o.sent (inside number p ∷ []) (insides (number + 1) ps))

get-more : {A : Type 0} (xs ys : List A) (k : ℕ) (x : A) → slice_get xs k ≡ Some x → slice_get (xs ++ ys) k ≡ Some x
get-more [] ys k x e = none-some x e
get-more (y ∷ xs) ys zero x e = e
get-more (y ∷ xs) ys (suc k) x e = get-more xs ys k x e

get-right : {A : Type 0} (xs ys : List A) (k : ℕ) → slice_get (xs ++ ys) (length xs + k) ≡ slice_get ys k
get-right [] ys k = ap (slice_get ys) (omega arith)
get-right (x ∷ xs) ys k =
    let more : suc (length xs) + k ≡ suc (length xs + k) = omega arith in
    ap (slice_get (x ∷ (xs ++ ys))) more ∙ get-right xs ys k

drop-right : {A : Type 0} (xs ys : List A) → drop (length xs) (xs ++ ys) ≡ ys
drop-right [] ys = refl
drop-right (x ∷ xs) ys = drop-right xs ys

insides-inner : (w : World) (number : ℕ) (ps : List Packet) → ((k : ℕ) (p : Packet) → slice_get ps k ≡ Some p → slice_get w.packets (number + k) ≡ Some p)
    → AreInner w (insides number ps)
insides-inner w number [] there p i = absurd i
insides-inner w number (q ∷ ps) there p (inl same) =
    let at : slice_get w.packets number ≡ Some q = ap (slice_get w.packets) (omega arith) ∙ there 0 q refl in
    (number, ap (λ x. x.is) (sym same), record { packet = q; there = at; is = sym same })
insides-inner w number (q ∷ ps) there p (inr i) =
    insides-inner w (number + 1) ps (λ k x e. ap (slice_get w.packets) (omega arith) ∙ there (suc k) x e) p i

-- what an event sends
abbrev pub more_of : World → Event → List Outer
more_of w e = insides (length w.packets) (drop (length w.packets) (step w e).packets)

pub more-inner : (w : World) (e : Event) → AreInner (step w e) (more_of w e)
more-inner w e =
    let k = of-one-host w e in
    insides-inner (step w e) (length w.packets) (drop (length w.packets) (step w e).packets) (λ i p is.
    let here : slice_get k.sends i ≡ Some p =
    ap (λ l. slice_get l i) (sym (ap (drop (length w.packets)) k.packets ∙ drop-right w.packets k.sends)) ∙ is in
    ap (λ l. slice_get l (length w.packets + i)) k.packets ∙ get-right w.packets k.sends i ∙ here)

pub more-stays : (w : World) (e : Event) (number : ℕ) (p : Outer) → IsInner w number p → IsInner (step w e) number p
more-stays w e number p h =
    let k = of-one-host w e in
    record {
      packet = h.packet;
      there = ap (λ l. slice_get l number) k.packets ∙ get-more w.packets k.sends number h.packet h.there;
      is = h.is;
    }

pub after-is : (w : World) (t : ServerStep) → (after_server w t).server ≡ t.server
unfolding after_server
after-is w t = refl

pub server-is : (w : World) (number : ℕ) (p : Packet) → slice_get w.packets number ≡ Some p → p.to ≡ Party.Server
    → (step w (Event.Deliver number)).server ≡ (receive w.server (sending_host p.sender) (length w.packets) (datagram_of p.message)).server
server-is w number p there to =
    ap (λ o. (deliver w number o).server) there ∙ ap (λ x. (deliver_to w number p x).server) to
    ∙ after-is w (receive w.server (sending_host p.sender) (length w.packets) (datagram_of p.message))

pub unset : {A : Type 0} (xs : List A) (h k : ℕ) (x y : A) → h ≡ k → slice_get xs k ≡ None → slice_get (slice_set xs h x) k ≡ Some y → ⊥
unset xs h k x y same none is = absent xs k x y none (subst (λ i. slice_get (slice_set xs i x) k ≡ Some y) same is)
  where
    absent : {B : Type 0} (zs : List B) (i : ℕ) (u v : B) → slice_get zs i ≡ None → slice_get (slice_set zs i u) i ≡ Some v → ⊥
    absent [] i u v e f = none-some v f
    absent (z ∷ zs) zero u v e f = absurd (cc)
    absent (z ∷ zs) (suc i) u v e f = absent zs i u v e f
