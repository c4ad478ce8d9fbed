-- Packets under way in a play: which stay so, and which are added.
use Rattle.std.proofs.Common.{◌≡◌, ◌<◌, ◌⊎◌, ℕ, ◌+◌, ◌-◌, ◌==◌, ◌++◌, not, Bool, true, false, zero, suc, List, [], ◌∷◌, Option, Some, None, length}
use Rattle.std.proofs.Common.{refl, sym, subst, ap, ◌∙◌, arith, inl, inr}
use Rattle.std.specs.Prelude.{map, slice_get}
use Rattle.std.proofs.lemmas.List.{length-append}
use Rattle.nq_base.specs.declared.Event.{Event}
use Rattle.nq_base.specs.declared.Party.{Party}
use Rattle.nq_model.specs.protocol.Client.{Client, ClientStep}
use Rattle.nq_model.specs.protocol.Hear.{hear}
use Rattle.nq_model.specs.protocol.Lines.{Play, play, delivered, numbers_from, added}
use Rattle.nq_model.specs.protocol.Message.{Packet, datagram_of}
use Rattle.nq_model.specs.protocol.ServerStep.{receive}
use Rattle.nq_model.specs.protocol.World.{World, after_client, after_server, after_hearing, sending_host, deliver, deliver_to, deliver_to_client, step}
use Rattle.walk_steps.proofs.Members.{filter-in}
use Rattle.walk_steps.proofs.Packets.{In, in-left, in-right}
use Rattle.walk_steps.proofs.Steps.{step-changes}
use Rattle.walk_steps.proofs.Rows.{same-number}
use Rattle.law_rounds.proofs.PacketsCome.{Comes, get-kept}
use Rattle.law_rounds.proofs.QuietFlows.{grown}

-- ---- lists

get-behind : {A : Type 0} (xs ys : List A) (j : ℕ) → slice_get (xs ++ ys) (length xs + j) ≡ slice_get ys j
get-behind [] ys j = let e : 0 + j ≡ j = omega arith in ap (slice_get ys) e
get-behind (x ∷ xs) ys j = let e : length (x ∷ xs) + j ≡ suc (length xs + j) = omega arith in ap (slice_get (x ∷ (xs ++ ys))) e ∙ get-behind xs ys j

-- an element of a list has a place
record Place {A : Type 0} (xs : List A) (x : A) : Type 0 where
  at : ℕ
  below : at < length xs
  is : slice_get xs at ≡ Some x

place : {A : Type 0} (xs : List A) (x : A) → In xs x → Place xs x
place [] x i = absurd i
place (y ∷ xs) x (inl e) = record { at = 0; below = omega arith; is = ap Some e }
place (y ∷ xs) x (inr i) = let p = place xs x i in record { at = suc p.at; below = let b = p.below in omega arith; is = p.is }

in-numbers : (first count j : ℕ) → j < count → In (numbers_from first count) (first + j)
in-numbers first zero j below = absurd (omega arith)
in-numbers first (suc count) zero below = inl (omega arith)
in-numbers first (suc count) (suc j) below = let e : (first + 1) + j ≡ first + suc j = omega arith in
    inr (subst (λ n. In (numbers_from (first + 1) count) n) e (in-numbers (first + 1) count j (omega arith)))

pub in-map : {A B : Type 0} (f : A → B) (xs : List A) (x : A) → In xs x → In (map f xs) (f x)
in-map f [] x i = absurd i
in-map f (y ∷ xs) x (inl e) = inl (ap f e)
in-map f (y ∷ xs) x (inr i) = inr (in-map f xs x i)

-- ---- an event

-- a packet that is not delivered stays under way
pub keeps-coming : (p : Play) (e : Event) (q : Packet) (c : Comes p q) → In (delivered e p.fresh) c.number → Comes (play p e) q
keeps-coming p e q c stays =
    let g = grown p.world (step p.world e) (step-changes p.world e) in
    record {
      number = c.number;
      fresh = in-left (delivered e p.fresh) (added p.world (step p.world e)) c.number stays;
      is = ap (λ ps. slice_get ps c.number) g.is ∙ get-kept p.world.packets g.more c.number q c.is;
    }

-- what an event sends is under way
pub adds-coming : (p : Play) (e : Event) (q : Packet) (more : List Packet) → (step p.world e).packets ≡ p.world.packets ++ more → In more q
    → Comes (play p e) q
adds-coming p e q more is i =
    let at = place more q i in
    record {
      number = length p.world.packets + at.at;
      fresh = in-right (delivered e p.fresh) (added p.world (step p.world e)) (length p.world.packets + at.at)
          (subst (λ ns. In ns (length p.world.packets + at.at)) (sym new) (in-numbers (length p.world.packets) (length more) at.at at.below));
      is = ap (λ ps. slice_get ps (length p.world.packets + at.at)) is ∙ get-behind p.world.packets more at.at ∙ at.is;
    }
  where
    longer : length (step p.world e).packets ≡ length p.world.packets + length more
    longer = ap (λ (ps : List Packet). length ps) is ∙ length-append p.world.packets more

    new : added p.world (step p.world e) ≡ numbers_from (length p.world.packets) (length more)
    new = ap (numbers_from (length p.world.packets)) (less (length (step p.world e).packets) (length p.world.packets) (length more) longer)
      where
        less : (a b c : ℕ) → a ≡ b + c → a - b ≡ c
        less a b c sum = omega arith

-- the packet of this number is delivered, or another one stays under way
pub which-comes : (p : Play) (k : ℕ) (q : Packet) → Comes p q → (slice_get p.world.packets k ≡ Some q) ⊎ Comes (play p (Event.Deliver k)) q
which-comes p k q c = by (c.number == k) refl
  where
    by : (b : Bool) → (c.number == k) ≡ b → (slice_get p.world.packets k ≡ Some q) ⊎ Comes (play p (Event.Deliver k)) q
    by true same = inl (ap (slice_get p.world.packets) (sym (same-number c.number k same)) ∙ c.is)
    by false differs = inr (keeps-coming p (Event.Deliver k) q c (filter-in (λ n. not (n == k)) p.fresh c.number (ap not differs) c.fresh))

-- ---- a delivery

pub data Delivery (w : World) (k : ℕ) (v : World) : Type 0 where
  no_packet : slice_get w.packets k ≡ None → v ≡ w → Delivery w k v
  at_server : (q : Packet) → slice_get w.packets k ≡ Some q → q.to ≡ Party.Server → v ≡ after_server w (receive w.server (sending_host q.sender)
      (length w.packets) (datagram_of q.message)) → Delivery w k v
  at_host : (h : ℕ) (q : Packet) (c : Client) (t : ClientStep) → slice_get w.packets k ≡ Some q → q.to ≡ Party.Client h → slice_get w.clients h
      ≡ Some c → hear c k q.message ≡ Some t → v ≡ after_client w h t → Delivery w k v
  ignored : (h : ℕ) (q : Packet) (c : Client) → slice_get w.packets k ≡ Some q → q.to ≡ Party.Client h → slice_get w.clients h ≡ Some c
      → hear c k q.message ≡ None → v ≡ w → Delivery w k v
  no_client : (h : ℕ) (q : Packet) → slice_get w.packets k ≡ Some q → q.to ≡ Party.Client h → slice_get w.clients h ≡ None → v ≡ w → Delivery w k v

delivery-heard : (w : World) (k h : ℕ) (q : Packet) (c : Client) → slice_get w.packets k ≡ Some q → q.to ≡ Party.Client h → slice_get w.clients h
    ≡ Some c → (o : Option ClientStep) → hear c k q.message ≡ o → Delivery w k (after_hearing w h o)
delivery-heard w k h q c sent to at None hears = ignored h q c sent to at hears refl
delivery-heard w k h q c sent to at (Some t) hears = at_host h q c t sent to at hears refl

delivery-client : (w : World) (k h : ℕ) (q : Packet) → slice_get w.packets k ≡ Some q → q.to ≡ Party.Client h → (o : Option Client)
    → slice_get w.clients h ≡ o → Delivery w k (deliver_to_client w k h q.message o)
delivery-client w k h q sent to None at = no_client h q sent to at refl
delivery-client w k h q sent to (Some c) at = delivery-heard w k h q c sent to at (hear c k q.message) refl

delivery-to : (w : World) (k : ℕ) (q : Packet) → slice_get w.packets k ≡ Some q → (to : Party) → q.to ≡ to → Delivery w k (deliver_to w k q to)
delivery-to w k q sent Party.Server to = at_server q sent to refl
delivery-to w k q sent (Party.Client h) to = delivery-client w k h q sent to (slice_get w.clients h) refl

delivery-of : (w : World) (k : ℕ) (o : Option Packet) → slice_get w.packets k ≡ o → Delivery w k (deliver w k o)
delivery-of w k None none = no_packet none refl
delivery-of w k (Some q) sent = delivery-to w k q sent q.to refl

pub delivery : (w : World) (k : ℕ) → Delivery w k (step w (Event.Deliver k))
delivery w k = delivery-of w k (slice_get w.packets k) refl
