-- Packets by place: each reply stands after a request that it answers.
use Rattle.std.proofs.Common.{◌≡◌, ◌<◌, ◌≤◌, ◌⊎◌, ℕ, zero, suc, List, [], ◌∷◌, ◌++◌, Some, ap, arith, inl, inr, length}
use Rattle.std.specs.Prelude.{slice_get}
use Rattle.nq_base.specs.declared.Reply.{Reply}
use Rattle.walk_steps.proofs.ClientMoves.{none-some}
use Rattle.walk_steps.proofs.Packets.{In, in-get}
use Rattle.walk_steps.proofs.ServerSays.{IsReplyTo}
use Rattle.nq_model.specs.laws.OneRequestPerSequence.{AnswersRequest}
use Rattle.nq_model.specs.protocol.Message.{Packet, call, reply}
use Rattle.nq_model.specs.protocol.Server.{to_host}
use Rattle.nq_model.specs.protocol.World.{from_host}

-- what is in a list has a place
pub in-place : {A : Type 0} (xs : List A) (x : A) → In xs x → (j : ℕ) × (j < length xs) × (slice_get xs j ≡ Some x)
in-place [] x h = absurd h
in-place (y ∷ ys) x (inl e) = (zero, omega arith, ap Some e)
in-place (y ∷ ys) x (inr h) = let k = in-place ys x h in let below = k.1 in (suc k.0, omega arith, k.2)

-- and keeps it in a longer one
pub get-left : {A : Type 0} (xs ys : List A) (j : ℕ) (x : A) → slice_get xs j ≡ Some x → slice_get (xs ++ ys) j ≡ Some x
get-left [] ys j x h = none-some x h
get-left (y ∷ xs) ys zero x h = h
get-left (y ∷ xs) ys (suc j) x h = get-left xs ys j x h

pub get-append : {A : Type 0} (xs ys : List A) (k : ℕ) (x : A) → slice_get (xs ++ ys) k ≡ Some x → (slice_get xs k ≡ Some x) ⊎ ((length xs ≤ k) × In ys x)
get-append [] ys k x h = inr (omega arith, in-get ys k x h)
get-append (y ∷ xs) ys zero x h = inl h
get-append (y ∷ xs) ys (suc k) x h = step (get-append xs ys k x h)
  where
    step : (slice_get xs k ≡ Some x) ⊎ ((length xs ≤ k) × In ys x) → (slice_get xs k ≡ Some x) ⊎ ((length (y ∷ xs) ≤ suc k) × In ys x)
    step (inl e) = inl e
    step (inr p) = let below = p.0 in inr (omega arith, p.1)

-- each reply stands after a request that it answers
abbrev pub Answers : List Packet → Type 0
Answers ps = (place host xid : ℕ) (a : Reply) → slice_get ps place ≡ Some (to_host host (reply xid a)) → AnswersRequest ps place host xid a

-- after more packets, of which each reply answers a request before them
pub answers-more : (ps more : List Packet) → ((host xid : ℕ) (a : Reply) → In more (to_host host (reply xid a)) → IsReplyTo ps host xid a) → Answers ps
    → Answers (ps ++ more)
answers-more ps more new h place host xid a at = step (get-append ps more place (to_host host (reply xid a)) at)
  where
    step : (slice_get ps place ≡ Some (to_host host (reply xid a))) ⊎ ((length ps ≤ place) × In more (to_host host (reply xid a)))
        → AnswersRequest (ps ++ more) place host xid a
    step (inl old) = let k = h place host xid a old in record {
      earlier = k.earlier;
      before = k.before;
      asks = k.asks;
      who = k.who;
      sent = get-left ps more k.earlier (from_host host (call xid k.asks)) k.sent;
      by = k.by;
      inc = k.inc;
    }
    step (inr later) =
        let k = new host xid a later.1 in
        let j = in-place ps (from_host host (call xid k.asks)) k.sent in
        let below = j.1 in
        let past = later.0 in
        record {
          earlier = j.0;
          before = omega arith;
          asks = k.asks;
          who = k.who;
          sent = get-left ps more j.0 (from_host host (call xid k.asks)) j.2;
          by = k.by;
          inc = k.inc;
        }
