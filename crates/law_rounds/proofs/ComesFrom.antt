-- What comes after an event came before, or was sent in it.
use Rattle.std.proofs.Common.{◌≡◌, ◌≤◌, ◌⊎◌, ℕ, ◌+◌, ◌-◌, ◌==◌, ◌++◌, not, zero, suc, List, [], ◌∷◌, Some, length, sym, ap, ◌∙◌, arith, inl, inr}
use Rattle.std.specs.Prelude.{slice_get}
use Rattle.nq_base.specs.declared.Event.{Event}
use Rattle.nq_model.specs.protocol.Lines.{Play, play, delivered, added, numbers_from}
use Rattle.nq_model.specs.protocol.Message.{Packet}
use Rattle.nq_model.specs.protocol.World.{step}
use Rattle.law_rounds.proofs.ClientSteps.{get-below}
use Rattle.law_rounds.proofs.PacketsCome.{Comes}
use Rattle.walk_steps.proofs.Members.{in-filter}
use Rattle.walk_steps.proofs.Packets.{In, in-append, in-get}

get-either : (xs ys : List Packet) (n : ℕ) (q : Packet) → slice_get (xs ++ ys) n ≡ Some q → (slice_get xs n ≡ Some q) ⊎ In ys q
get-either [] ys n q is = inr (in-get ys n q is)
get-either (x ∷ xs) ys zero q is = inl is
get-either (x ∷ xs) ys (suc n) q is = get-either xs ys n q is

pub from-least : (first count n : ℕ) → In (numbers_from first count) n → first ≤ n
from-least first zero n i = absurd i
from-least first (suc count) n (inl e) = omega arith
from-least first (suc count) n (inr i) = let more = from-least (first + 1) count n i in omega arith

pub still-fresh : (e : Event) (fresh : List ℕ) (n : ℕ) → In (delivered e fresh) n → In fresh n
still-fresh (Event.Deliver k) fresh n i = (in-filter (λ m. not (m == k)) fresh n i).0
still-fresh (Event.Call host op) fresh n i = i
still-fresh Event.ServerTick fresh n i = i
still-fresh (Event.ClientTick host) fresh n i = i
still-fresh (Event.Restart host) fresh n i = i
still-fresh (Event.Crash longest) fresh n i = i

pub comes-from : (p : Play) (e : Event) (more : List Packet) → (step p.world e).packets ≡ p.world.packets ++ more → (q : Packet) → Comes (play p e) q
    → Comes p q ⊎ In more q
comes-from p e more is q c = by (in-append (delivered e p.fresh) (added p.world (step p.world e)) c.number c.fresh) (get-either p.world.packets more
    c.number q (ap (λ ps. slice_get ps c.number) (sym is) ∙ c.is))
  where
    by : In (delivered e p.fresh) c.number ⊎ In (added p.world (step p.world e)) c.number → (slice_get p.world.packets c.number ≡ Some q) ⊎ In more q
        → Comes p q ⊎ In more q
    by i (inr new) = inr new
    by (inl i) (inl there) = inl (record { number = c.number; fresh = still-fresh e p.fresh c.number i; is = there })
    by (inr i) (inl there) =
        let low = from-least (length p.world.packets) (length (step p.world e).packets - length p.world.packets) c.number i in
        let high = get-below p.world.packets c.number q there in
        absurd (omega arith)
