-- In every run one request is sent of a sequence, one is open at most, and each reply comes after its request.
use Rattle.std.proofs.Common.{◌≡◌, ◌<◌, ℕ, List, Option, Some, None, refl, sym, subst, ap, ◌∙◌, arith, inl, inr}
use Rattle.std.specs.Prelude.{slice_get}
use Rattle.nq_base.specs.declared.Event.{Event}
use Rattle.nq_base.specs.declared.Reply.{Reply}
use Rattle.nq_base.specs.declared.Request.{Request}
use Rattle.nq_base.specs.declared.Who.{Who}
use Rattle.walk_steps.proofs.ClientMoves.{none-some}
use Rattle.walk_steps.proofs.HostLine.{IsSettled}
use Rattle.walk_steps.proofs.KnownWorlds.{Known}
use Rattle.walk_steps.proofs.LeaseIntervals.{run-runs}
use Rattle.walk_steps.proofs.OpenAt.{IsOpenAt, Opens}
use Rattle.walk_steps.proofs.OpenRequests.{run-opens}
use Rattle.walk_steps.proofs.Packets.{Asked, in-get}
use Rattle.walk_steps.proofs.SentTimes.{sent-in-order}
use Rattle.walk_steps.proofs.WorldSequences.{Draws, run-draws}
use Rattle.walk_steps.proofs.Worlds.{Holds, run-holds}
use Rattle.nq_model.specs.laws.OneRequestPerSequence.{Asks, AsksOnce, OneRequestPerSequence, IsUnderWay, IsOpenRequest, OpensOne, OneOpenInEveryRun}
use Rattle.nq_model.specs.laws.OneRequestPerSequence.{AnswersRequest, WasSentBefore, RepliesComeAfter}
use Rattle.nq_model.specs.protocol.Client.{Client, Ticket}
use Rattle.nq_model.specs.protocol.Hear.{inc_of}
use Rattle.nq_model.specs.protocol.Kept.{host_row}
use Rattle.nq_model.specs.protocol.Message.{call, sequence_of}
use Rattle.nq_model.specs.protocol.World.{Head, World, from_host, run}

asked-of : (w : World) (place host xid : ℕ) (r : Request) (who : Who) (n : ℕ) → Asks w.packets place host xid r who n → Asked w.packets host xid r
asked-of w place host xid r who n a = in-get w.packets place (from_host host (call xid r)) a.sent

-- an incarnation asks from its host
asks-home : (w : World) → Holds w → Draws w → (place host xid : ℕ) (r : Request) (who : Who) (n : ℕ) (o : Option Client) → slice_get w.clients host ≡ o
    → Asks w.packets place host xid r who n → host ≡ who.host
asks-home w held d place host xid r who n None is a = absurd (d.lone host xid r (asked-of w place host xid r who n a) is)
asks-home w held d place host xid r who n (Some c) is a =
    let at = held.clients host c is in
    sym ((at.mail.asked xid r who (subst (λ h. Asked w.packets h xid r) (sym at.here) (asked-of w place host xid r who n a)) a.by).host ∙ at.here)

-- and what it asked stands at its client
asks-here : (w : World) → Holds w → (place host xid : ℕ) (r : Request) (who : Who) (n : ℕ) (c : Client) → slice_get w.clients host ≡ Some c
    → Asks w.packets place host xid r who n → Asked w.packets c.who.host xid r
asks-here w held place host xid r who n c is a = subst (λ h. Asked w.packets h xid r) (sym (held.clients host c is).here) (asked-of w place host xid r who n a)

-- ---- one request of a sequence

of-one-host : (w : World) → Holds w → Draws w → (i j host x y : ℕ) (r s : Request) (who : Who) (n : ℕ) (o : Option Client)
    → slice_get w.clients host ≡ o → Asks w.packets i host x r who n → Asks w.packets j host y s who n → (x ≡ y) × (r ≡ s)
of-one-host w held d i j host x y r s who n None is a b = absurd (d.lone host x r (asked-of w i host x r who n a) is)
of-one-host w held d i j host x y r s who n (Some c) is a b =
    (d.clients host c is).once x y r s who n (asks-here w held i host x r who n c is a) (asks-here w held j host y s who n c is b) a.by b.by a.sequence
    b.sequence

asks-once : (w : World) → Holds w → Draws w → AsksOnce w
asks-once w held d i j host other x y r s who n a b =
    let home : host ≡ who.host = asks-home w held d i host x r who n (slice_get w.clients host) refl a in
    let also : other ≡ who.host = asks-home w held d j other y s who n (slice_get w.clients other) refl b in
    let same = of-one-host w held d i j host x y r s who n (slice_get w.clients host) refl a (subst (λ h. Asks w.packets j h y s who n) (also ∙ sym home) b) in
    (home, also, same.0, same.1)

pub one-in-every-run : OneRequestPerSequence
one-in-every-run head events = asks-once (run head events) (run-holds head events) (run-draws head events)

-- ---- one open sequence

under-way : (w : World) (events : List Event) → Holds w → Known w events → (host place xid : ℕ) (c : Client) (r : Request) (n : ℕ)
    → slice_get w.clients host ≡ Some c → IsOpenRequest w host place xid r c.who n → IsUnderWay c xid r
under-way w events held known host place xid c r n is o =
    case ((known.clients host c is).lined.settled o.kept xid r c.who n asked o.asks.by refl o.asks.sequence)
  where
    asked : Asked w.packets c.who.host xid r
    asked = asks-here w held place host xid r c.who n c is o.asks

    case : IsSettled c.ticket (host_row w.server.kept host).seq xid n → IsUnderWay c xid r
    case (inl below) = let above = o.above in absurd (omega arith)
    case (inr u) =
        record { ticket = u.0; has = u.1; number = u.2; request = ((held.clients host c is).mail.asked xid r c.who asked o.asks.by).same refl u.0 u.1 u.2 }

open-at : (w : World) (host place xid : ℕ) (r : Request) (who : Who) (n : ℕ) → IsOpenRequest w host place xid r who n
    → IsOpenAt (host_row w.server.kept host) w.packets host xid r
open-at w host place xid r who n o = record {
  who = who;
  seq = n;
  asked = asked-of w place host xid r who n o.asks;
  by = o.asks.by;
  kept = o.kept;
  draws = o.asks.sequence;
  above = o.above;
}

one-open : (w : World) → Draws w → Opens w → (host i j x y : ℕ) (r s : Request) (who other : Who) (m n : ℕ) (o : Option Client)
    → slice_get w.clients host ≡ o → IsOpenRequest w host i x r who m → IsOpenRequest w host j y s other n → (x ≡ y) × (r ≡ s)
one-open w d h host i j x y r s who other m n None is a b = absurd (d.lone host x r (asked-of w i host x r who m a.asks) is)
one-open w d h host i j x y r s who other m n (Some c) is a b = h.one host c is x y r s (open-at w host i x r who m a) (open-at w host j y s other n b)

-- an incarnation after the kept one has only asked to be attached
none-after : (w : World) (events : List Event) → Holds w → Draws w → Known w events
    → (place host xid : ℕ) (r : Request) (who : Who) (n : ℕ) (o : Option Client) → slice_get w.clients host ≡ o → Asks w.packets place host xid r who n
    → (host_row w.server.kept host).inc < who.inc → ⊥
none-after w events held d known place host xid r who n None is a later = d.lone host xid r (asked-of w place host xid r who n a) is
none-after w events held d known place host xid r who n (Some c) is a later =
    let attaches : r ≡ Request.Attach who = (known.clients host c is).lined.above xid r who (asks-here w held place host xid r who n c is a) a.by later in
    none-some n (ap sequence_of (sym attaches) ∙ a.sequence)

opens-one : (w : World) (events : List Event) → Holds w → Draws w → Known w events → Opens w → OpensOne w
opens-one w events held d known h = record {
  under_way = under-way w events held known;
  one = λ host i j x y r s who other m n. one-open w d h host i j x y r s who other m n (slice_get w.clients host) refl;
  none_after = λ place host xid r who n. none-after w events held d known place host xid r who n (slice_get w.clients host) refl;
}

pub one-open-in-every-run : OneOpenInEveryRun
one-open-in-every-run most head events b within =
    opens-one (run head events) events (run-holds head events) (run-draws head events) (run-runs most head events b within).known
    (run-opens most head events b within)

-- ---- replies come after

sent-before : (head : Head) (events : List Event) (place host : ℕ) (c : Client) (t : Ticket) (a : Reply)
    → slice_get (run head events).clients host ≡ Some c → c.ticket ≡ Some t → inc_of a ≡ c.who.inc
    → AnswersRequest (run head events).packets place host t.xid a → WasSentBefore head events place host t
sent-before head events place host c t a is has inc k =
    let w : World = run head events in
    let at = (run-holds head events).clients host c is in
    let asked : Asked w.packets c.who.host t.xid k.asks = subst (λ h. Asked w.packets h t.xid k.asks) (sym at.here)
    (in-get w.packets k.earlier (from_host host (call t.xid k.asks)) k.sent) in
    let same : t.request ≡ k.asks = (at.mail.asked t.xid k.asks k.who asked k.by).same (sym k.inc ∙ inc) t has refl in
    let order = k.before in
    record {
      earlier = k.earlier;
      before = k.before;
      sent = subst (λ r. slice_get w.packets k.earlier ≡ Some (from_host host (call t.xid r))) (sym same) k.sent;
      clock = sent-in-order head events k.earlier place (omega arith);
    }

pub replies-come-after : RepliesComeAfter
replies-come-after head events = record {
  each = (run-draws head events).answers;
  to_own = λ place host c t a is has at inc. sent-before head events place host c t a is has inc ((run-draws head events).answers place host t.xid a at);
}
