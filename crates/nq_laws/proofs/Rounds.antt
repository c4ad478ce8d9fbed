-- A round while the server serves: what holds of clients at its beginning, and what the frames tell of its delivery.
use Rattle.std.proofs.Common.{◌≡◌, ◌≤◌, ◌<◌, ◌⊎◌, ℕ, ◌+◌, Bool, true, false, nat_le, zero, suc, List, [], ◌∷◌, Option, Some, None, length, refl, sym}
use Rattle.std.proofs.Common.{subst, ap, ◌∙◌, arith, inl, inr}
use Rattle.std.specs.Prelude.{slice_get}
use Rattle.nq_base.specs.declared.Event.{Event}
use Rattle.nq_model.specs.protocol.Client.{Client, UnderWay, Ticket}
use Rattle.nq_model.specs.protocol.ClientStep.{client_tick}
use Rattle.nq_model.specs.protocol.Lines.{Play, play_hosts, play_rounds}
use Rattle.nq_model.specs.protocol.Message.{Packet, call}
use Rattle.nq_model.specs.protocol.Profile.{patience}
use Rattle.nq_model.specs.protocol.World.{Head, World}
use Rattle.law_rounds.proofs.ClientCount.{client-count}
use Rattle.law_rounds.specs.CalmRoundsAreLawful.{IsLawful}
use Rattle.law_rounds.specs.QuietDeliveries.{recovers}
use Rattle.law_rounds.proofs.Attaching.{tick-stays}
use Rattle.law_rounds.proofs.CalmEnds.{IsRising, played-rising, hosts-rising}
use Rattle.law_rounds.proofs.CalmIsLawful.{round}
use Rattle.law_rounds.specs.RoundsEndQuiet.{IsQuiet}
use Rattle.law_rounds.specs.WholeRounds.{play_order, IsInOrder}
use Rattle.law_rounds.proofs.Orders.{order-lawful, order-rising}
use Rattle.law_rounds.proofs.RecoveryRounds.{order-phase}
use Rattle.walk_steps.proofs.ClientFacts.{Alone}
use Rattle.walk_steps.proofs.ClientMoves.{some-same, none-some}
use Rattle.walk_steps.proofs.Packets.{In, not-both}
use Rattle.walk_steps.proofs.Worlds.{run-holds}
use Rattle.walk_steps.proofs.Tests.{is-at-most, is-not-at-most}
use Rattle.nq_laws.proofs.Hosts.{ticked}
use Rattle.law_rounds.proofs.Calling.{tick-opens}
use Rattle.nq_laws.proofs.Begin.{round-tickets, round-wants, none-renew}
use Rattle.nq_laws.proofs.Counts.{open_calls}
use Rattle.nq_laws.proofs.ServedDelivery.{State}
use Rattle.nq_laws.proofs.UnderWay.{Moves, Paused}
use Rattle.nq_laws.proofs.Frames.{HopesOrClear, SomeHopes, first-moves, second-moves, NoWay, no-hope, clear-none, none-clear, Ends, answered, stands}
use Rattle.nq_laws.proofs.Frames.{order-ends}
use Rattle.nq_laws.proofs.Given.{begins}
use Rattle.nq_laws.proofs.Hope.{PutsOff, Hopeful, Clear, safe-none}
use Rattle.nq_laws.proofs.Queue.{packets_of, queue, in-comes}
use Rattle.nq_laws.proofs.Ticks.{tick-pause}
use Rattle.law_rounds.proofs.ClientSteps.{get-below}

-- ---- who pauses

-- the clients of some hosts with an open call pause for one tick more
abbrev pub LateOf : (ℕ → Type 0) → World → Type 0
LateOf L w = (a : ℕ) (c : Client) (u : UnderWay) → L a → slice_get w.clients a ≡ Some c → c.call ≡ Some u → (c.now < c.pause) × (c.pause ≤ c.now + 1)

late-moves : (L : ℕ → Type 0) (w v : World) → Paused w v → LateOf L w → LateOf L v
late-moves L w v paused late a d u k at has =
    let s = paused a d u at has in
    let before = late a s.0 s.1 k s.2 s.3 in
    let same = s.4 before.0 in
    let now = same.0 in
    let pause = same.1 in
    let low = before.0 in
    let high = before.1 in
    (omega arith, omega arith)

-- the first frame, with that
pub record First (K L : ℕ → Type 0) (w : World) (q : List Packet) : Type 0 where
  pub hopes : HopesOrClear K w q
  pub late : LateOf L w

first-goes : (K L : ℕ → Type 0) (w v : World) (q q' : List Packet) → Moves w v q q' → Paused w v → First K L w q → First K L v q'
first-goes K L w v q q' m s f = record { hopes = first-moves K w v q q' m f.hopes; late = late-moves L w v s f.late }

-- a client with an open call pauses for at most so many ticks
abbrev pub PausesFor : ℕ → Client → Type 0
PausesFor left d = (v : UnderWay) → d.call ≡ Some v → d.pause ≤ d.now + left

-- an open call of a client that does not pause, or all pause
abbrev pub EarlyOrLate : List Client → Type 0
EarlyOrLate cs = ((h : ℕ) × (c : Client) × (u : UnderWay) × (slice_get cs h ≡ Some c) × (c.call ≡ Some u) × (c.pause ≤ c.now))
    ⊎ ((h : ℕ) (c : Client) (u : UnderWay) → slice_get cs h ≡ Some c → c.call ≡ Some u → c.now < c.pause)

pub early-or-late : (clients : List Client) → EarlyOrLate clients
early-or-late [] = inr (λ h c u at. none-some c at)
early-or-late (d ∷ clients) = by d.call refl (nat_le d.pause d.now) refl (early-or-late clients)
  where
    later : ((u : UnderWay) → d.call ≡ Some u → d.now < d.pause) → EarlyOrLate clients → EarlyOrLate (d ∷ clients)
    later here (inl s) = inl (suc s.0, s.1, s.2, s.3, s.4, s.5)
    later here (inr all) = inr each
      where
        each : (h : ℕ) (c : Client) (u : UnderWay) → slice_get (d ∷ clients) h ≡ Some c → c.call ≡ Some u → c.now < c.pause
        each zero c u at has = subst (λ (z : Client). z.now < z.pause) (some-same d c at) (here u (ap (λ (z : Client). z.call) (some-same d c at) ∙ has))
        each (suc h) c u at has = all h c u at has

    by : (o : Option UnderWay) → d.call ≡ o → (b : Bool) → nat_le d.pause d.now ≡ b → EarlyOrLate clients → EarlyOrLate (d ∷ clients)
    by None none b e rest = later (λ u has. none-some u (sym none ∙ has)) rest
    by (Some u) has true e rest = inl (0, d, u, refl, has, is-at-most d.pause d.now e)
    by (Some u) has false e rest = later (λ v other. is-not-at-most d.pause d.now e) rest

module _ (most : ℕ) (head : Head) where
  abbrev pub St : Play → Type 0
  St p = State most head p

  -- what is known of a play at the beginning of a round, in which packets arrive in this order
  pub record Round (order : List ℕ) (r : Play) : Type 0 where
    pub lawful : IsLawful most head r
    pub rising : IsRising r
    pub serves : recovers r.world.server.phase ≡ false
    pub in_order : IsInOrder order r
    pub arrives : (play_order order r).fresh ≡ []
    pub quiet : (host : ℕ) (c : Client) → slice_get (play_order order r).world.clients host ≡ Some c → IsQuiet c

  module _ (order : List ℕ) (r : Play) (k : Round order r) where
    pub done-lawful : IsLawful most head (play_order order r)
    done-lawful = order-lawful most head order r k.lawful

    pub done-fresh : (play_order order r).fresh ≡ []
    done-fresh = k.arrives

    pub done-serves : recovers (play_order order r).world.server.phase ≡ false
    done-serves = order-phase order r ∙ k.serves

    -- what ticks make of each client
    pub after-ticks : (P Q : Client → Type 0) → ((c : Client) → P c → Q (client_tick c (c.now + 1)).client) → (host : ℕ) → ((c : Client)
        → slice_get (play_order order r).world.clients host ≡ Some c → P c) → (c : Client)
        → slice_get (play_rounds 1 (play_order order r)).world.clients host ≡ Some c → Q c
    after-ticks P Q ticks host all c at =
        let next = round most head (play_order order r) done-lawful in
        let inside = get-below (play_rounds 1 (play_order order r)).world.clients host c at in
        let many : length (play_rounds 1 (play_order order r)).world.clients ≡ head.hosts = ap (λ
        (w : World). length w.clients) next.is_run ∙ client-count head (play_rounds 1 (play_order order r)).events in
        let before : length (play_order order r).world.clients ≡ head.hosts = ap (λ (w : World). length w.clients) done-lawful.is_run
        ∙ client-count head (play_order order r).events in
        ticked most head host P Q ticks (play_order order r) (omega arith) all c at

    pub record Rested (c : Client) : Type 0 where
      pub alone : Alone c
      pub on : c.attached ≡ true

    pub next-state : recovers (play_rounds 1 (play_order order r)).world.server.phase ≡ false
        → St (play_rounds 1 (play_order order r))
    next-state serves = record {
      lawful = round most head (play_order order r) done-lawful;
      rising = played-rising (play_hosts (length (play_order order r).world.clients) 0 (play_order order r)) Event.ServerTick
          (hosts-rising (length (play_order order r).world.clients) 0 (play_order order r) (order-rising order r k.rising));
      serves = serves;
      on = λ host c at. after-ticks Rested (λ (d : Client). d.attached ≡ true) (λ d s. tick-stays d s.alone s.on) host (λ d there. record {
        alone =
            ((run-holds head (play_order order r).events).clients host d (subst (λ
            (u : World). slice_get u.clients host ≡ Some d) done-lawful.is_run there)).alone;
        on = (k.quiet host d there).attached;
      }) c at;
      order = begins most head (play_order order r) done-lawful (order-rising order r k.rising) done-fresh (λ host c at.
          ((k.quiet host c at).attached, (k.quiet host c at).no_request));
      wants = round-wants most head (play_order order r) done-lawful done-fresh (λ host c at. (k.quiet host c at).no_request) serves;
      none_renew = none-renew most head (play_order order r) done-lawful done-fresh (λ host c at. (k.quiet host c at).no_request) serves;
    }

    -- nothing under way at its beginning puts anything off
    none-off : (host : ℕ) (c : Client) (t : Ticket) (y : Packet) → In (queue (play_rounds 1 (play_order order r))) y → PutsOff host c t y → ⊥
    none-off host c t y i off =
        let f = round-tickets (play_order order r) done-fresh (λ host c at. (k.quiet host c at).no_request) y (in-comes (play_rounds 1
        (play_order order r)) y i) in
        not-both f.host host (call f.ticket.xid f.ticket.request) _ (sym f.is ∙ off.is)

    -- so whoever does not pause hopes
    pub early-hopes : (host : ℕ) (c : Client) (u : UnderWay) → slice_get (play_rounds 1 (play_order order r)).world.clients host ≡ Some c
        → c.call ≡ Some u → c.pause ≤ c.now → Hopeful (play_rounds 1 (play_order order r)).world.clients (queue (play_rounds 1 (play_order order r))) host
    early-hopes host c u at has early = record {
      client = c;
      under = u;
      at = at;
      opened = has;
      unpaused = early;
      safe = λ t asks. safe-none host c t (queue (play_rounds 1 (play_order order r))) (none-off host c t);
    }

    -- and nobody pauses for more than one tick more
    pub soon : (host : ℕ) (c : Client) (u : UnderWay) → slice_get (play_rounds 1 (play_order order r)).world.clients host ≡ Some c
        → c.call ≡ Some u → c.pause ≤ c.now + 1
    soon host c u at has = (after-ticks (PausesFor patience) (PausesFor 1) ticks host (λ d there v open_then.
        ((k.quiet host d there).waits v open_then).1) c at) u has
      where
        ticks : (d : Client) → PausesFor patience d → PausesFor 1 (client_tick d (d.now + 1)).client
        ticks d before v open_now =
            let o = tick-opens d v open_now in
            let old = before o.0 o.1 in
            let t = tick-pause d in
            let now = t.0 in
            let pause = t.1 in
            omega arith

  -- ---- one delivery

  module _ (order : List ℕ) (r : Play) (k : Round order r) (st : St r) where
    -- no row is in the way of those for whom the first frame stands
    pub first-ends : (K L : ℕ → Type 0) → First K L r.world (queue r) → (open_calls (play_order order r).world.clients < open_calls r.world.clients)
        ⊎ (((a : ℕ)
        → K a → NoWay (play_order order r).world a) × LateOf L (play_order order r).world)
    first-ends K L f = by (order-ends most head (First K L) (first-goes K L) order r k.in_order st f)
      where
        by : Ends most head (First K L) (first-goes K L) (play_order order r) (open_calls r.world.clients)
            → (open_calls (play_order order r).world.clients < open_calls r.world.clients) ⊎ (((a : ℕ) → K a → NoWay (play_order order r).world a)
            × LateOf L (play_order order r).world)
        by (answered less) = inl less
        by (stands s g) = inr ((λ a ka. none a (g.hopes a ka)), g.late)
          where
            empty : queue (play_order order r) ≡ []
            empty = ap (packets_of (play_order order r).world.packets) (done-fresh order r k)

            none : (a : ℕ) → Hopeful (play_order order r).world.clients (queue (play_order order r)) a
                ⊎ Clear true (play_order order r).world.server.table.rows (play_order order r).world.clients (queue
                (play_order order r)) a → NoWay (play_order order r).world a
            none a (inl x) = absurd (no-hope (play_order order r).world (queue (play_order order r)) k.quiet a x)
            none a (inr x) = clear-none (play_order order r).world k.quiet true a (subst (λ q. Clear true (play_order order r).world.server.table.rows
                (play_order order r).world.clients q a) empty x)

    -- where somebody hopes, and no row is in anybody's way, a call is answered
    pub second-ends : ((a : ℕ) → NoWay r.world a) → (h : ℕ) → Hopeful r.world.clients (queue r) h
        → open_calls (play_order order r).world.clients < open_calls r.world.clients
    second-ends free h x = by (order-ends most head SomeHopes (λ w v q q' m s. second-moves w v q q' m) order r k.in_order st (record {
      clear =
          λ a. none-clear r.world (queue r) false a (free a);
      host = h;
      hopes = x;
    }))
      where
        by : Ends most head SomeHopes (λ w v q q' m s. second-moves w v q q' m) (play_order order r) (open_calls r.world.clients)
            → open_calls (play_order order r).world.clients < open_calls r.world.clients
        by (answered less) = less
        by (stands s g) = absurd (no-hope (play_order order r).world (queue (play_order order r)) k.quiet g.host g.hopes)
