-- Four rounds while the server serves: a call is answered, or none is open.
use Rattle.std.proofs.Common.{◌≡◌, ◌≤◌, ◌<◌, ◌⊎◌, ℕ, ◌+◌, ◌*◌, Bool, true, false, nat_le, zero, suc, List, [], ◌∷◌, Option, Some, None, length, refl}
use Rattle.std.proofs.Common.{sym, subst, ap, ◌∙◌, arith, inl, inr}
use Rattle.std.specs.Prelude.{slice_get}
use Rattle.nq_model.specs.protocol.Client.{Client, UnderWay}
use Rattle.nq_model.specs.protocol.ClientStep.{client_tick}
use Rattle.nq_model.specs.protocol.Lines.{Play, play_rounds}
use Rattle.nq_model.specs.protocol.World.{Head, World}
use Rattle.law_rounds.specs.CalmRoundsAreLawful.{IsLawful}
use Rattle.law_rounds.specs.QuietDeliveries.{recovers}
use Rattle.law_rounds.proofs.Attaching.{tick-stays}
use Rattle.law_rounds.specs.WholeRounds.{play_order, whole_round, whole_rounds}
use Rattle.law_rounds.proofs.Orders.{whole-lawful, wholes-lawful}
use Rattle.walk_steps.proofs.ClientMoves.{some-same, none-some}
use Rattle.walk_steps.proofs.Worlds.{run-holds}
use Rattle.walk_steps.proofs.Tests.{is-at-most, is-not-at-most}
use Rattle.law_rounds.proofs.Calling.{tick-opens}
use Rattle.nq_laws.proofs.Counts.{open_calls, order-less, ticks-less, some-open}
use Rattle.nq_laws.proofs.Frames.{NoWay, none-clear}
use Rattle.nq_laws.proofs.Hope.{Hopeful, Clear}
use Rattle.nq_laws.proofs.Queue.{queue}
use Rattle.nq_laws.proofs.Ticks.{tick-pause, ticks-free}
use Rattle.nq_laws.proofs.Rounds.{LateOf, PausesFor, early-or-late, St, Round, done-lawful, done-serves, after-ticks, Rested, next-state, early-hopes}
use Rattle.nq_laws.proofs.Rounds.{soon, first-ends, second-ends}

module _ (most : ℕ) (head : Head) where
  -- ---- four deliveries

  -- for whom the first frame stands at the beginning of a delivery: those who do not pause, and those in whose way no row is
  module _ (order : List ℕ) (r : Play) (k : Round most head order r) (serves : recovers (play_rounds 1 (play_order order r)).world.server.phase ≡ false) where
    abbrev begun : Play
    begun = play_rounds 1 (play_order order r)

    begun-state : St most head (play_rounds 1 (play_order order r))
    begun-state = next-state most head order r k serves

    -- a host's client does not pause, if there is one
    abbrev IsEarly : ℕ → Type 0
    IsEarly a = (c : Client) → slice_get (play_rounds 1 (play_order order r)).world.clients a ≡ Some c → c.pause ≤ c.now

    abbrev IsLate : ℕ → Type 0
    IsLate a = (c : Client) → slice_get (play_rounds 1 (play_order order r)).world.clients a ≡ Some c → c.now < c.pause

    -- each host is one or the other, or its call is not open
    data When (a : ℕ) : Type 0 where
      early : IsEarly a → When a
      late : (c : Client) (u : UnderWay) → slice_get (play_rounds 1 (play_order order r)).world.clients a ≡ Some c → c.call ≡ Some u
          → IsLate a → When a
      idle : NoWay (play_rounds 1 (play_order order r)).world a → When a

    when : (a : ℕ) → When a
    when a = by (slice_get (play_rounds 1 (play_order order r)).world.clients a) refl
      where
        pauses : (c : Client) → slice_get (play_rounds 1 (play_order order r)).world.clients a ≡ Some c → (b : Bool)
            → nat_le c.pause c.now ≡ b → (o : Option UnderWay) → c.call ≡ o → When a
        pauses c at true e o has = early (λ d there. subst (λ (z : Client). z.pause ≤ z.now) (some-same c d (sym at ∙ there)) (is-at-most c.pause c.now e))
        pauses c at false e None none = idle (λ d u f there has file h row way. none-some u (sym none
            ∙ ap (λ (z : Client). z.call) (some-same c d (sym at ∙ there)) ∙ has))
        pauses c at false e (Some u) has = late c u at has (λ d there. subst (λ (z : Client). z.now < z.pause) (some-same c d (sym at
            ∙ there)) (is-not-at-most c.pause c.now e))

        by : (o : Option Client) → slice_get (play_rounds 1 (play_order order r)).world.clients a ≡ o → When a
        by None none = early (λ c at. none-some c (sym none ∙ at))
        by (Some c) at = pauses c at (nat_le c.pause c.now) refl c.call refl

    early-frame : (a : ℕ) → IsEarly a → Hopeful begun.world.clients (queue begun) a ⊎ Clear true begun.world.server.table.rows begun.world.clients
        (queue begun) a
    early-frame a e = by (slice_get (play_rounds 1 (play_order order r)).world.clients a) refl
      where
        with-call : (c : Client) → slice_get (play_rounds 1 (play_order order r)).world.clients a ≡ Some c → (o : Option UnderWay)
            → c.call ≡ o → Hopeful begun.world.clients (queue begun) a ⊎ Clear true begun.world.server.table.rows begun.world.clients (queue begun) a
        with-call c at None none = inr (λ d u f there has file h row way. none-some u (sym none ∙ ap (λ (z : Client). z.call) (some-same c d (sym at
            ∙ there)) ∙ has))
        with-call c at (Some u) has = inl (early-hopes most head order r k a c u at has (e c at))

        by : (o : Option Client) → slice_get (play_rounds 1 (play_order order r)).world.clients a ≡ o
            → Hopeful begun.world.clients (queue begun) a ⊎ Clear true begun.world.server.table.rows begun.world.clients (queue begun) a
        by None none = inr (λ d u f there has file h row way. none-some d (sym none ∙ there))
        by (Some c) at = with-call c at c.call refl

    late-now : LateOf IsLate begun.world
    late-now a c u is_late at has = (is_late c at, soon most head order r k a c u at has)

    -- whoever is late at the beginning is early in the next delivery
    late-then-early : (next : List ℕ) (n : Round most head next begun) → LateOf IsLate (play_order next begun).world → (a : ℕ) → IsLate a → (c : Client)
        (u : UnderWay) → slice_get (play_rounds 1 (play_order next begun)).world.clients a ≡ Some c → c.call ≡ Some u → c.pause ≤ c.now
    late-then-early next n l a is_late c u at has = let e = (after-ticks most head next begun n (PausesFor 1) (PausesFor 0) ticks a (λ d there v open_then.
        (l a d v is_late there open_then).1) c at) u has in omega arith
      where
        ticks : (d : Client) → PausesFor 1 d → PausesFor 0 (client_tick d (d.now + 1)).client
        ticks d before v open_now =
            let o = tick-opens d v open_now in
            let old = before o.0 o.1 in
            let t = tick-pause d in
            let now = t.0 in
            let pause = t.1 in
            omega arith

  -- after a round there are no more open calls
  round-less : (order : List ℕ) (r : Play) (k : Round most head order r) → (open_calls (play_rounds 1 (play_order order r)).world.clients
      ≤ open_calls (play_order order r).world.clients) × (open_calls (play_order order r).world.clients ≤ open_calls r.world.clients)
  round-less order r k = (ticks-less (play_order order r), order-less most head order r k.lawful)

  module _ (o0 o1 o2 o3 o4 : List ℕ) (r0 : Play) (k0 : Round most head o0 r0) where
    abbrev r1 : Play
    r1 = play_rounds 1 (play_order o0 r0)

    abbrev r2 : Play
    r2 = play_rounds 1 (play_order o1 r1)

    abbrev r3 : Play
    r3 = play_rounds 1 (play_order o2 r2)

    abbrev r4 : Play
    r4 = play_rounds 1 (play_order o3 r3)

    abbrev r5 : Play
    r5 = play_rounds 1 (play_order o4 r4)

    module _ (k1 : Round most head o1 r1) (k2 : Round most head o2 r2) (k3 : Round most head o3 r3) (k4 : Round most head o4 r4) where
      -- in the fourth delivery somebody hopes, if nobody did in the third
      fourth : ((a : ℕ) → NoWay r4.world a) → ((a : ℕ) (c : Client) (u : UnderWay) → slice_get r4.world.clients a ≡ Some c → c.call ≡ Some u
          → c.pause ≤ c.now) → (open_calls (play_order o4 r4).world.clients < open_calls r4.world.clients) ⊎ (open_calls r4.world.clients ≡ 0)
      fourth free none_pauses = by (open_calls r4.world.clients) refl
        where
          by : (n : ℕ) → open_calls r4.world.clients ≡ n → (open_calls (play_order o4 r4).world.clients < open_calls r4.world.clients)
              ⊎ (open_calls r4.world.clients ≡ 0)
          by zero e = inr e
          by (suc n) e =
              let s = some-open r4.world.clients (omega arith) in
              inl (second-ends most head o4 r4 k4 (begun-state o3 r3 k3 k4.serves) free s.0 (early-hopes most head o3 r3 k3 s.0 s.1 s.2 s.3 s.4
              (none_pauses s.0 s.1 s.2 s.3 s.4)))

      third : ((a : ℕ) → NoWay r3.world a) → (open_calls (play_order o3 r3).world.clients < open_calls r3.world.clients)
          ⊎ ((open_calls (play_order o4 r4).world.clients < open_calls r4.world.clients) ⊎ (open_calls r4.world.clients ≡ 0))
      third free = by (early-or-late r3.world.clients)
        where
          all-late : ((h : ℕ) (c : Client) (u : UnderWay) → slice_get r3.world.clients h ≡ Some c → c.call ≡ Some u → c.now < c.pause)
              → LateOf (λ a. Unit {0}) r3.world
          all-late each a c u any at has = (each a c u at has, soon most head o2 r2 k2 a c u at has)

          then : (((a : ℕ) → Unit {0} → NoWay (play_order o3 r3).world a) × LateOf (λ a. Unit {0}) (play_order o3 r3).world)
              → (open_calls (play_order o3 r3).world.clients < open_calls r3.world.clients)
              ⊎ ((open_calls (play_order o4 r4).world.clients < open_calls r4.world.clients) ⊎ (open_calls r4.world.clients ≡ 0))
          then e = inr (fourth (λ a. ticks-free most head (play_order o3 r3) (done-lawful most head o3 r3 k3)
              (done-serves most head o3 r3 k3) a (e.0 a tt))
              (λ a c u at has. let z = (after-ticks most head o3 r3 k3 (PausesFor 1) (PausesFor 0) ticks a (λ d there v open_then.
              (e.1 a d v tt there open_then).1) c at) u has in omega arith))
            where
              ticks : (d : Client) → PausesFor 1 d → PausesFor 0 (client_tick d (d.now + 1)).client
              ticks d before v open_now =
                  let o = tick-opens d v open_now in
                  let old = before o.0 o.1 in
                  let t = tick-pause d in
                  let now = t.0 in
                  let pause = t.1 in
                  omega arith

          goes : (open_calls (play_order o3 r3).world.clients < open_calls r3.world.clients) ⊎ (((a : ℕ) → Unit {0} → NoWay (play_order o3 r3).world a)
              × LateOf (λ a. Unit {0}) (play_order o3 r3).world) → (open_calls (play_order o3 r3).world.clients < open_calls r3.world.clients)
              ⊎ ((open_calls (play_order o4 r4).world.clients < open_calls r4.world.clients) ⊎ (open_calls r4.world.clients ≡ 0))
          goes (inl less) = inl less
          goes (inr e) = then e

          by : ((h : ℕ) × (c : Client) × (u : UnderWay) × (slice_get r3.world.clients h ≡ Some c) × (c.call ≡ Some u) × (c.pause ≤ c.now))
              ⊎ ((h : ℕ) (c : Client) (u : UnderWay) → slice_get r3.world.clients h ≡ Some c → c.call ≡ Some u → c.now < c.pause)
              → (open_calls (play_order o3 r3).world.clients < open_calls r3.world.clients)
              ⊎ ((open_calls (play_order o4 r4).world.clients < open_calls r4.world.clients) ⊎ (open_calls r4.world.clients ≡ 0))
          by (inl s) = inl (second-ends most head o3 r3 k3 (begun-state o2 r2 k2 k3.serves) free s.0 (early-hopes most head o2 r2 k2 s.0 s.1 s.2 s.3 s.4 s.5))
          by (inr each) = goes (first-ends most head o3 r3 k3 (begun-state o2 r2 k2 k3.serves) (λ a. Unit {0}) (λ a. Unit {0}) (record {
            hopes = λ a any. inr
                (none-clear r3.world (queue r3) true a (free a));
            late = all-late each;
          }))

      -- after two deliveries in which no call is answered, no row is in anybody's way
      second : ((a : ℕ) → IsEarly o0 r0 k0 k1.serves a ⊎ NoWay r1.world a → NoWay r2.world a) → ((a : ℕ) → IsLate o0 r0 k0 k1.serves a
          → (c : Client) (u : UnderWay) → slice_get r2.world.clients a ≡ Some c → c.call ≡ Some u → c.pause ≤ c.now)
          → (open_calls (play_order o2 r2).world.clients < open_calls r2.world.clients) ⊎ ((a : ℕ) → NoWay r3.world a)
      second free soon_early = by (first-ends most head o2 r2 k2 (begun-state o1 r1 k1 k2.serves) (λ a. IsEarly o1 r1 k1 k2.serves a
          ⊎ NoWay r2.world a) (λ a. ⊥) (record { hopes = λ a s. start a s; late = λ a c u none. absurd none }))
        where
          start : (a : ℕ) → IsEarly o1 r1 k1 k2.serves a ⊎ NoWay r2.world a → Hopeful r2.world.clients (queue r2) a
              ⊎ Clear true r2.world.server.table.rows r2.world.clients (queue r2) a
          start a (inl e) = early-frame o1 r1 k1 k2.serves a e
          start a (inr e) = inr (none-clear r2.world (queue r2) true a e)

          which : (a : ℕ) → IsEarly o1 r1 k1 k2.serves a ⊎ NoWay r2.world a
          which a = now (when o1 r1 k1 k2.serves a)
            where
              before : (c : Client) (u : UnderWay) → slice_get r2.world.clients a ≡ Some c → c.call ≡ Some u → IsLate o1 r1 k1 k2.serves a
                  → When o0 r0 k0 k1.serves a → IsEarly o1 r1 k1 k2.serves a ⊎ NoWay r2.world a
              before c u at has is_late (early e) = inr (free a (inl e))
              before c u at has is_late (late d v there open_then l) = let soon_now = soon_early a l c u at has in let late_now = is_late c at in absurd
                  (omega arith)
              before c u at has is_late (idle none) = inr (free a (inr none))

              now : When o1 r1 k1 k2.serves a → IsEarly o1 r1 k1 k2.serves a ⊎ NoWay r2.world a
              now (early e) = inl e
              now (idle none) = inr none
              now (late c u at has l) = before c u at has l (when o0 r0 k0 k1.serves a)

          by : (open_calls (play_order o2 r2).world.clients < open_calls r2.world.clients) ⊎ (((a : ℕ) → IsEarly o1 r1 k1 k2.serves a ⊎ NoWay r2.world a
              → NoWay (play_order o2 r2).world a) × LateOf (λ a. ⊥) (play_order o2 r2).world)
              → (open_calls (play_order o2 r2).world.clients < open_calls r2.world.clients) ⊎ ((a : ℕ) → NoWay r3.world a)
          by (inl less) = inl less
          by (inr e) = inr (λ a. ticks-free most head (play_order o2 r2) (done-lawful most head o2 r2 k2) (done-serves most head o2 r2 k2) a
              (e.0 a (which a)))

      sum-up : (open_calls (play_order o1 r1).world.clients < open_calls r1.world.clients)
          ⊎ ((open_calls (play_order o2 r2).world.clients < open_calls r2.world.clients) ⊎ ((a : ℕ) → NoWay r3.world a))
          → (open_calls r5.world.clients < open_calls r1.world.clients) ⊎ (open_calls r5.world.clients ≡ 0)
      sum-up s =
          let a = round-less o1 r1 k1 in
          let b = round-less o2 r2 k2 in
          let c = round-less o3 r3 k3 in
          let d = round-less o4 r4 k4 in
          by a.0 a.1 b.0 b.1 c.0 c.1 d.0 d.1 s
        where
          last : (open_calls r2.world.clients ≤ open_calls (play_order o1 r1).world.clients)
              → (open_calls (play_order o1 r1).world.clients ≤ open_calls r1.world.clients)
              → (open_calls r3.world.clients ≤ open_calls (play_order o2 r2).world.clients)
              → (open_calls (play_order o2 r2).world.clients ≤ open_calls r2.world.clients)
              → (open_calls r4.world.clients ≤ open_calls (play_order o3 r3).world.clients)
              → (open_calls (play_order o3 r3).world.clients ≤ open_calls r3.world.clients)
              → (open_calls r5.world.clients ≤ open_calls (play_order o4 r4).world.clients)
              → (open_calls (play_order o4 r4).world.clients ≤ open_calls r4.world.clients)
              → (open_calls (play_order o3 r3).world.clients < open_calls r3.world.clients)
              ⊎ ((open_calls (play_order o4 r4).world.clients < open_calls r4.world.clients) ⊎ (open_calls r4.world.clients ≡ 0))
              → (open_calls r5.world.clients < open_calls r1.world.clients) ⊎ (open_calls r5.world.clients ≡ 0)
          last a0 a1 b0 b1 c0 c1 d0 d1 (inl less) = inl (omega arith)
          last a0 a1 b0 b1 c0 c1 d0 d1 (inr (inl less)) = inl (omega arith)
          last a0 a1 b0 b1 c0 c1 d0 d1 (inr (inr none)) = inr (omega arith)

          by : (open_calls r2.world.clients ≤ open_calls (play_order o1 r1).world.clients)
              → (open_calls (play_order o1 r1).world.clients ≤ open_calls r1.world.clients)
              → (open_calls r3.world.clients ≤ open_calls (play_order o2 r2).world.clients)
              → (open_calls (play_order o2 r2).world.clients ≤ open_calls r2.world.clients)
              → (open_calls r4.world.clients ≤ open_calls (play_order o3 r3).world.clients)
              → (open_calls (play_order o3 r3).world.clients ≤ open_calls r3.world.clients)
              → (open_calls r5.world.clients ≤ open_calls (play_order o4 r4).world.clients)
              → (open_calls (play_order o4 r4).world.clients ≤ open_calls r4.world.clients)
              → (open_calls (play_order o1 r1).world.clients < open_calls r1.world.clients)
              ⊎ ((open_calls (play_order o2 r2).world.clients < open_calls r2.world.clients) ⊎ ((a : ℕ) → NoWay r3.world a))
              → (open_calls r5.world.clients < open_calls r1.world.clients) ⊎ (open_calls r5.world.clients ≡ 0)
          by a0 a1 b0 b1 c0 c1 d0 d1 (inl less) = inl (omega arith)
          by a0 a1 b0 b1 c0 c1 d0 d1 (inr (inl less)) = inl (omega arith)
          by a0 a1 b0 b1 c0 c1 d0 d1 (inr (inr free)) = last a0 a1 b0 b1 c0 c1 d0 d1 (third free)

      pub four-rounds : (open_calls r5.world.clients < open_calls r1.world.clients) ⊎ (open_calls r5.world.clients ≡ 0)
      four-rounds = sum-up (by (first-ends most head o1 r1 k1 (begun-state o0 r0 k0 k1.serves) (λ a. IsEarly o0 r0 k0 k1.serves a
          ⊎ NoWay r1.world a) (IsLate o0 r0 k0 k1.serves) (record { hopes = λ a s. start a s; late = late-now o0 r0 k0 k1.serves })))
        where
          start : (a : ℕ) → IsEarly o0 r0 k0 k1.serves a ⊎ NoWay r1.world a → Hopeful r1.world.clients (queue r1) a
              ⊎ Clear true r1.world.server.table.rows r1.world.clients (queue r1) a
          start a (inl e) = early-frame o0 r0 k0 k1.serves a e
          start a (inr e) = inr (none-clear r1.world (queue r1) true a e)

          by : (open_calls (play_order o1 r1).world.clients < open_calls r1.world.clients) ⊎ (((a : ℕ) → IsEarly o0 r0 k0 k1.serves a ⊎ NoWay r1.world a
              → NoWay (play_order o1 r1).world a) × LateOf (IsLate o0 r0 k0 k1.serves) (play_order o1 r1).world)
              → (open_calls (play_order o1 r1).world.clients < open_calls r1.world.clients)
              ⊎ ((open_calls (play_order o2 r2).world.clients < open_calls r2.world.clients) ⊎ ((a : ℕ) → NoWay r3.world a))
          by (inl less) = inl less
          by (inr e) = inr (second (λ a s. ticks-free most head (play_order o1 r1) (done-lawful most head o1 r1 k1)
              (done-serves most head o1 r1 k1) a (e.0 a s))
              (late-then-early o0 r0 k0 k1.serves o1 k1 e.1))

  -- ---- any number of rounds

  -- what is known of each of some rounds, one after another
  abbrev pub Rounds : List (List ℕ) → Play → Type 0
  Rounds [] r = Unit {0}
  Rounds (order ∷ orders) r = Round most head order r × Rounds orders (whole_round order r)

  pub rounds-less : (orders : List (List ℕ)) (r : Play) → IsLawful most head r
      → open_calls (whole_rounds orders r).world.clients ≤ open_calls r.world.clients
  unfolding whole_round
  rounds-less [] r l = omega arith
  rounds-less (order ∷ orders) r l =
      let later = rounds-less orders (whole_round order r) (whole-lawful most head order r l) in
      let one = ticks-less (play_order order r) in
      let two = order-less most head order r l in
      omega arith

  block : (o0 o1 o2 o3 o4 : List ℕ) (r : Play) → Rounds (o0 ∷ o1 ∷ o2 ∷ o3 ∷ o4 ∷ []) r
      → (open_calls (whole_rounds (o0 ∷ o1 ∷ o2 ∷ o3 ∷ o4 ∷ []) r).world.clients < open_calls (whole_round o0 r).world.clients)
      ⊎ (open_calls (whole_rounds (o0 ∷ o1 ∷ o2 ∷ o3 ∷ o4 ∷ []) r).world.clients ≡ 0)
  unfolding whole_round
  block o0 o1 o2 o3 o4 r k = four-rounds o0 o1 o2 o3 o4 r k.0 k.1.0 k.1.1.0 k.1.1.1.0 k.1.1.1.1.0

  -- four rounds for each call
  pub blocks : (m : ℕ) (first : List ℕ) (orders : List (List ℕ)) (r : Play) → 4 * m ≤ length orders → IsLawful most head r → Rounds (first ∷ orders) r
      → (open_calls (whole_rounds orders (whole_round first r)).world.clients + m ≤ open_calls (whole_round first r).world.clients)
      ⊎ (open_calls (whole_rounds orders (whole_round first r)).world.clients ≡ 0)
  blocks zero first orders r many l k = inl (let less = rounds-less orders (whole_round first r) (whole-lawful most head first r l) in omega arith)
  blocks (suc m) first (a ∷ b ∷ c ∷ d ∷ orders) r many l k =
      by (block first a b c d r (k.0, (k.1.0, (k.1.1.0, (k.1.1.1.0, (k.1.1.1.1.0, tt))))))
      (blocks m d orders (whole_rounds (first ∷ a ∷ b ∷ c ∷ []) r) (omega arith) l4 (k.1.1.1.1.0, k.1.1.1.1.1))
    where
      l4 : IsLawful most head (whole_rounds (first ∷ a ∷ b ∷ c ∷ []) r)
      l4 = wholes-lawful most head (first ∷ a ∷ b ∷ c ∷ []) r l

      by : (open_calls (whole_rounds (first ∷ a ∷ b ∷ c ∷ d ∷ []) r).world.clients < open_calls (whole_round first r).world.clients)
          ⊎ (open_calls (whole_rounds (first ∷ a ∷ b ∷ c ∷ d ∷ []) r).world.clients ≡ 0)
          → (open_calls (whole_rounds orders (whole_rounds (first ∷ a ∷ b ∷ c ∷ d ∷ []) r)).world.clients + m ≤ open_calls
          (whole_rounds (first ∷ a ∷ b ∷ c ∷ d ∷ []) r).world.clients)
          ⊎ (open_calls (whole_rounds orders (whole_rounds (first ∷ a ∷ b ∷ c ∷ d ∷ []) r)).world.clients ≡ 0)
          → (open_calls (whole_rounds orders (whole_rounds (first ∷ a ∷ b ∷ c ∷ d ∷ []) r)).world.clients + suc m ≤ open_calls
          (whole_round first r).world.clients)
          ⊎ (open_calls (whole_rounds orders (whole_rounds (first ∷ a ∷ b ∷ c ∷ d ∷ []) r)).world.clients ≡ 0)
      by less (inr none) = inr none
      by (inl less) (inl fewer) = inl (omega arith)
      by (inr none) (inl fewer) = inr (omega arith)
  blocks (suc m) first [] r many l k = absurd (omega arith)
  blocks (suc m) first (a ∷ []) r many l k = absurd (omega arith)
  blocks (suc m) first (a ∷ b ∷ []) r many l k = absurd (omega arith)
  blocks (suc m) first (a ∷ b ∷ c ∷ []) r many l k = absurd (omega arith)

  -- all are attached after a round, so also after the last
  attached-next : (order : List ℕ) (r : Play) (k : Round most head order r) → (host : ℕ) (c : Client)
      → slice_get (whole_round order r).world.clients host ≡ Some c → c.attached ≡ true
  unfolding whole_round
  attached-next order r k host c at = after-ticks most head order r k (Rested most head order r k) (λ (d : Client). d.attached ≡ true)
      (λ d s. tick-stays d s.alone s.on) host
      (λ d there. record {
        alone = ((run-holds head (play_order order r).events).clients host d (subst (λ
            (u : World). slice_get u.clients host ≡ Some d) (done-lawful most head order r k).is_run there)).alone;
        on = (k.quiet host d there).attached;
      }) c at

  pub attached-last : (orders : List (List ℕ)) (order : List ℕ) (r : Play) → Rounds (order ∷ orders) r → (host : ℕ) (c : Client)
      → slice_get (whole_rounds orders (whole_round order r)).world.clients host ≡ Some c → c.attached ≡ true
  attached-last [] order r k host c at = attached-next order r k.0 host c at
  attached-last (next ∷ orders) order r k host c at = attached-last orders next (whole_round order r) k.1 host c at
