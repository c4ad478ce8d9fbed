-- How many calls are open: no delivery and no tick opens one.
use Rattle.std.proofs.Common.{◌≡◌, ◌≤◌, ◌<◌, ℕ, ◌+◌, zero, suc, List, [], ◌∷◌, Option, Some, None, refl, sym, subst, ap, ◌∙◌, arith, length}
use Rattle.std.specs.Prelude.{slice_get, slice_set}
use Rattle.nq_base.specs.declared.Event.{Event}
use Rattle.nq_model.specs.protocol.Client.{Client, ClientStep, UnderWay}
use Rattle.nq_model.specs.protocol.ClientStep.{client_tick}
use Rattle.nq_model.specs.protocol.Lines.{Play, play, play_hosts, play_rounds}
use Rattle.nq_model.specs.protocol.World.{Head, World, after_client, after_server, at_client, step}
use Rattle.law_rounds.specs.CalmRoundsAreLawful.{IsLawful}
use Rattle.law_rounds.proofs.CalmIsLawful.{played-quiet}
use Rattle.law_rounds.specs.WholeRounds.{play_order}
use Rattle.law_rounds.proofs.Coming.{Delivery, no_packet, at_server, at_host, ignored, no_client, delivery}
use Rattle.walk_steps.proofs.ClientMoves.{some-same, none-some}
use Rattle.walk_steps.proofs.Worlds.{Holds, run-holds}
use Rattle.law_rounds.proofs.Calling.{StillOpen, hear-keeps, tick-opens}
pub use Rattle.nq_laws.specs.WholeCallsAnswered.{one_if_open, open_calls}

pub one-set : (clients : List Client) (h : ℕ) (c d : Client) → slice_get clients h ≡ Some c
    → open_calls (slice_set clients h d) + one_if_open c.call ≡ open_calls clients + one_if_open d.call
one-set [] h c d is = none-some c is
one-set (e ∷ clients) zero c d is = let same : one_if_open e.call ≡ one_if_open c.call = ap (λ (x : Client). one_if_open x.call)
    (some-same e c is) in omega arith
one-set (e ∷ clients) (suc h) c d is = let rest = one-set clients h c d is in omega arith

-- a call that is open now was open before
still-less : (a b : Option UnderWay) → StillOpen a b → one_if_open b ≤ one_if_open a
still-less a None s = omega arith
still-less None (Some u) s = let v = s u refl in none-some v.0 v.1
still-less (Some w) (Some u) s = omega arith

-- where it ends there are fewer
pub ended-fewer : (clients : List Client) (h : ℕ) (c d : Client) (u : UnderWay) → slice_get clients h ≡ Some c → c.call ≡ Some u → d.call ≡ None
    → open_calls (slice_set clients h d) < open_calls clients
ended-fewer clients h c d u at was now =
    let sum = one-set clients h c d at in
    let one : one_if_open c.call ≡ 1 = ap one_if_open was in
    let zero_then : one_if_open d.call ≡ 0 = ap one_if_open now in
    omega arith

stepped-less : (w : World) (h : ℕ) (c : Client) (t : ClientStep) → slice_get w.clients h ≡ Some c → StillOpen c.call t.client.call
    → open_calls (after_client w h t).clients ≤ open_calls w.clients
unfolding after_client
stepped-less w h c t at s =
    let sum = one-set w.clients h c t.client at in
    let less = still-less c.call t.client.call s in
    omega arith

delivered-less : (w : World) → Holds w → (k : ℕ) → open_calls (step w (Event.Deliver k)).clients ≤ open_calls w.clients
unfolding after_server
delivered-less w holds k = by (delivery w k)
  where
    same : step w (Event.Deliver k) ≡ w → open_calls (step w (Event.Deliver k)).clients ≤ open_calls w.clients
    same is = let e : open_calls (step w (Event.Deliver k)).clients ≡ open_calls w.clients = ap (λ (v : World). open_calls v.clients) is in omega arith

    by : Delivery w k (step w (Event.Deliver k)) → open_calls (step w (Event.Deliver k)).clients ≤ open_calls w.clients
    by (no_packet none is) = same is
    by (at_server q sent to is) = let e : open_calls (step w (Event.Deliver k)).clients ≡ open_calls w.clients = ap (λ
        (v : World). open_calls v.clients) is in omega arith
    by (ignored h q c sent to at hears is) = same is
    by (no_client h q sent to none is) = same is
    by (at_host h q c t sent to at hears is) =
        let less = stepped-less w h c t at (hear-keeps ⊥ c k q.message t (holds.clients h c at).alone hears (λ bad x i s e off. absurd bad)).calls in
        let e : open_calls (step w (Event.Deliver k)).clients ≡ open_calls (after_client w h t).clients = ap (λ (v : World). open_calls v.clients) is in
        omega arith

module _ (most : ℕ) (head : Head) where
  pub order-less : (order : List ℕ) (p : Play) → IsLawful most head p → open_calls (play_order order p).world.clients ≤ open_calls p.world.clients
  order-less [] p l = omega arith
  order-less (k ∷ order) p l =
      let first = delivered-less p.world (subst (λ u. Holds u) (sym l.is_run) (run-holds head p.events)) k in
      let later = order-less order (play p (Event.Deliver k)) (played-quiet most head p (Event.Deliver k) tt refl l) in
      omega arith

-- ---- ticks

tick-less : (w : World) (h : ℕ) (o : Option Client) → slice_get w.clients h ≡ o → open_calls (at_client w h (λ c. client_tick c
    (c.now + 1)) o).clients ≤ open_calls w.clients
tick-less w h None at = omega arith
tick-less w h (Some c) at = stepped-less w h c (client_tick c (c.now + 1)) at (tick-opens c)

hosts-less : (count h : ℕ) (p : Play) → open_calls (play_hosts count h p).world.clients ≤ open_calls p.world.clients
hosts-less zero h p = omega arith
hosts-less (suc count) h p =
    let first = tick-less p.world h (slice_get p.world.clients h) refl in
    let later = hosts-less count (h + 1) (play p (Event.ClientTick h)) in
    omega arith

pub ticks-less : (p : Play) → open_calls (play_rounds 1 p).world.clients ≤ open_calls p.world.clients
unfolding after_server
ticks-less p = let less = hosts-less (length p.world.clients) 0 p in omega arith

-- ---- none

pub none-open : (clients : List Client) (h : ℕ) (c : Client) → slice_get clients h ≡ Some c → open_calls clients ≡ 0 → c.call ≡ None
none-open [] h c at none = none-some c at
none-open (d ∷ clients) zero c at none = by c.call refl
  where
    by : (o : Option UnderWay) → c.call ≡ o → c.call ≡ None
    by None e = e
    by (Some u) e = let one : one_if_open d.call ≡ 1 = ap (λ (x : Client). one_if_open x.call) (some-same d c at) ∙ ap one_if_open e in absurd (omega arith)
none-open (d ∷ clients) (suc h) c at none = none-open clients h c at (omega arith)

pub at-most-all : (clients : List Client) → open_calls clients ≤ length clients
at-most-all [] = omega arith
at-most-all (c ∷ clients) = let rest = at-most-all clients in by c.call rest
  where
    by : (o : Option UnderWay) → open_calls clients ≤ length clients → one_if_open o + open_calls clients ≤ length (c ∷ clients)
    by None rest = omega arith
    by (Some u) rest = omega arith

-- where some are open, one is found
pub some-open : (clients : List Client) → 0 < open_calls clients → (h : ℕ) × (c : Client) × (u : UnderWay) × (slice_get clients h ≡ Some c) × (c.call ≡ Some u)
some-open [] some = absurd (omega arith)
some-open (c ∷ clients) some = by (λ more. some-open clients more) c.call refl
  where
    by : (0 < open_calls clients → (h : ℕ) × (d : Client) × (u : UnderWay) × (slice_get clients h ≡ Some d) × (d.call ≡ Some u)) → (o : Option UnderWay)
        → c.call ≡ o → (h : ℕ) × (d : Client) × (u : UnderWay) × (slice_get (c ∷ clients) h ≡ Some d) × (d.call ≡ Some u)
    by again (Some u) e = (0, c, u, refl, e)
    by again None e = let f = again (let zero_one : one_if_open c.call ≡ 0 = ap one_if_open e in omega arith) in (suc f.0, f.1, f.2, f.3, f.4)
