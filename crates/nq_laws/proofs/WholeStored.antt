-- Round after round in which nobody has an open call: the leases over delayed writes end, so all that is delayed is stored by then.
use Rattle.std.proofs.Common.{◌≡◌, ◌≤◌, ◌<◌, ℕ, ◌+◌, zero, suc, List, [], ◌∷◌, Some, length, refl, subst, ap, ◌∙◌, arith}
use Rattle.std.specs.Prelude.{slice_get}
use Rattle.std.proofs.lemmas.List.{length-append}
use Rattle.nq_model.specs.protocol.Client.{Client}
use Rattle.nq_model.specs.protocol.ClientStep.{client_tick}
use Rattle.nq_model.specs.protocol.Lines.{Play}
use Rattle.nq_model.specs.protocol.World.{Head, World, run}
use Rattle.law_rounds.proofs.ClientCount.{client-count}
use Rattle.law_rounds.specs.DeliveryEnds.{calmed}
use Rattle.law_rounds.specs.CalmRoundsAreLawful.{IsLawful}
use Rattle.law_rounds.specs.AtRest.{HasStored}
use Rattle.law_rounds.proofs.CalmEnds.{IsRising, calmed-rising}
use Rattle.law_rounds.proofs.IdleSteps.{Rests, hear-idles, tick-idles}
use Rattle.law_rounds.specs.RoundsEndQuiet.{IsSmall, IsQuiet}
use Rattle.law_rounds.specs.WholeRounds.{play_order, whole_round, whole_rounds, AreWhole, LinksKeepOrder}
use Rattle.law_rounds.proofs.Flows.{Covered, whole-small, wholes-small, wholes-cover, later-covers}
use Rattle.law_rounds.proofs.Orders.{order-lawful, whole-lawful, wholes-lawful, rounds-append, whole-parts, links-front, parts}
use Rattle.law_rounds.proofs.Quiet.{order-ends-quiet}
use Rattle.nq_laws.proofs.EndRounds.{quiet-ends, quiet-stored}
use Rattle.nq_laws.proofs.LeaseEnds.{EndsWithin, hear-ends, tick-ends}
use Rattle.nq_laws.proofs.Hosts.{At, order-keeps, ticked}
use Rattle.law_rounds.proofs.AllFound.{all-found}
use Rattle.nq_laws.specs.WholeCallsAnswered.{open_calls, rounds_for}
use Rattle.nq_laws.specs.WholeStored.{WholeStored}
use Rattle.nq_laws.proofs.AllAnswered.{answered-from}
use Rattle.law_rounds.proofs.ClientSteps.{get-below}

module _ (most : ℕ) (head : Head) (host : ℕ) (below : host < head.hosts) where
  -- what the ticks of a round make of the host's client
  ticks : (P Q : Client → Type 0) → ((c : Client) → P c → Q (client_tick c (c.now + 1)).client) → (order : List ℕ) (p : Play) → IsLawful most head p
      → At most head host P (play_order order p).world → At most head host Q (whole_round order p).world
  unfolding whole_round
  ticks P Q tick order p l all =
      let lq = order-lawful most head order p l in
      let many : length (play_order order p).world.clients ≡ head.hosts = ap (λ (w : World). length w.clients) lq.is_run
      ∙ client-count head (play_order order p).events in
      ticked most head host P Q tick (play_order order p) (omega arith) all

  abbrev Idle : Client → Type 0
  Idle c = Rests (Unit {0}) c

  -- who rests goes on to
  rests-on : (orders : List (List ℕ)) (p : Play) → IsLawful most head p → At most head host Idle p.world → At most head host Idle (whole_rounds orders p).world
  rests-on [] p l all = all
  rests-on (order ∷ orders) p l all = rests-on orders (whole_round order p) (whole-lawful most head order p l)
      (ticks Idle Idle (λ c r. tick-idles (Unit {0}) c (c.now + 1) r) order p l
      (order-keeps most head host Idle (λ c k m t alone hears r. hear-idles (Unit {0}) c k m t hears r) order p l all))

  stored-by : (left : ℕ) (orders : List (List ℕ)) (order : List ℕ) (p : Play) → IsLawful most head p
      → ((h : ℕ) → h < head.hosts → Covered most head h 0 p) → AreWhole (order ∷ orders) p → IsSmall (whole_rounds orders (whole_round order p))
      → left ≤ length orders → At most head host (EndsWithin left) (play_order order p).world
      → At most head host Idle (whole_rounds orders (whole_round order p)).world
  stored-by zero orders order p l covers whole small many all =
      rests-on orders (whole_round order p) (whole-lawful most head order p l)
      (ticks Idle Idle (λ c r. tick-idles (Unit {0}) c (c.now + 1) r) order p l idle)
    where
      idle : At most head host Idle (play_order order p).world
      idle c at =
          let quiet : IsQuiet c = order-ends-quiet most head order p l whole.0 (whole-small order p (wholes-small orders (whole_round order p) small))
          covers host
          c at in
          let stored = quiet-stored most head c quiet (all c at) in
          record {
            attached = quiet.attached;
            answered = (all c at).answered;
            dirty = λ yes. stored.none_delayed;
            push = λ yes. stored.none_under_way;
          }
  stored-by (suc left) [] order p l covers whole small many all = absurd (omega arith)
  stored-by (suc left) (next ∷ orders) order p l covers whole small many all =
      let e : suc left ≡ left + 1 = omega arith in
      let l1 = whole-lawful most head order p l in
      let fits : IsSmall (whole_round order p) = wholes-small (next ∷ orders) (whole_round order p) small in
      let ended = ticks (EndsWithin (left + 1)) (EndsWithin left) (tick-ends left) order p l
      (subst (λ n. At most head host (EndsWithin n) (play_order order p).world) e all) in
      stored-by left orders next (whole_round order p) l1 (λ h low. wholes-cover most head h (order ∷ []) p l low fits (covers h low)) whole.1 small
      (omega arith)
      (order-keeps most head host (EndsWithin left) (λ c k m t alone hears r. hear-ends left c k m t hears r) next (whole_round order p) l1 ended)

module _ (most : ℕ) (head : Head) (base : Play) (l : IsLawful most head base) (rising : IsRising base) where
  -- behind rounds that answered all calls
  stored-behind : (front back : List (List ℕ)) → 2 ≤ length front → most + 1 ≤ length back → AreWhole front base → LinksKeepOrder front base
      → rounds_for most (open_calls base.world.clients) ≤ length front → AreWhole back (whole_rounds front base)
      → IsSmall (whole_rounds back (whole_rounds front base)) → (host : ℕ) (c : Client)
      → slice_get (whole_rounds back (whole_rounds front base)).world.clients host ≡ Some c → HasStored c
  stored-behind front [] two many whole links enough later small host c at = absurd (omega arith)
  stored-behind front (order ∷ back) two many whole links enough later small host c at = record { none_delayed = rest.dirty tt; none_under_way = rest.push tt }
    where
      lp : IsLawful most head (whole_rounds front base)
      lp = wholes-lawful most head front base l

      below : host < head.hosts
      below =
          let inside = get-below (whole_rounds (order ∷ back) (whole_rounds front base)).world.clients host c at in
          let last = wholes-lawful most head (order ∷ back) (whole_rounds front base) lp in
          let hosts : length (whole_rounds (order ∷ back) (whole_rounds front base)).world.clients ≡ head.hosts =
          ap (λ (w : World). length w.clients) last.is_run ∙ client-count head (whole_rounds (order ∷ back) (whole_rounds front base)).events in
          omega arith

      fits : IsSmall (whole_rounds front base)
      fits = wholes-small (order ∷ back) (whole_rounds front base) small

      covers : (h : ℕ) → h < head.hosts → Covered most head h 0 (whole_rounds front base)
      covers h low = later-covers most head h front base two l low fits

      -- whose calls are answered has leases over delayed writes for so long at most
      ends : At most head host (EndsWithin most) (play_order order (whole_rounds front base)).world
      ends d there = quiet-ends most head (play_order order (whole_rounds front base)) (order-lawful most head order (whole_rounds front base) lp) host d there
          (order-ends-quiet most head order (whole_rounds front base) lp later.0
          (whole-small order (whole_rounds front base) (wholes-small back (whole_round order (whole_rounds front base)) small)) covers host d there)
          (order-keeps most head host (Rests ⊥) (λ e k m t alone hears r. hear-idles ⊥ e k m t hears r) order (whole_rounds front base) lp
          (λ e here. let a = answered-from most head base l rising front whole links fits host e here enough in
          record { attached = a.attached; answered = a.answered; dirty = λ no. absurd no; push = λ no. absurd no }) d there).answered

      rest : Rests (Unit {0}) c
      rest = stored-by most head host below most back order (whole_rounds front base) lp covers later small (omega arith) ends c at

pub whole-stored : WholeStored
unfolding calmed
whole-stored most head events bounds within under_way orders all many whole links small =
    let base = calmed head events under_way in
    let l : IsLawful most head base = record { is_run = refl; bounds = bounds; within = within } in
    let s = parts (rounds_for most (open_calls (run head events).clients)) orders (omega arith) in
    let both : length orders ≡ length s.front + length s.back = ap (λ (os : List (List ℕ)). length os) s.split ∙ length-append s.front s.back in
    let first = s.many in
    let halves = whole-parts s.front s.back base (subst (λ os. AreWhole os base) s.split whole) in
    let is : whole_rounds orders base ≡ whole_rounds s.back (whole_rounds s.front base) = ap (λ os. whole_rounds os base) s.split
    ∙ rounds-append s.front s.back base in
    all-found HasStored (whole_rounds orders base).world.clients (λ host c at.
    stored-behind most head base l (calmed-rising head events under_way all) s.front s.back (omega arith) (omega arith) halves.0
    (links-front s.front s.back base (subst (λ os. LinksKeepOrder os base) s.split links)) (omega arith) halves.1
    (subst (λ (q : Play). IsSmall q) is small) host c (subst (λ (q : Play). slice_get q.world.clients host ≡ Some c) is at))
