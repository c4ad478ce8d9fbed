-- Every call is answered by whole rounds in which links keep their order.
use Rattle.std.proofs.Common.{◌≡◌, ◌≤◌, ◌<◌, ◌⊎◌, ℕ, ◌+◌, ◌*◌, ◌++◌, false, List, [], ◌∷◌, Some, length, refl, subst, ap, ◌∙◌, arith, inl, inr}
use Rattle.std.specs.Prelude.{slice_get}
use Rattle.std.proofs.lemmas.List.{length-append}
use Rattle.nq_model.specs.protocol.Client.{Client}
use Rattle.nq_model.specs.protocol.Lines.{Play}
use Rattle.nq_model.specs.protocol.Profile.{skew, write_slack}
use Rattle.nq_model.specs.protocol.World.{Head}
use Rattle.law_rounds.specs.DeliveryEnds.{calmed}
use Rattle.law_rounds.specs.AtRest.{IsAnswered}
use Rattle.law_rounds.specs.CalmRoundsAreLawful.{IsLawful}
use Rattle.law_rounds.specs.QuietDeliveries.{recovers}
use Rattle.law_rounds.proofs.CalmEnds.{IsRising, calmed-rising}
use Rattle.law_rounds.specs.RoundsEndQuiet.{IsSmall}
use Rattle.law_rounds.specs.WholeRounds.{whole_round, whole_rounds, AreWhole, LinksKeepOrder}
use Rattle.law_rounds.proofs.Flows.{Covered, whole-small, wholes-small, wholes-cover, later-covers}
use Rattle.law_rounds.proofs.Orders.{whole-lawful, wholes-lawful, whole-rising, wholes-rising, rounds-append, whole-parts, links-behind, Parts, parts}
use Rattle.law_rounds.proofs.Quiet.{order-ends-quiet}
use Rattle.law_rounds.proofs.RecoveryRounds.{serves-from, serving-rounds}
use Rattle.law_rounds.proofs.AllFound.{all-found}
use Rattle.nq_laws.specs.WholeCallsAnswered.{WholeCallsAnswered, served_rounds_for, ServedCallsAnswered, rounds_for}
use Rattle.nq_laws.proofs.Counts.{open_calls, none-open}
use Rattle.nq_laws.proofs.FourRounds.{Rounds, rounds-less, blocks, attached-last}

module _ (most : ℕ) (head : Head) where
  -- from a play on in which no client waits for a reply that was lost, and the server serves
  rounds-from : (orders : List (List ℕ)) (r : Play) → IsLawful most head r → IsRising r → recovers r.world.server.phase ≡ false
      → ((host : ℕ) → host < head.hosts → Covered most head host 0 r) → AreWhole orders r → LinksKeepOrder orders r → IsSmall (whole_rounds orders r)
      → Rounds most head orders r
  rounds-from [] r l rising serves covers whole links small = tt
  rounds-from (order ∷ orders) r l rising serves covers whole links small = (
    record {
      lawful = l;
      rising = rising;
      serves = serves;
      in_order = links.0;
      arrives = whole.0;
      quiet = order-ends-quiet most head order r l whole.0 (whole-small order r later) covers;
    },
    rounds-from orders (whole_round order r) (whole-lawful most head order r l) (whole-rising order r rising) (serving-rounds (order ∷ []) r serves)
        (λ host below. wholes-cover most head host (order ∷ []) r l below later (covers host below)) whole.1 links.1 small,
  )
    where
      later : IsSmall (whole_round order r)
      later = wholes-small orders (whole_round order r) small

  module _ (base : Play) (l : IsLawful most head base) (rising : IsRising base) where
    -- behind some rounds, after which the server serves
    answered-behind :
        (front back : List (List ℕ))
        → 2 ≤ length front
        → recovers (whole_rounds front base).world.server.phase ≡ false
        → 4 * open_calls base.world.clients + 1 ≤ length back
        → AreWhole (front ++ back) base
        → LinksKeepOrder (front ++ back) base
        → IsSmall (whole_rounds (front ++ back) base)
        → (host : ℕ) (c : Client)
        → slice_get (whole_rounds (front ++ back) base).world.clients host ≡ Some c
        → IsAnswered c
    answered-behind front [] two serves many whole links small host c at = absurd (omega arith)
    answered-behind front (order ∷ back) two serves many whole links small host c at = record {
      attached = attached-last most head back order (whole_rounds front base) all host c there;
      answered = none-open (whole_rounds back (whole_round order (whole_rounds front base))).world.clients host c there none;
    }
      where
        is : whole_rounds (front ++ order ∷ back) base ≡ whole_rounds back (whole_round order (whole_rounds front base))
        is = rounds-append front (order ∷ back) base

        fits : IsSmall (whole_rounds back (whole_round order (whole_rounds front base)))
        fits = subst (λ (q : Play). IsSmall q) is small

        there : slice_get (whole_rounds back (whole_round order (whole_rounds front base))).world.clients host ≡ Some c
        there = subst (λ (q : Play). slice_get q.world.clients host ≡ Some c) is at

        lawful : IsLawful most head (whole_rounds front base)
        lawful = wholes-lawful most head front base l

        all : Rounds most head (order ∷ back) (whole_rounds front base)
        all = rounds-from (order ∷ back) (whole_rounds front base) lawful (wholes-rising front base rising) serves
            (λ h below. later-covers most head h front base two l below (wholes-small (order ∷ back) (whole_rounds front base) fits))
            (whole-parts front (order ∷ back) base whole).1 (links-behind front (order ∷ back) base links) fits

        none : open_calls (whole_rounds back (whole_round order (whole_rounds front base))).world.clients ≡ 0
        none = by (blocks most head (open_calls base.world.clients) order back (whole_rounds front base) (omega arith) lawful all)
          where
            by : (open_calls (whole_rounds back (whole_round order (whole_rounds front base))).world.clients + open_calls base.world.clients
                ≤ open_calls (whole_round order (whole_rounds front base)).world.clients)
                ⊎ (open_calls (whole_rounds back (whole_round order (whole_rounds front base))).world.clients ≡ 0)
                → open_calls (whole_rounds back (whole_round order (whole_rounds front base))).world.clients ≡ 0
            by (inr zero_now) = zero_now
            by (inl fewer) =
                let one = rounds-less most head (order ∷ []) (whole_rounds front base) lawful in
                let two_now = rounds-less most head front base l in
                omega arith

    -- in two parts
    module _ (orders : List (List ℕ)) (whole : AreWhole orders base) (links : LinksKeepOrder orders base) (small : IsSmall (whole_rounds orders base))
        (host : ℕ) (c : Client) (at : slice_get (whole_rounds orders base).world.clients host ≡ Some c) where
      split-answered : (count : ℕ) (s : Parts count orders) → 2 ≤ count → recovers (whole_rounds s.front base).world.server.phase ≡ false
          → count + (4 * open_calls base.world.clients + 1) ≤ length orders → IsAnswered c
      split-answered count s two serves many =
          let both : length orders ≡ length s.front + length s.back = ap (λ (os : List (List ℕ)). length os) s.split ∙ length-append s.front s.back in
          let first = s.many in
          answered-behind s.front s.back (omega arith) serves (omega arith) (subst (λ os. AreWhole os base) s.split whole)
          (subst (λ os. LinksKeepOrder os base) s.split links) (subst (λ os. IsSmall (whole_rounds os base)) s.split small) host c
          (subst (λ os. slice_get (whole_rounds os base).world.clients host ≡ Some c) s.split at)

      pub answered-from : rounds_for most (open_calls base.world.clients) ≤ length orders → IsAnswered c
      answered-from many = by (parts (most + (skew + write_slack)) orders (omega arith))
        where
          by : Parts (most + (skew + write_slack)) orders → IsAnswered c
          by s =
              let first = s.many in
              let fits = subst (λ (q : Play). IsSmall q) (rounds-append s.front s.back base) (subst (λ os. IsSmall (whole_rounds os base)) s.split small) in
              split-answered (most + (skew + write_slack)) s (omega arith)
              (serves-from most head base l s.front (omega arith) (whole-parts s.front s.back base (subst (λ os. AreWhole os base) s.split whole)).0
              (wholes-small s.back (whole_rounds s.front base) fits)) (omega arith)

      pub served-from : recovers base.world.server.phase ≡ false → served_rounds_for (open_calls base.world.clients) ≤ length orders → IsAnswered c
      served-from serves many = by (parts 2 orders (omega arith))
        where
          by : Parts 2 orders → IsAnswered c
          by s = split-answered 2 s (omega arith) (serving-rounds s.front base serves) (omega arith)

pub whole-calls-answered : WholeCallsAnswered
unfolding calmed
whole-calls-answered most head events bounds within under_way orders all many whole links small =
    let base = calmed head events under_way in
    all-found IsAnswered (whole_rounds orders base).world.clients (λ host c at.
    answered-from most head base (record { is_run = refl; bounds = bounds; within = within }) (calmed-rising head events under_way all) orders whole links
    small host c at many)

pub served-calls-answered : ServedCallsAnswered
unfolding calmed
served-calls-answered most head events bounds within serves under_way orders all many whole links small =
    let base = calmed head events under_way in
    all-found IsAnswered (whole_rounds orders base).world.clients (λ host c at.
    served-from most head base (record { is_run = refl; bounds = bounds; within = within }) (calmed-rising head events under_way all) orders whole links
    small host c at serves many)
