-- Calm rounds are whole rounds: of all orders, that in which the packets were sent.
use Rattle.std.proofs.Common.{◌≡◌, ℕ, zero, suc, List, [], ◌∷◌, length, refl, subst, ap, ◌∙◌, arith}
use Rattle.nq_model.specs.protocol.Lines.{Play, play_flow, flow_first, play_rounds}
use Rattle.nq_model.specs.protocol.World.{Head}
use Rattle.law_rounds.specs.DeliveryEnds.{calmed, enough_deliveries}
use Rattle.law_rounds.specs.CalmRound.{calm_round, calm_rounds}
use Rattle.law_rounds.specs.CalmRoundsAreLawful.{IsLawful}
use Rattle.law_rounds.proofs.CalmEnds.{IsRising, calmed-rising, round-rising, lawful-delivers}
use Rattle.law_rounds.proofs.CalmIsLawful.{calm-round}
use Rattle.law_rounds.specs.WholeRounds.{play_order, IsInOrder, whole_round, whole_rounds, AreWhole, LinksKeepOrder, WholeRoundsCanBeMade}
use Rattle.law_rounds.proofs.Next.{first-next}

-- the numbers that a flow delivers
abbrev with_first : List ℕ → List ℕ → List ℕ
with_first [] order = order
with_first (k ∷ fresh) order = k ∷ order

flow_order : (fuel : ℕ) → Play → List ℕ
flow_order zero p = []
flow_order (suc fuel) p = with_first p.fresh (flow_order fuel (flow_first p.fresh p))

flow-is : (fuel : ℕ) (p : Play) → play_flow fuel p ≡ play_order (flow_order fuel p) p
unfolding flow_order
flow-is zero p = refl
flow-is (suc fuel) p = by p.fresh (flow-is fuel (flow_first p.fresh p))
  where
    by : (ks : List ℕ) → play_flow fuel (flow_first ks p) ≡ play_order (flow_order fuel (flow_first ks p)) (flow_first ks p)
        → play_flow fuel (flow_first ks p) ≡ play_order (with_first ks (flow_order fuel (flow_first ks p))) p
    by [] e = e
    by (k ∷ ks) e = e

flow-in-order : (fuel : ℕ) (p : Play) → IsInOrder (flow_order fuel p) p
unfolding flow_order
flow-in-order zero p = tt
flow-in-order (suc fuel) p = by p.fresh refl (flow-in-order fuel (flow_first p.fresh p))
  where
    by : (ks : List ℕ) → p.fresh ≡ ks → IsInOrder (flow_order fuel (flow_first ks p)) (flow_first ks p)
        → IsInOrder (with_first ks (flow_order fuel (flow_first ks p))) p
    by [] e rest = rest
    by (k ∷ ks) e rest = (first-next p k ks e, rest)

-- the order of a calm delivery
pub calm_order : Play → List ℕ
calm_order p = flow_order (enough_deliveries p) p

pub delivered-is : (p : Play) → play_flow (enough_deliveries p) p ≡ play_order (calm_order p) p
unfolding calm_order
delivered-is p = flow-is (enough_deliveries p) p

calm-is : (p : Play) → calm_round p ≡ whole_round (calm_order p) p
unfolding calm_round whole_round
calm-is p = ap (λ (q : Play). play_rounds 1 q) (delivered-is p)

pub calm-in-order : (p : Play) → IsInOrder (calm_order p) p
unfolding calm_order
calm-in-order p = flow-in-order (enough_deliveries p) p

-- the orders of calm rounds
pub calm_orders : (count : ℕ) → Play → List (List ℕ)
calm_orders zero p = []
calm_orders (suc count) p = calm_order p ∷ calm_orders count (calm_round p)

pub calms-are : (count : ℕ) (p : Play) → calm_rounds count p ≡ whole_rounds (calm_orders count p) p
unfolding calm_orders
calms-are zero p = refl
calms-are (suc count) p = calms-are count (calm_round p) ∙ ap (λ (q : Play). whole_rounds (calm_orders count (calm_round p)) q) (calm-is p)

pub calm-count : (count : ℕ) (p : Play) → length (calm_orders count p) ≡ count
unfolding calm_orders
calm-count zero p = refl
calm-count (suc count) p = let rest = calm-count count (calm_round p) in omega arith

pub calms-keep-links : (count : ℕ) (p : Play) → LinksKeepOrder (calm_orders count p) p
unfolding calm_orders
calms-keep-links zero p = tt
calms-keep-links (suc count) p = (
  calm-in-order p,
  subst (λ (q : Play). LinksKeepOrder (calm_orders count (calm_round p)) q) (calm-is p)
      (calms-keep-links count (calm_round p)),
)

module _ (most : ℕ) (head : Head) where
  pub calm-arrives : (p : Play) → IsLawful most head p → IsRising p → (play_order (calm_order p) p).fresh ≡ []
  calm-arrives p l rising = subst (λ (q : Play). q.fresh ≡ []) (delivered-is p) (lawful-delivers most head p l rising)

  pub calms-are-whole : (count : ℕ) (p : Play) → IsLawful most head p → IsRising p → AreWhole (calm_orders count p) p
  unfolding calm_orders
  calms-are-whole zero p l rising = tt
  calms-are-whole (suc count) p l rising = (
    calm-arrives p l rising,
    subst (λ (q : Play). AreWhole (calm_orders count (calm_round p)) q) (calm-is p) (calms-are-whole count (calm_round p) (calm-round most head p l)
        (round-rising p rising)),
  )

pub whole-rounds-can-be-made : WholeRoundsCanBeMade
unfolding calmed
whole-rounds-can-be-made most head events bounds within under_way count all =
    let base = calmed head events under_way in
    let l : IsLawful most head base = record { is_run = refl; bounds = bounds; within = within } in
    record {
      orders = calm_orders count base;
      many = calm-count count base;
      whole = calms-are-whole most head count base l (calmed-rising head events under_way all);
      links = calms-keep-links count base;
    }
