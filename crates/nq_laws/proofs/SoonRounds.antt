-- A calm round in which fewer deliveries are enough is the same: so some schedule's rounds are computed.
use Rattle.std.proofs.Common.{◌≡◌, ℕ, ◌&&◌, Bool, true, false, zero, suc, List, [], ◌∷◌, refl, sym, ap, subst, ◌∙◌}
use Rattle.std.proofs.lemmas.Bool.{and_parts}
use Rattle.nq_model.specs.protocol.Lines.{Play, play_flow, flow_first, play_rounds}
use Rattle.nq_model.specs.protocol.World.{Head}
use Rattle.law_rounds.specs.DeliveryEnds.{enough_deliveries}
use Rattle.law_rounds.specs.CalmRound.{calm_round, calm_rounds}
use Rattle.law_rounds.specs.CalmRoundsAreLawful.{IsLawful}
use Rattle.law_rounds.proofs.CalmIsLawful.{calm-round}
use Rattle.law_rounds.proofs.CalmEnds.{IsRising, lawful-delivers, round-rising}

-- ---- a delivery that ended

stays-over : (n : ℕ) (p : Play) → p.fresh ≡ [] → play_flow n p ≡ p
stays-over zero p none = refl
stays-over (suc n) p none = ap (λ ns. play_flow n (flow_first ns p)) none ∙ stays-over n p none

same-end : (n m : ℕ) (p : Play) → (play_flow n p).fresh ≡ [] → (play_flow m p).fresh ≡ [] → play_flow n p ≡ play_flow m p
same-end zero m p a b = sym (stays-over m p a)
same-end (suc n) zero p a b = stays-over (suc n) p b
same-end (suc n) (suc m) p a b = same-end n m (flow_first p.fresh p) a b

-- ---- rounds of few deliveries

abbrev pub soon : ℕ
soon = 100

abbrev pub soon_round : Play → Play
soon_round p = play_rounds 1 (play_flow soon p)

abbrev pub soon_rounds : (count : ℕ) → Play → Play
soon_rounds zero p = p
soon_rounds (suc count) p = soon_rounds count (soon_round p)

abbrev pub is_over : List ℕ → Bool
is_over [] = true
is_over (k ∷ fresh) = false

-- whether each of the deliveries ended
abbrev pub soon_ends : (count : ℕ) → Play → Bool
soon_ends zero p = true
soon_ends (suc count) p = is_over (play_flow soon p).fresh && soon_ends count (soon_round p)

pub over : (fresh : List ℕ) → is_over fresh ≡ true → fresh ≡ []
over [] e = refl
over (k ∷ fresh) e = absurd (cc)

module _ (most : ℕ) (head : Head) where
  one-soon : (p : Play) → IsLawful most head p → IsRising p → is_over (play_flow soon p).fresh ≡ true → calm_round p ≡ soon_round p
  unfolding calm_round
  one-soon p l r e = ap (play_rounds 1) (same-end (enough_deliveries p) soon p (lawful-delivers most head p l r) (over (play_flow soon p).fresh e))

  pub all-soon : (count : ℕ) (p : Play) → IsLawful most head p → IsRising p → soon_ends count p ≡ true → calm_rounds count p ≡ soon_rounds count p
  all-soon zero p l r e = refl
  all-soon (suc count) p l r e =
      let parts = and_parts (is_over (play_flow soon p).fresh) (soon_ends count (soon_round p)) e in
      let same = one-soon p l r parts.0 in
      ap (calm_rounds count) same ∙ all-soon count (soon_round p) (subst (IsLawful most head) same (calm-round most head p l))
      (subst IsRising same (round-rising p r)) parts.1
