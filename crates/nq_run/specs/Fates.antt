-- The fates that `run` is lent. Below, `old` is what they told before it and `new` is what they tell after it, in their order.
use Rattle.std.specs.Prelude.{◌≡◌, ◌⊎◌, ℕ, List, ◌∷◌, ◌++◌, Option, All, IfSome}
use Rattle.nq_base.specs.declared.ending.ending.Ending.{Ending}
use Rattle.nq_storm.specs.Asking.{AsksFor}
use Rattle.nq_storm.specs.Kinds.{IsNotOf}
use Rattle.nq_storm.specs.Rules.{Rule}

-- a fate: its rule, if it tells it, and how often it was asked
pub record FateTold : Type 0 where
  pub rule : Option Rule
  pub asks : ℕ

-- a fate that tells this
abbrev pub fate_told : Option Rule → (asks : ℕ) → FateTold
fate_told rule asks = record { rule = rule; asks = asks }

-- the first fate of this kind was asked once for each event of a storm that ended so, and each other fate is as it was
pub record AsksFirst (end : Ending) (kind wanted : ℕ) (old new : List FateTold) : Type 0 where
  pub before : List FateTold
  pub fate : FateTold
  pub after : FateTold
  pub behind : List FateTold
  pub was : old ≡ before ++ fate ∷ behind
  pub is : new ≡ before ++ after ∷ behind
  pub others : All (λ f. IsNotOf f.rule kind) before
  pub of_kind : IfSome fate.rule (λ rule. rule.kind ≡ kind)
  pub asked : AsksFor end wanted fate.asks after.asks

-- a storm asked the first fate of its kind, or there is none, and no fate was asked
abbrev pub AsksInStorm : Ending → (kind wanted : ℕ) → (old new : List FateTold) → Type 0
AsksInStorm end kind wanted old new = AsksFirst end kind wanted old new ⊎ ((end ≡ Ending.Usage) × (new ≡ old))
