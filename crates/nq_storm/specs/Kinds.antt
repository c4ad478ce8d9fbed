-- The kinds of fates. Below, `told` are what fates tell of their rules, in their order.
use Rattle.std.specs.Prelude.{◌≡◌, ◌≢◌, ℕ, List, ◌∷◌, ◌++◌, Option, All, IfSome, IsSomeAnd}
use Rattle.nq_storm.specs.Rules.{Rule}

-- a fate that tells its rule is of another kind
abbrev pub IsNotOf : (told : Option Rule) → (kind : ℕ) → Type 0
IsNotOf told kind = IfSome told (λ rule. rule.kind ≢ kind)

-- each fate that tells its rule is of another kind
abbrev pub LackKind : (kind : ℕ) → (told : List (Option Rule)) → Type 0
LackKind kind told = All (λ tells. IsNotOf tells kind) told

-- each fate tells its rule, and is of another kind
abbrev pub TellOthers : (kind : ℕ) → (told : List (Option Rule)) → Type 0
TellOthers kind told = All (λ tells. IsSomeAnd tells (λ rule. rule.kind ≢ kind)) told

-- this is told by one of the fates, which is of the kind if it tells its rule; each before it that tells its rule is of another kind
pub record IsFirstOf (kind : ℕ) (told : List (Option Rule)) (found : Option Rule) : Type 0 where
  pub before : List (Option Rule)
  pub behind : List (Option Rule)
  pub stands : told ≡ before ++ found ∷ behind
  pub others : LackKind kind before
  pub kind_is : IfSome found (λ rule. rule.kind ≡ kind)
