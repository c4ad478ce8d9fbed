-- When two incarnations are one.
use Rattle.std.proofs.Common.{◌≡◌, ℕ, true}
use Rattle.std.proofs.lemmas.Bool.{and_parts}
use Rattle.nq_base.specs.declared.Who.{Who}
use Rattle.walk_steps.proofs.Rows.{same-number}
use Rattle.nq_model.specs.protocol.Table.{same_who}

pub who-of : (h i k j : ℕ) → h ≡ k → i ≡ j → Path Who (record { host = h; inc = i }) (record { host = k; inc = j })
who-of h i k j e f = cc

pub one-who : (a b : Who) → a.host ≡ b.host → a.inc ≡ b.inc → a ≡ b
one-who a b e f = λ i. record { host = e i; inc = f i }

pub who-same : (a b : Who) → same_who a b ≡ true → a ≡ b
who-same a b h = let e = and_parts _ _ h in one-who a b (same-number _ _ e.0) (same-number _ _ e.1)
