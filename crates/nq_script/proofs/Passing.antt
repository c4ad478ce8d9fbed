-- Faults that are passed on.
use Rattle.std.proofs.Common.{◌≡◌, ℕ, Result, Err, sym, subst}
use Rattle.nq_script.specs.Faults.{Answers, Names}
use Rattle.nq_script.specs.declared.faults.ScriptFault.{ScriptFault}
use Rattle.nq_script.specs.declared.faults.ScriptFault.TheVariants.{Bad, Memory}

-- a fault that names a line as is said names it as follows from that
pub names : (fault : ScriptFault) (P Q : ℕ → Type 0) → Names fault P → ((line : ℕ) → P line → Q line) → Names fault Q
names (Bad line) P Q said more = more line said
names Memory P Q said more = tt

-- a fault of one call that another passes on
pub passed : {B : Type 0} (r : Result B ScriptFault) (fault : ScriptFault) (value : B → Type 0) (P Q : ℕ → Type 0)
    → (y : ScriptFault) × (r ≡ Err y) × (y ≡ fault) → Names fault P → ((line : ℕ) → P line → Q line) → Answers r value Q
passed r fault value P Q same said more =
    subst (λ x. Answers x value Q) (sym same.1) (subst (λ y. Names y Q) (sym same.2) (names fault P Q said more))
