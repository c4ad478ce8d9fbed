-- Whether bytes are a name's.
use Rattle.std.proofs.Common.{◌≡◌, ℕ, Bool, true, false, List, Option, Some, None, ◌↔◌, refl, sym}
use Rattle.std.specs.Prelude.{IsSome, is_some}
use Rattle.nq_base.specs.Name.{IsName, is_name}
use Rattle.nq_base.proofs.NameTests.{name_decides}

not-true : (b : Bool) → (b ≡ true → ⊥) → false ≡ b
not-true true h = absurd (h refl)
not-true false h = refl

-- a call that gives something exactly for a name tells whether it is one
pub name-test : (found : Option (List ℕ)) (bytes : List ℕ) → (IsSome found ↔ IsName bytes) → is_some found ≡ is_name bytes
name-test (Some name) bytes h = sym ((name_decides bytes).1 (h.0 refl))
name-test None bytes h = not-true (is_name bytes) (λ e. let no = h.1 ((name_decides bytes).0 e) in cc)
