-- What comes of bytes that are a name, and of bytes that are none.
use Rattle.std.proofs.Common.{◌≡◌, ℕ, Bool, true, false, List, Ok, Err, refl}
use Rattle.nq_base.specs.Name.{IsName, is_name}
use Rattle.nq_base.proofs.NameTests.{name_decides}
use Rattle.nq_wire.specs.Garbage.{garbage}
use Rattle.nq_wire.specs.Reading.{name_of}

not_true : (b : Bool) → (b ≡ true → ⊥) → b ≡ false
not_true true h = absurd (h refl)
not_true false h = refl

pub name_of-name : (bytes : List ℕ) → IsName bytes → name_of bytes ≡ Ok bytes
unfolding name_of
name_of-name bytes is = rw ((name_decides bytes).1 is) refl

pub name_of-none : (bytes : List ℕ) → (IsName bytes → ⊥) → name_of bytes ≡ Err garbage
unfolding name_of
name_of-none bytes isnt = rw (not_true (is_name bytes) (λ e. isnt ((name_decides bytes).0 e))) refl

pub ruleset named = (name_of-name, name_of-none)
