-- Whether a word is a name.
use Rattle.std.proofs.Common.{◌≡◌, ℕ, List, Option, Some, None, refl, ap, sym, ◌∙◌, subst, inl, inr}
use Rattle.std.specs.Option.{IsSome, IfSome}
use Rattle.nq_base.specs.Name.{IsName, is_name}
use Rattle.nq_base.proofs.NameTests.{name_decides}
use Rattle.nq_script.proofs.Options.{chosen}
use Rattle.nq_script.specs.WordsReading.{name_of}

-- an answer that tells whether a word is a name
pub found : (word : List ℕ) (r : Option (List ℕ)) → (IsSome r → IsName word) × (IsName word → IsSome r) → IfSome r (λ n. n ≡ word) → r ≡ name_of word
unfolding name_of
found word None tells same = elim (chosen (is_name word) word) [
  | inl is ↦ let some = tells.1 ((name_decides word).0 is.0) in cc
  | inr isnt ↦ sym isnt.1
]
found word (Some name) tells same = elim (chosen (is_name word) word) [
  | inl is ↦ ap Some same ∙ sym is.1
  | inr isnt ↦ let yes = (name_decides word).1 (tells.0 refl) in cc
]

-- a name is read
pub name_again : (word : List ℕ) → IsName word → name_of word ≡ Some word
unfolding name_of
name_again word fits = let test = (name_decides word).1 fits in rw test refl

-- what is read is a name
pub name_found : (word name : List ℕ) → name_of word ≡ Some name → (word ≡ name) × IsName name
unfolding name_of
name_found word name read = elim (chosen (is_name word) word) [
  | inl is ↦ let same : word ≡ name = cc in (same, let P : List ℕ → Type 0 = IsName in subst P same ((name_decides word).0 is.0))
  | inr isnt ↦ cc
]
