-- Texts behind a prefix, and texts that are cut at a byte.
use Rattle.std.proofs.Common.{◌≡◌, ◌≢◌, ℕ, ◌==◌, List, [], ◌∷◌, ◌++◌, Option, Some, None, refl, sym, eq-eqb, true, false, Bool, subst, if◌then◌else◌}
use Rattle.std.proofs.Common.{MatchOption, Bor}
use Rattle.std.specs.Option.{option_map}
use Rattle.std.proofs.lemmas.Option.{none-some, same_Some}
use Rattle.std.proofs.lemmas.Bool.{eqb-true}
use Rattle.nq_script.specs.Reading.{after}
use Rattle.nq_script.specs.Text.{Lacks}
use Rattle.nq_script.specs.WordsReading.{cut as cut_at}
use Rattle.nq_script.proofs.LineWords.{IsCut, cut_again, cut_found}

-- a text that begins with a prefix has the rest behind it
pub after-again : (prefix rest : List ℕ) → after prefix (prefix ++ rest) ≡ Some rest
after-again [] rest = refl
after-again (p ∷ prefix) rest = rw (eq-eqb p p refl) (after-again prefix rest)

-- a choice that gives something was for it
pub chosen : {A : Type 0} (test : Bool) (o : Option A) (x : A) → (if test then o else None) ≡ Some x → (test ≡ true) × (o ≡ Some x)
chosen true o x e = (refl, e)
chosen false o x e = absurd (none-some x e)

-- what stands behind a prefix is the rest of the text
pub after-found : (prefix bytes rest : List ℕ) → after prefix bytes ≡ Some rest → bytes ≡ prefix ++ rest
after-found [] bytes rest e = same_Some bytes rest e
after-found (p ∷ prefix) [] rest e = absurd (none-some rest e)
after-found (p ∷ prefix) (b ∷ bytes) rest e =
    let w = chosen (b == p) (after prefix bytes) rest e in
    let tail : bytes ≡ prefix ++ rest = after-found prefix bytes rest w.1 in
    rw (tail, eqb-true b p w.0) refl

-- where nothing stands behind a prefix, the text does not begin with it
pub after-none : (prefix bytes : List ℕ) → ((rest : List ℕ) → bytes ≢ prefix ++ rest) → after prefix bytes ≡ None
after-none prefix bytes other = by_cases (after prefix bytes) refl where
  by_cases : (o : Option (List ℕ)) → after prefix bytes ≡ o → after prefix bytes ≡ None
  by_cases None e = e
  by_cases (Some rest) e = absurd (other rest (after-found prefix bytes rest e))

-- a text is cut at the byte behind a word that lacks it
pub cut-again : (at : ℕ) (word rest : List ℕ) → Lacks at word → cut_at at (word ++ at ∷ rest) ≡ Some (word, rest)
cut-again at word rest lacks = cut_again at word rest lacks

-- a text that is cut is the word, the byte, and the rest
pub cut-found : (at : ℕ) (bytes word rest : List ℕ) → cut_at at bytes ≡ Some (word, rest) → (bytes ≡ word ++ at ∷ rest) × Lacks at word
cut-found at bytes word rest e =
    let P : Option (List ℕ × List ℕ) → Type 0 = IsCut at bytes in subst P e (cut_found at bytes)

-- what a prefix that is stripped leaves
pub after-stripped : (bytes prefix : List ℕ) (r : Option (Bor (List ℕ)))
    → MatchOption r ((rest : List ℕ) → bytes ≢ prefix ++ rest) (λ x. bytes ≡ prefix ++ x.now)
    → option_map (λ x. x.now) r ≡ after prefix bytes
after-stripped bytes prefix None other = sym (after-none prefix bytes other)
after-stripped bytes prefix (Some x) e = rw e (sym (after-again prefix x.now))
