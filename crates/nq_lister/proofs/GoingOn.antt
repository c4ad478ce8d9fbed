-- Each page of names goes on where the one before it ended.
use Rattle.std.proofs.Common.{◌≡◌, ◌∙◌, ◌<◌, ◌≤◌, ℕ, zero, suc, true, false, List, [], ◌∷◌, ◌++◌, take, drop, length, refl, sym, subst, ap, arith}
use Rattle.std.proofs.Common.{inl, inr}
use Rattle.std.specs.Prelude.{All, nat_lt}
use Rattle.std.proofs.lemmas.List.Elements.{All-head, All-tail}
use Rattle.std.proofs.lemmas.Bool.Decides.{nat_tests}
use Rattle.nq_directory.specs.Asking.{last_id}
use Rattle.nq_directory.specs.Messages.{most_names}
use Rattle.nq_directory.specs.declared.FileName.{FileName}
use Rattle.nq_directory.proofs.Files.{all-further, same-behind}
use Rattle.nq_directory.specs.Files.{name_of}
use Rattle.nq_lister.specs.Listing.{PagesGoOn, begins_with, is_behind, names_behind, names_beyond}
use Rattle.nq_model.proofs.Finding.{decided}
use Rattle.nq_model.specs.protocol.Change.{AreApart}
use Rattle.nq_model.specs.protocol.Kept.{File}

heads : (e f : FileName) (es fs : List FileName) → e ∷ es ≡ f ∷ fs → (e ≡ f) × (es ≡ fs)
heads e f es fs is = (let one : e ≡ f = cc in one, let rest : es ≡ fs = cc in rest)

-- the first name behind an id is of a file above each id that all files are above
first-above : (prefix : List ℕ) (after below : ℕ) (e : FileName) (rest : List FileName) (files : List File) → All (λ (x : File). below < x.id) files
    → names_behind prefix after files ≡ e ∷ rest → below < e.file
first-above prefix after below e rest [] above is = absurd (cc)
first-above prefix after below e rest (f ∷ files) above is = elim (decided (is_behind prefix after f)) [
  | inl h ↦
      let found : name_of f ∷ names_behind prefix after files ≡ e ∷ rest = rw h at is in
      let own : below < f.id = All-head (λ (x : File). below < x.id) f files above in
      subst (λ (n : FileName). below < n.file) (heads (name_of f) e (names_behind prefix after files) rest found).0 own
  | inr h ↦
      let found : names_behind prefix after files ≡ e ∷ rest = rw h at is in
      first-above prefix after below e rest files (All-tail (λ (x : File). below < x.id) f files above) found
]

-- a file at or below an id is not behind it
not-behind : (prefix : List ℕ) (after : ℕ) (f : File) (files : List File) → f.id ≤ after
    → names_behind prefix after (f ∷ files) ≡ names_behind prefix after files
not-behind prefix after f files low = let no : nat_lt after f.id ≡ false = grind (arith, nat_tests) in rw no refl

behind-above : (prefix : List ℕ) (after : ℕ) (f : File) → is_behind prefix after f ≡ true → after < f.id
behind-above prefix after f h = elim (decided (nat_lt after f.id)) [
  | inl e ↦ grind (arith, nat_tests)
  | inr e ↦ let no = rw e at h in absurd (cc)
]

-- behind the first name stand the names behind its id
rest-behind : (prefix : List ℕ) (after : ℕ) (e : FileName) (rest : List FileName) (files : List File) → AreApart files
    → names_behind prefix after files ≡ e ∷ rest → rest ≡ names_behind prefix e.file files
rest-behind prefix after e rest [] apart is = absurd (cc)
rest-behind prefix after e rest (f ∷ files) apart is = elim (decided (is_behind prefix after f)) [
  | inl h ↦
      let found : name_of f ∷ names_behind prefix after files ≡ e ∷ rest = rw h at is in
      let parts = heads (name_of f) e (names_behind prefix after files) rest found in
      let up : after < f.id = behind-above prefix after f h in
      sym parts.1
      ∙ same-behind (begins_with prefix) after f.id files (all-further after f.id files (omega arith) apart.0) apart.0
      ∙ sym (not-behind prefix f.id f files (omega arith))
      ∙ ap (λ (n : FileName). names_behind prefix n.file (f ∷ files)) parts.0
  | inr h ↦
      let found : names_behind prefix after files ≡ e ∷ rest = rw h at is in
      let up : f.id < e.file = first-above prefix after f.id e rest files apart.0 found in
      rest-behind prefix after e rest files apart.2 found ∙ sym (not-behind prefix e.file f files (omega arith))
]

-- behind so many names stand the names behind the id of the last of them
behind-front : (prefix : List ℕ) (count after : ℕ) (names : List FileName) (files : List File) → AreApart files → count ≤ length names
    → names ≡ names_behind prefix after files → drop count names ≡ names_behind prefix (last_id after (take count names)) files
behind-front prefix zero after names files apart few is = is
behind-front prefix (suc count) after [] files apart few is = absurd (omega arith)
behind-front prefix (suc count) after (e ∷ names) files apart few is =
    behind-front prefix count e.file names files apart (omega arith) (rest-behind prefix after e names files apart (sym is))

front-rest : {A : Type 0} (count : ℕ) (xs : List A) → xs ≡ take count xs ++ drop count xs
front-rest zero xs = refl
front-rest (suc count) [] = refl
front-rest (suc count) (x ∷ xs) = ap (λ l. x ∷ l) (front-rest count xs)

whole : {A : Type 0} (count : ℕ) (xs : List A) → length xs ≤ count → xs ≡ take count xs ++ []
whole zero [] less = refl
whole zero (x ∷ xs) less = absurd (omega arith)
whole (suc count) [] less = refl
whole (suc count) (x ∷ xs) less = ap (λ l. x ∷ l) (whole count xs (omega arith))

-- of a page that has at most so many names
goes-on : (most : ℕ) (prefix : List ℕ) (after : ℕ) (names : List FileName) (files : List File) → AreApart files
    → names ≡ names_behind prefix after files
    → names ≡ take most names ++ names_beyond (nat_lt most (length names)) prefix (last_id after (take most names)) files
goes-on most prefix after names files apart is = elim (decided (nat_lt most (length names))) [
  | inl h ↦
      let many : most ≤ length names = grind (arith, nat_tests) in
      rw h (front-rest most names ∙ ap (λ l. take most names ++ l) (behind-front prefix most after names files apart many is))
  | inr h ↦
      let few : length names ≤ most = grind (arith, nat_tests) in
      rw h (whole most names few)
]

pub pages_go_on : PagesGoOn
pages_go_on kept prefix after within = goes-on most_names prefix after (names_behind prefix after kept.files) kept.files within.apart refl
