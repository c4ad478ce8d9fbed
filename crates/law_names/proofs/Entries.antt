-- The files of a directory with their names, as all that is said of the directory rests on them.
use Rattle.std.proofs.Common.{◌≡◌, ◌<◌, ℕ, ◌==◌, Bool, true, false, nat_lt, List, [], ◌∷◌, ◌++◌, Option, Some, None, if◌then◌else◌, take, refl, sym}
use Rattle.std.proofs.Common.{ap, ◌∙◌, arith, inl, inr}
use Rattle.std.specs.Prelude.{All}
use Rattle.std.specs.List.{filter}
use Rattle.std.proofs.lemmas.Bool.Decides.{nat_tests}
use Rattle.std.proofs.lemmas.List.Elements.{All-head, All-tail}
use Rattle.nq_directory.specs.declared.FileName.{FileName}
use Rattle.nq_directory.specs.Names.{named}
use Rattle.nq_directory.specs.Prefix.{directory}
use Rattle.nq_directory.proofs.Called.{same-name, same-self}
use Rattle.nq_model.proofs.Finding.{decided, same-number}
use Rattle.nq_model.specs.protocol.Change.{AreApart}
use Rattle.nq_model.specs.protocol.Kept.{File, find_file, find_name, replace_file, drop_file}
use Rattle.nq_model.specs.protocol.Profile.{same_bytes}
use Rattle.nq_name_server.specs.Served.{name_of, names_of, names_behind}
use Rattle.nq_name_server.specs.Lasting.{id_of}
use Rattle.law_names.proofs.Pages.{upto, cut, IsUpTo, IsWhole, IsPage}

-- the files of a directory with their names
abbrev pub entries_of : (prefix : List ℕ) → List FileName → List FileName
entries_of prefix names = filter (λ e. same_bytes (directory e.name) prefix) names

abbrev pub entries_in : (prefix : List ℕ) → List File → List FileName
entries_in prefix files = entries_of prefix (names_of files)

-- ---- what rests on them

behind-entries : (prefix : List ℕ) (after : ℕ) (files : List File) → names_behind prefix after files ≡ filter (λ e. nat_lt after e.file)
    (entries_in prefix files)
behind-entries prefix after [] = refl
behind-entries prefix after (f ∷ files) = elim (decided (nat_lt after f.id)) [
  | inl h ↦ elim (decided (same_bytes (directory f.name) prefix)) [
    | inl i ↦ rw (h, i, h) (ap (λ l. name_of f ∷ l) (behind-entries prefix after files))
    | inr i ↦ rw (h, i) (behind-entries prefix after files)
  ]
  | inr h ↦ elim (decided (same_bytes (directory f.name) prefix)) [
    | inl i ↦ rw (h, i, h) (behind-entries prefix after files)
    | inr i ↦ rw (h, i) (behind-entries prefix after files)
  ]
]

in-own : (prefix name other : List ℕ) → directory name ≡ prefix → same_bytes other name ≡ true → same_bytes (directory other) prefix ≡ true
in-own prefix name other of h = ap (λ n. same_bytes (directory n) prefix) (same-name other name h) ∙ ap (λ p. same_bytes p prefix) of ∙ same-self prefix

named-entries : (prefix name : List ℕ) (files : List File) → directory name ≡ prefix → id_of (find_name name files) ≡ named name (entries_in prefix files)
named-entries prefix name [] of = refl
named-entries prefix name (f ∷ files) of = elim (decided (same_bytes f.name name)) [
  | inl h ↦ let i = in-own prefix name f.name of h in rw (h, i, h) refl
  | inr h ↦ elim (decided (same_bytes (directory f.name) prefix)) [
    | inl i ↦ rw (h, i, h) (named-entries prefix name files of)
    | inr i ↦ rw (h, i) (named-entries prefix name files of)
  ]
]

upto-cut : (after : ℕ) (o : Option File) → upto after o ≡ cut after (id_of o)
upto-cut after None = refl
upto-cut after (Some f) = refl

module _ (prefix : List ℕ) (files after : List File) (same : entries_in prefix files ≡ entries_in prefix after) where
  pub ids-same : (name : List ℕ) → directory name ≡ prefix → id_of (find_name name files) ≡ id_of (find_name name after)
  ids-same name of = named-entries prefix name files of ∙ ap (named name) same ∙ sym (named-entries prefix name after of)

  pub behind-same : (id : ℕ) → names_behind prefix id files ≡ names_behind prefix id after
  behind-same id = behind-entries prefix id files ∙ ap (filter (λ e. nat_lt id e.file)) same ∙ sym (behind-entries prefix id after)

  pub whole-same : (names : List FileName) → IsWhole prefix names files → IsWhole prefix names after
  whole-same names h name of = h name of ∙ ids-same name of

  pub upto-same : (id : ℕ) (names : List FileName) → IsUpTo prefix id names files → IsUpTo prefix id names after
  upto-same id names h name of =
      h name of ∙ upto-cut id (find_name name files) ∙ ap (cut id) (ids-same name of) ∙ sym (upto-cut id (find_name name after))

  pub page-same : (most id : ℕ) (page : List FileName) → IsPage most prefix id page files → IsPage most prefix id page after
  page-same most id page h = h ∙ ap (take most) (behind-same id)

-- ---- changes of files

-- each file of this id has this name
abbrev pub AllNamed : (id : ℕ) → (name : List ℕ) → List File → Type 0
AllNamed id name [] = Unit {0}
AllNamed id name (f ∷ files) = ((f.id == id) ≡ true → f.name ≡ name) × AllNamed id name files

not-found : {A : Type 0} (b : Bool) (x : A) (rest : Option A) → (if b then Some x else rest) ≡ None → (b ≡ false) × (rest ≡ None)
not-found true x rest h = absurd (cc)
not-found false x rest h = (refl, h)

apart-later : (id : ℕ) (name : List ℕ) (files : List File) → find_file id files ≡ None → AllNamed id name files
apart-later id name [] none = tt
apart-later id name (f ∷ files) none =
    let p = not-found (f.id == id) f (find_file id files) none in
    let no : (f.id == id) ≡ false = p.0 in
    (λ yes. absurd (cc), apart-later id name files p.1)

-- files with one name more change nothing of another directory
names-append : (a b : List File) → names_of (a ++ b) ≡ names_of a ++ names_of b
names-append [] b = refl
names-append (f ∷ a) b = ap (λ l. name_of f ∷ l) (names-append a b)

entries-append : (prefix : List ℕ) (a b : List FileName) → entries_of prefix (a ++ b) ≡ entries_of prefix a ++ entries_of prefix b
entries-append prefix [] b = refl
entries-append prefix (e ∷ a) b = elim (decided (same_bytes (directory e.name) prefix)) [
  | inl h ↦ rw h (ap (λ l. e ∷ l) (entries-append prefix a b))
  | inr h ↦ rw h (entries-append prefix a b)
]

append-none : {A : Type 0} (xs : List A) → xs ++ [] ≡ xs
append-none [] = refl
append-none (x ∷ xs) = ap (λ l. x ∷ l) (append-none xs)

pub entries-added : (prefix : List ℕ) (files : List File) (f : File) → same_bytes (directory f.name) prefix ≡ false
    → entries_in prefix (files ++ f ∷ []) ≡ entries_in prefix files
entries-added prefix files f other =
    ap (entries_of prefix) (names-append files (f ∷ []))
    ∙ entries-append prefix (names_of files) (name_of f ∷ [])
    ∙ ap (λ l. entries_of prefix (names_of files) ++ l) none
    ∙ append-none (entries_of prefix (names_of files))
  where
    none : entries_of prefix (name_of f ∷ []) ≡ []
    none = rw other refl

pub entries-dropped : (prefix : List ℕ) (id : ℕ) (name : List ℕ) (files : List File) → AllNamed id name files → same_bytes (directory name) prefix ≡ false
    → entries_in prefix (drop_file id files) ≡ entries_in prefix files
entries-dropped prefix id name [] each other = refl
entries-dropped prefix id name (f ∷ files) each other = elim (decided (f.id == id)) [
  | inl h ↦
      let no : same_bytes (directory f.name) prefix ≡ false = ap (λ n. same_bytes (directory n) prefix) (each.0 h) ∙ other in
      rw (h, no) (entries-dropped prefix id name files each.1 other)
  | inr h ↦ elim (decided (same_bytes (directory f.name) prefix)) [
    | inl i ↦ rw (h, i) (ap (λ l. name_of f ∷ l) (entries-dropped prefix id name files each.1 other))
    | inr i ↦ rw (h, i) (entries-dropped prefix id name files each.1 other)
  ]
]

pub names-replaced : (file : File) (files : List File) → AllNamed file.id file.name files → names_of (replace_file file files) ≡ names_of files
names-replaced file [] each = refl
names-replaced file (f ∷ files) each = elim (decided (f.id == file.id)) [
  | inl h ↦
      let id : file.id ≡ f.id = sym (same-number f.id file.id h) in
      let name : file.name ≡ f.name = sym (each.0 h) in
      let one : name_of file ≡ name_of f = cc in
      rw h (ap (λ e. e ∷ names_of (replace_file file files)) one ∙ ap (λ l. name_of f ∷ l) (names-replaced file files each.1))
  | inr h ↦ rw h (ap (λ l. name_of f ∷ l) (names-replaced file files each.1))
]

found-first : {A : Type 0} (b : Bool) (x y : A) (rest : Option A) → b ≡ true → (if b then Some x else rest) ≡ Some y → x ≡ y
found-first true x y rest e h = cc
found-first false x y rest e h = absurd (cc)

found-later : {A : Type 0} (b : Bool) (x y : A) (rest : Option A) → b ≡ false → (if b then Some x else rest) ≡ Some y → rest ≡ Some y
found-later true x y rest e h = absurd (cc)
found-later false x y rest e h = h

none-after : (id own : ℕ) (fs : List File) → All (λ later. own < later.id) fs → (own == id) ≡ true → find_file id fs ≡ None
none-after id own [] above same = refl
none-after id own (x ∷ fs) above same =
    let a : own < x.id = All-head (λ later. own < later.id) x fs above in
    let no : (x.id == id) ≡ false = grind (arith, nat_tests) in
    rw no (none-after id own fs (All-tail (λ later. own < later.id) x fs above) same)

pub all-named : (id : ℕ) (f : File) (files : List File) → AreApart files → find_file id files ≡ Some f → AllNamed id f.name files
all-named id f [] apart found = tt
all-named id f (g ∷ files) apart found = elim (decided (g.id == id)) [
  | inl h ↦
      let one : g ≡ f = found-first (g.id == id) g f (find_file id files) h found in
      (λ yes. ap (λ x. x.name) one, apart-later id f.name files (none-after id g.id files apart.0 h))
  | inr h ↦ (λ yes. absurd (cc), all-named id f files apart.2 (found-later (g.id == id) g f (find_file id files) h found))
]
