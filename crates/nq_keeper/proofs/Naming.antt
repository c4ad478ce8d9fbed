-- Each name keeps the id of its file through each change of the files.
use Rattle.std.proofs.Common.{◌≡◌, ℕ, ◌<◌, ◌==◌, Bool, true, false, not, List, [], ◌∷◌, ◌++◌, Option, Some, None, Vec, Global, if◌then◌else◌, length}
use Rattle.std.proofs.Common.{suc, refl, sym, subst, ap, ◌∙◌, inl, inr, arith}
use Rattle.std.specs.Prelude.{nat_eq, slice_get}
use Rattle.std.specs.List.{All}
use Rattle.std.specs.Cmp.Lexicographic.{pointwise, bytes_decides, nat_list_eq_equiv}
use Rattle.std.specs.HashMap.{HashMap, UpdatesBy}
use Rattle.std.specs.Map.{lookup, IsKeyTest, KeepsOthers}
use Rattle.std.specs.Map as map
use Rattle.nq_base.specs.declared.BlockChange.{BlockChange}
use Rattle.nq_base.specs.declared.FileRow.{FileRow}
use Rattle.nq_keeper.specs.InOrder.{IsRowAmong}
use Rattle.nq_keeper.specs.Named.{AreNamed, StandsAt, id_found, id_of}
use Rattle.nq_keeper.proofs.Called.{same-self, other-name}
use Rattle.nq_keeper.proofs.Edits.{some-at}
use Rattle.nq_keeper.proofs.MadeFiles.{made-id, made-name}
use Rattle.nq_model.specs.protocol.Change.{AreApart, HasBlock, file_of, with_block, with_block_in, with_body, with_file, with_file_at}
use Rattle.nq_model.specs.protocol.Kept.{File, find_file, find_name, drop_file, replace_file}
use Rattle.nq_model.specs.protocol.Profile.{same_bytes}
use Rattle.nq_model.proofs.Files.{found-id}
use Rattle.nq_model.proofs.FreshFits.{found-has}
use Rattle.nq_model.proofs.WithinBounds.{named-as-found}
use Rattle.nq_model.proofs.Finding.{decided, same-number, number-same, number-other}

-- ---- a look-up after a change of the map

module _ {X : Type 0} (eq : Vec ℕ Global → Vec ℕ Global → Bool) (test : Vec ℕ Global → Bool) where
  others : (old new : List (Vec ℕ Global × X)) → KeepsOthers eq test old new → (other : Vec ℕ Global → Bool) → IsKeyTest eq other
      → map.AreApart test other → lookup other new ≡ lookup other old
  unfolding KeepsOthers
  others old new h = h

apart-tests : (name other key : List ℕ) → pointwise nat_eq name other ≡ false → pointwise nat_eq name key ≡ true → pointwise nat_eq other key ≡ false
apart-tests name other key n y = nat_list_eq_equiv.symm other key ∙ sym (nat_list_eq_equiv.congr name key other y) ∙ n

-- what a change at a name leaves at each name
pub stands-at : {S : Type 0} (name : List ℕ) (m n : HashMap (Vec ℕ Global) ℕ S) (id : Option ℕ) → UpdatesBy (λ x y. pointwise nat_eq x.items y.items)
    (λ key. pointwise nat_eq name key.items) m n id → StandsAt name id m.entries n.entries
stands-at name m n id h other = elim (decided (pointwise nat_eq name other)) [
  | inl y ↦
      let same : name ≡ other = (bytes_decides name other).0 y in
      rw y (subst (λ l. id_of l n.entries ≡ id) same h.1)
  | inr e ↦
      rw e (others (λ x y. pointwise nat_eq x.items y.items) (λ key. pointwise nat_eq name key.items) m.entries n.entries h.3
      (λ key. pointwise nat_eq other key.items) (λ x y. nat_list_eq_equiv.congr other x.items y.items) (λ key. apart-tests name other key.items e))
]

-- ---- the files

name-is : (a b : List ℕ) → pointwise nat_eq a b ≡ true → a ≡ b
name-is a b y = (bytes_decides a b).0 y

name-differs : (a b : List ℕ) → pointwise nat_eq a b ≡ false → same_bytes a b ≡ false
name-differs a b n = other-name a b (λ same. let y : pointwise nat_eq a b ≡ true = (bytes_decides a b).1 same in cc)

-- a new file at the end
find-added : (name : List ℕ) (x : File) (files : List File) → same_bytes x.name name ≡ false → find_name name (files ++ x ∷ []) ≡ find_name name files
find-added name x [] other = rw other refl
find-added name x (f ∷ files) other = ap (λ o. if same_bytes f.name name then Some f else o) (find-added name x files other)

find-last : (name : List ℕ) (x : File) (files : List File) → x.name ≡ name → find_name name files ≡ None → find_name name (files ++ x ∷ []) ≡ Some x
find-last name x [] own none = ap (λ b. if b then Some x else None) (ap (λ n. same_bytes n name) own ∙ same-self name)
find-last name x (f ∷ files) own none = by (same_bytes f.name name) none (find-last name x files own)
  where
    by : (b : Bool) → (if b then Some f else find_name name files) ≡ None → (find_name name files ≡ None → find_name name (files ++ x ∷ []) ≡ Some x)
        → (if b then Some f else find_name name (files ++ x ∷ [])) ≡ Some x
    by true h rest = cc
    by false h rest = rest h

pub named-added : (old new : List (Vec ℕ Global × ℕ)) (x : File) (files : List File) → AreNamed old files → find_name x.name files ≡ None
    → StandsAt x.name (Some x.id) old new → AreNamed new (files ++ x ∷ [])
named-added old new x files named none stands name = elim (decided (pointwise nat_eq x.name name)) [
  | inl y ↦
      let own : x.name ≡ name = name-is x.name name y in
      stands name ∙ ap (λ b. if b then Some x.id else id_of name old) y
      ∙ sym (ap id_found (find-last name x files own (subst (λ n. find_name n files ≡ None) own none)))
  | inr e ↦ stands name ∙ ap (λ b. if b then Some x.id else id_of name old) e ∙ named name
      ∙ sym (ap id_found (find-added name x files (name-differs x.name name e)))
]

-- a file in place of one of its id and name
pub named-replaced : (names : List (Vec ℕ Global × ℕ)) (x : File) (files : List File) → AreNamed names files
    → All (λ g. g.id ≡ x.id → g.name ≡ x.name) files → AreNamed names (replace_file x files)
named-replaced names x files named same name = named name ∙ sym (replaced files same)
  where
    head : (g : File) (b c : Bool) (rest after : Option File) → (g.id == x.id) ≡ b → (g.id ≡ x.id → g.name ≡ x.name) → same_bytes g.name name ≡ c
        → id_found after ≡ id_found rest → id_found (if same_bytes (if b then x else g).name name then Some (if b then x else g) else after)
        ≡ id_found (if c then Some g else rest)
    head g true true rest after e own f others =
        let is : g.id ≡ x.id = same-number g.id x.id e in
        ap (λ t. id_found (if t then Some x else after)) (ap (λ n. same_bytes n name) (sym (own is)) ∙ f) ∙ ap (λ i. Some i) (sym is)
    head g true false rest after e own f others =
        let is : g.id ≡ x.id = same-number g.id x.id e in
        ap (λ t. id_found (if t then Some x else after)) (ap (λ n. same_bytes n name) (sym (own is)) ∙ f) ∙ others
    head g false true rest after e own f others = ap (λ t. id_found (if t then Some g else after)) f
    head g false false rest after e own f others = ap (λ t. id_found (if t then Some g else after)) f ∙ others

    replaced : (gs : List File) → All (λ g. g.id ≡ x.id → g.name ≡ x.name) gs → id_found (find_name name (replace_file x gs)) ≡ id_found (find_name name gs)
    replaced [] each = refl
    replaced (g ∷ gs) each = head g (g.id == x.id) (same_bytes g.name name) (find_name name gs) (find_name name (replace_file x gs)) refl
        (each 0 g (omega arith)) refl (replaced gs (λ k d i. each (suc k) d (omega arith)))

-- ---- a file is taken away

all-stay : (id : ℕ) (files : List File) → All (λ f. id < f.id) files → drop_file id files ≡ files
all-stay id [] above = refl
all-stay id (f ∷ files) above =
    let own : id < f.id = above 0 f (omega arith) in
    let other : (f.id == id) ≡ false = number-other f.id id (λ i. absurd (omega arith)) in
    rw other (ap (λ l. f ∷ l) (all-stay id files (λ k d lt. above (suc k) d (omega arith))))

module _ (id : ℕ) (f : File) (name : List ℕ) where
  -- another name finds what it found
  others-found : (files : List File) → AreApart files → find_file id files ≡ Some f → same_bytes f.name name ≡ false
      → find_name name (drop_file id files) ≡ find_name name files
  others-found [] apart found other = refl
  others-found (g ∷ files) apart found other = by (g.id == id) refl found (others-found files apart.2)
    where
      by : (b : Bool) → (g.id == id) ≡ b → (if b then Some g else find_file id files) ≡ Some f → (find_file id files ≡ Some f → same_bytes f.name name
          ≡ false → find_name name (drop_file id files) ≡ find_name name files) → find_name name (if not b then g ∷ drop_file id files
          else drop_file id files) ≡ (if same_bytes g.name name then Some g else find_name name files)
      by true e h rest =
          let is : g ≡ f = cc in
          let own : g.id ≡ id = same-number g.id id e in
          ap (find_name name) (all-stay id files (subst (λ i. All (λ x. i < x.id) files) own apart.0))
          ∙ sym (ap (λ t. if t then Some g else find_name name files) (ap (λ x. same_bytes x.name name) is ∙ other))
      by false e h rest = ap (λ o. if same_bytes g.name name then Some g else o) (rest h other)

  -- the name of the file finds nothing
  own-gone : (files : List File) → AreApart files → find_file id files ≡ Some f → f.name ≡ name → find_name name (drop_file id files) ≡ None
  own-gone [] apart found own = refl
  own-gone (g ∷ files) apart found own = by (g.id == id) refl found (own-gone files apart.2)
    where
      none-there : (gs : List File) → find_file id gs ≡ Some f → find_name g.name gs ≡ None → same_bytes g.name name ≡ false
      none-there [] h none = cc
      none-there (k ∷ gs) h none = at (k.id == id) h (none-there gs) none
        where
          at : (b : Bool) → (if b then Some k else find_file id gs) ≡ Some f → (find_file id gs ≡ Some f → find_name g.name gs ≡ None
              → same_bytes g.name name ≡ false) → (if same_bytes k.name g.name then Some k else find_name g.name gs) ≡ None → same_bytes g.name name ≡ false
          at true h rest none =
              let is : k ≡ f = cc in
              other-name g.name name (λ same. let yes : same_bytes k.name g.name ≡ true = ap (λ x. same_bytes x.name g.name) is
              ∙ ap (λ n. same_bytes n g.name) (own ∙ sym same) ∙ same-self g.name in let bad : Some k ≡ None =
              sym (ap (λ t. if t then Some k else find_name g.name gs) yes) ∙ none in absurd (cc))
          at false h rest none = rest h (past (same_bytes k.name g.name) none)
            where
              past : (t : Bool) → (if t then Some k else find_name g.name gs) ≡ None → find_name g.name gs ≡ None
              past true h = cc
              past false h = h

      by : (b : Bool) → (g.id == id) ≡ b → (if b then Some g else find_file id files) ≡ Some f → (find_file id files ≡ Some f → f.name ≡ name
          → find_name name (drop_file id files) ≡ None) → find_name name (if not b then g ∷ drop_file id files else drop_file id files) ≡ None
      by true e h rest =
          let is : g ≡ f = cc in
          let at : g.id ≡ id = same-number g.id id e in
          ap (find_name name) (all-stay id files (subst (λ i. All (λ x. i < x.id) files) at apart.0))
          ∙ subst (λ n. find_name n files ≡ None) (ap (λ x. x.name) is ∙ own) apart.1
      by false e h rest = ap (λ t. if t then Some g else find_name name (drop_file id files)) (none-there files h apart.1) ∙ rest h own

pub named-dropped : (old new : List (Vec ℕ Global × ℕ)) (id : ℕ) (f : File) (files : List File) → AreApart files → AreNamed old files
    → find_file id files ≡ Some f → StandsAt f.name None old new → AreNamed new (drop_file id files)
named-dropped old new id f files apart named found stands name = elim (decided (pointwise nat_eq f.name name)) [
  | inl y ↦ stands name ∙ ap (λ b. if b then None else id_of name old) y ∙ sym (ap id_found (own-gone id f name files apart found (name-is f.name name y)))
  | inr e ↦ stands name ∙ ap (λ b. if b then None else id_of name old) e ∙ named name
      ∙ sym (ap id_found (others-found id f name files apart found (name-differs f.name name e)))
]

-- ---- through the calls

-- the new file of a row
pub named-row : (old new : List (Vec ℕ Global × ℕ)) (row : FileRow) (files : List File) → AreNamed old files → find_name row.name files ≡ None
    → StandsAt row.name (Some row.id) old new → AreNamed new (files ++ file_of row [] ∷ [])
named-row old new row files named none stands =
    named-added old new (file_of row []) files named
    (subst (λ n. find_name n files ≡ None) (sym (made-name row [])) none)
    (subst (λ n. StandsAt n (Some (file_of row []).id) old new) (sym (made-name row [])) (subst (λ i. StandsAt row.name (Some i) old new)
    (sym (made-id row [])) stands))

-- the file of a row in place of its old one
pub named-followed : (names : List (Vec ℕ Global × ℕ)) (row : FileRow) (f : File) (files : List File) → AreApart files → AreNamed names files
    → find_file row.id files ≡ Some f → row.name ≡ f.name → AreNamed names (replace_file (file_of row f.bodies) files)
named-followed names row f files apart named found same =
    named-replaced names (file_of row f.bodies) files named
    (named-as-found (file_of row f.bodies) f files apart (ap (λ i. find_file i files) (made-id row f.bodies) ∙ found) (sym same
    ∙ sym (made-name row f.bodies)))

-- another body of a block
module _ (names : List (Vec ℕ Global × ℕ)) (files : List File) (b : BlockChange) (apart : AreApart files) (named : AreNamed names files) where
  body-named : (found : Option File) → find_file b.file files ≡ found → HasBlock b.block found → AreNamed names (with_block_in b files found)
  unfolding with_body
  body-named None is has = absurd has
  body-named (Some f) is has =
      let here : find_file f.id files ≡ Some f = ap (λ i. find_file i files) (found-id b.file files f is) ∙ is in
      named-replaced names (with_body f b.block b.body) files named (named-as-found (with_body f b.block b.body) f files apart here refl)

  pub named-written : (new : List File) → new ≡ with_block b files → HasBlock b.block (find_file b.file files) → AreNamed names new
  named-written new is has = subst (AreNamed names) (sym is) (body-named (find_file b.file files) refl has)

found-named : (name : List ℕ) (files : List File) (f : File) → AreApart files → find_name name files ≡ Some f → find_file f.id files ≡ Some f
found-named name [] f apart found = cc
found-named name (g ∷ files) f apart found = by (same_bytes g.name name) found (found-named name files f apart.2)
  where
    by : (b : Bool) → (if b then Some g else find_name name files) ≡ Some f → (find_name name files ≡ Some f → find_file f.id files ≡ Some f)
        → (if g.id == f.id then Some g else find_file f.id files) ≡ Some f
    by true h rest = let is : g ≡ f = cc in ap (λ t. if t then Some g else find_file f.id files) (number-same g.id f.id (ap (λ x. x.id) is))
        ∙ ap (λ x. Some x) is
    by false h rest =
        let later : find_file f.id files ≡ Some f = rest h in
        let above : g.id < f.id = found-has (λ x. g.id < x.id) f.id files f apart.0 later in
        ap (λ t. if t then Some g else find_file f.id files) (number-other g.id f.id (λ i. absurd (omega arith))) ∙ later

-- the file of the id that stands at a name is the file of the name
pub of-named : (names : List (Vec ℕ Global × ℕ)) (files : List File) (name : List ℕ) (id : ℕ) → AreApart files → AreNamed names files
    → id_of name names ≡ Some id → find_file id files ≡ find_name name files
of-named names files name id apart named at = by (find_name name files) refl
  where
    by : (found : Option File) → find_name name files ≡ found → find_file id files ≡ find_name name files
    by None is = let bad : None ≡ Some id = sym (ap id_found is) ∙ sym (named name) ∙ at in cc
    by (Some f) is =
        let e : Some f.id ≡ Some id = sym (ap id_found is) ∙ sym (named name) ∙ at in
        let same : f.id ≡ id = cc in
        subst (λ i. find_file i files ≡ Some f) same (found-named name files f apart is) ∙ sym is

-- a file that follows its row in its place
pub named-in-place : (names : List (Vec ℕ Global × ℕ)) (files new : List File) (place : ℕ) (row : FileRow) → AreApart files → AreNamed names files
    → IsRowAmong row files (find_file row.id files) → find_file row.id files ≡ slice_get files place → place < length files
    → new ≡ with_file row files → AreNamed names new
named-in-place names files new place row apart named among found lt is =
    let one = some-at files place lt in
    let f : File = one.0 in
    let there : find_file row.id files ≡ Some f = found ∙ one.1 in
    let same : row.name ≡ f.name = subst (IsRowAmong row files) there among in
    subst (AreNamed names) (sym (is ∙ ap (with_file_at row files) there)) (named-followed names row f files apart named there same)

-- a new file at the end, where none had the id
pub named-at-end : (old now : List (Vec ℕ Global × ℕ)) (files new : List File) (row : FileRow) → AreNamed old files → IsRowAmong row files
    (find_file row.id files) → find_file row.id files ≡ None → StandsAt row.name (Some row.id) old now → new ≡ files ++ file_of row [] ∷ [] → AreNamed now new
named-at-end old now files new row named among none stands is =
    let of_row : IsRowAmong row files None = subst (IsRowAmong row files) none among in
    subst (AreNamed now) (sym is) (named-row old now row files named of_row.1 stands)

-- a file taken out of its place
pub named-without : (old now : List (Vec ℕ Global × ℕ)) (files new : List File) (place id : ℕ) (row : FileRow) → AreApart files → AreNamed old files
    → find_file id files ≡ slice_get files place → place < length files → ((f : File) → slice_get files place ≡ Some f → row.name ≡ f.name)
    → StandsAt row.name None old now → new ≡ drop_file id files → AreNamed now new
named-without old now files new place id row apart named found lt told stands is =
    let one = some-at files place lt in
    let f : File = one.0 in
    subst (AreNamed now) (sym is) (named-dropped old now id f files apart named (found ∙ one.1) (subst (λ n. StandsAt n None old now) (told f one.1) stands))
