-- What is kept once a file is written, a row cleared, a body written.
use Rattle.std.proofs.Common.{◌≡◌, ◌≢◌, ◌<◌, ◌==◌, ◌⊎◌, inl, inr, ℕ, zero, suc, Bool, true, false, List, [], ◌∷◌, ◌++◌, Option, Some, None, take}
use Rattle.std.proofs.Common.{drop, map, set, length, get_or, if◌then◌else◌, refl, sym, ap, subst, ◌∙◌, arith}
use Rattle.std.specs.List.{All}
use Rattle.std.specs.Prelude.{nat_lt, not, slice_index_or}
use Rattle.std.proofs.lemmas.Bool.Decides.{nat_tests}
use Rattle.std.proofs.lemmas.List.{map-append, set_split}
use Rattle.std.proofs.lemmas.List.Elements.{All-append, All-nil, All-head, All-tail, All-weaker}
use Rattle.nq_base.specs.declared.BlockChange.{BlockChange}
use Rattle.nq_model.specs.protocol.Change.{file_of, with_body, with_block, with_block_in, with_file, with_file_at}
use Rattle.nq_model.specs.protocol.Kept.{File, Kept, drop_file, find_file, replace_file, with_files}
use Rattle.nq_image.specs.Kept.{body_in}
use Rattle.nq_image.specs.Standing.{AreDistinct, HasBodies, IsApartFrom, IsNoneOf, PlacedFile, Standing, blocks_in, file_at, files_in, kept_at}
use Rattle.nq_image.specs.Standing.{others, put_file, row_at, row_blocks, row_for, with_placed, with_rows}
use Rattle.nq_image.proofs.Agreeing.{all-front, all-put, all-rest, each-block, map-same, same-file, same-files}
use Rattle.nq_image.proofs.GivenBlocks.{both-of}
use Rattle.nq_image.proofs.Numbering.{IsOtherId, not-equal}
use Rattle.nq_image.proofs.Replacing.{around-row, blocks-append}
use Rattle.nq_image.proofs.Sorting.{OfRow, of-rows, put-last, put-replaced, replaced, row-gone, row-put}

same-id : (n : ℕ) → (n == n) ≡ true
same-id n = grind (arith, nat_tests)

-- ---- files by their ids

module _ (bytes : List ℕ) where
  abbrev kept : PlacedFile → File
  kept f = file_at bytes f

  pub id-of : (f : PlacedFile) → (file_at bytes f).id ≡ f.id
  unfolding file_at
  id-of f = refl

  find-step : (b : Bool) (f : PlacedFile) (rest : Option File) → b ≡ false → (if b then Some (kept f) else rest) ≡ rest
  find-step true f rest never = cc
  find-step false f rest never = refl

  pub find-none : (id : ℕ) (files : List PlacedFile) → All (λ f. f.id ≢ id) files → find_file id (map (file_at bytes) files) ≡ None
  find-none id [] all = refl
  find-none id (f ∷ files) all =
      let own = ap (λ (n : ℕ). n == id) (id-of f) ∙ not-equal f.id id (λ e. All-head (λ g. g.id ≢ id) f files all (sym e)) in
      find-step ((file_at bytes f).id == id) f (find_file id (map (file_at bytes) files)) own
      ∙ find-none id files (All-tail (λ g. g.id ≢ id) f files all)

  find-own : (b : Bool) (f : PlacedFile) (rest : Option File) → b ≡ true → (if b then Some (kept f) else rest) ≡ Some (kept f)
  find-own true f rest granted = refl
  find-own false f rest granted = cc

  find-first : (x : PlacedFile) (files : List PlacedFile) → find_file x.id (map (file_at bytes) (x ∷ files)) ≡ Some (file_at bytes x)
  find-first x files = find-own ((file_at bytes x).id == x.id) x (find_file x.id (map (file_at bytes) files)) (ap (λ (n : ℕ). n == x.id) (id-of x)
      ∙ same-id x.id)

  pub find-put : (x : PlacedFile) (files : List PlacedFile) → All (λ f. f.id ≢ x.id) files → find_file x.id (map (file_at bytes) (put_file x files))
      ≡ Some (file_at bytes x)
  find-put x [] all = find-first x []
  find-put x (f ∷ files) all = by (nat_lt x.id f.id) (find-put x files (All-tail (λ g. g.id ≢ x.id) f files all))
    where
      by : (b : Bool) → find_file x.id (map (file_at bytes) (put_file x files)) ≡ Some (file_at bytes x)
          → find_file x.id (map (file_at bytes) (if b then x ∷ f ∷ files else f ∷ put_file x files)) ≡ Some (file_at bytes x)
      by true more = find-first x (f ∷ files)
      by false more =
          let own = ap (λ (n : ℕ). n == x.id) (id-of f) ∙ not-equal f.id x.id (λ e. All-head (λ g. g.id ≢ x.id) f files all (sym e)) in
          find-step ((file_at bytes f).id == x.id) f (find_file x.id (map (file_at bytes) (put_file x files))) own ∙ more

-- ---- a file in place of that of its id

module _ (old new : List ℕ) where
  -- the same, or the one of an id
  abbrev IsSameBut : (id : ℕ) → PlacedFile → Type 0
  IsSameBut id f = (f.id ≡ id) ⊎ (file_at new f ≡ file_at old f)

  one-in-place : (x : PlacedFile) (made : File) (f : PlacedFile) → file_at new x ≡ made → IsSameBut x.id f → file_at new (if f.id == x.id then x
      else f) ≡ (if (file_at old f).id == made.id then made else file_at old f)
  one-in-place x made f same (inl e) =
      let id = id-of new x in
      let own = sym id ∙ ap (λ (g : File). g.id) same in
      ap (λ (n : ℕ). file_at new (if n == x.id then x else f)) e
      ∙ ap (λ (b : Bool). file_at new (if b then x else f)) (same-id x.id)
      ∙ same
      ∙ sym (ap (λ (n : ℕ). if n == made.id then made else file_at old f) (id-of old f ∙ e ∙ own) ∙ ap (λ (b : Bool). if b then made
      else file_at old f) (same-id made.id))
  one-in-place x made f same (inr e) =
      let own = sym (id-of new x) ∙ ap (λ (g : File). g.id) same in
      by (f.id == x.id) refl own
    where
      by : (b : Bool) → (f.id == x.id) ≡ b → x.id ≡ made.id → file_at new (if f.id == x.id then x else f) ≡ (if (file_at old f).id == made.id
          then made else file_at old f)
      by true is own =
          ap (λ (c : Bool). file_at new (if c then x else f)) is
          ∙ same
          ∙ sym (ap (λ (n : ℕ). if n == made.id then made else file_at old f) (id-of old f) ∙ ap (λ (n : ℕ). if f.id == n then made
          else file_at old f) (sym own) ∙ ap (λ (c : Bool). if c then made else file_at old f) is)
      by false is own =
          ap (λ (c : Bool). file_at new (if c then x else f)) is
          ∙ e
          ∙ sym (ap (λ (n : ℕ). if n == made.id then made else file_at old f) (id-of old f) ∙ ap (λ (n : ℕ). if f.id == n then made
          else file_at old f) (sym own) ∙ ap (λ (c : Bool). if c then made else file_at old f) is)

  pub in-place : (x : PlacedFile) (made : File) (files : List PlacedFile) → file_at new x ≡ made → All (IsSameBut x.id) files
      → map (file_at new) (replaced x files) ≡ replace_file made (map (file_at old) files)
  in-place x made [] same all = refl
  in-place x made (f ∷ files) same all =
      let own = one-in-place x made f same (All-head (IsSameBut x.id) f files all) in
      let more = in-place x made files same (All-tail (IsSameBut x.id) f files all) in
      ap (λ (g : File). g ∷ map (file_at new) (replaced x files)) own
      ∙ ap (λ (l : List File). (if (file_at old f).id == made.id then made else file_at old f) ∷ l) more

-- ---- a file without its row

dropped-none : (bytes : List ℕ) (id : ℕ) (files : List PlacedFile) → All (λ f. f.id ≢ id) files → drop_file id (map (file_at bytes) files)
    ≡ map (file_at bytes) files
dropped-none bytes id [] all = refl
dropped-none bytes id (f ∷ files) all =
    let own = ap (λ (n : ℕ). n == id) (id-of bytes f) ∙ not-equal f.id id (λ e. All-head (λ g. g.id ≢ id) f files all (sym e)) in
    stays ((file_at bytes f).id == id) own ∙ ap (λ (l : List File). file_at bytes f ∷ l) (dropped-none bytes id files (All-tail (λ g. g.id ≢ id) f files all))
  where
    stays : (b : Bool) → b ≡ false → (if not b then file_at bytes f ∷ drop_file id (map (file_at bytes) files)
        else drop_file id (map (file_at bytes) files)) ≡ file_at bytes f ∷ drop_file id (map (file_at bytes) files)
    stays true never = cc
    stays false never = refl

dropped-first : (bytes : List ℕ) (x : PlacedFile) (files : List PlacedFile) → drop_file x.id (map (file_at bytes) (x ∷ files)) ≡ drop_file x.id
    (map (file_at bytes) files)
dropped-first bytes x files = goes ((file_at bytes x).id == x.id) (ap (λ (n : ℕ). n == x.id) (id-of bytes x) ∙ same-id x.id)
  where
    goes : (b : Bool) → b ≡ true → (if not b then file_at bytes x ∷ drop_file x.id (map (file_at bytes) files)
        else drop_file x.id (map (file_at bytes) files)) ≡ drop_file x.id (map (file_at bytes) files)
    goes true granted = refl
    goes false granted = cc

dropped-put : (bytes : List ℕ) (x : PlacedFile) (files : List PlacedFile) → All (λ f. f.id ≢ x.id) files
    → drop_file x.id (map (file_at bytes) (put_file x files)) ≡ map (file_at bytes) files
dropped-put bytes x [] all = dropped-first bytes x []
dropped-put bytes x (f ∷ files) all = by (nat_lt x.id f.id) (dropped-put bytes x files (All-tail (λ g. g.id ≢ x.id) f files all))
  where
    stays : (b : Bool) → b ≡ false → (if not b then file_at bytes f ∷ drop_file x.id (map (file_at bytes) (put_file x files))
        else drop_file x.id (map (file_at bytes) (put_file x files))) ≡ file_at bytes f ∷ drop_file x.id (map (file_at bytes) (put_file x files))
    stays true never = cc
    stays false never = refl

    by : (b : Bool) → drop_file x.id (map (file_at bytes) (put_file x files)) ≡ map (file_at bytes) files
        → drop_file x.id (map (file_at bytes) (if b then x ∷ f ∷ files else f ∷ put_file x files)) ≡ map (file_at bytes) (f ∷ files)
    by true more = dropped-first bytes x (f ∷ files) ∙ dropped-none bytes x.id (f ∷ files) all
    by false more =
        let own = ap (λ (n : ℕ). n == x.id) (id-of bytes f) ∙ not-equal f.id x.id (λ e. All-head (λ g. g.id ≢ x.id) f files all (sym e)) in
        stays ((file_at bytes f).id == x.id) own ∙ ap (λ (l : List File). file_at bytes f ∷ l) more

-- ---- the rows but one

ids-of-row : (id : ℕ) (row : Option PlacedFile) → IsOtherId id row → OfRow (λ f. f.id ≢ id) row
ids-of-row id None other = tt
ids-of-row id (Some file) other = other

abbrev pub apart-rows : (s : Standing) (slot : ℕ) (id : ℕ) → Type 0
apart-rows s slot id = All (IsOtherId id) (others slot s.rows)

-- the files of the other rows
abbrev pub other-files : (s : Standing) (slot : ℕ) → List PlacedFile
other-files s slot = with_rows [] (others slot s.rows)

pub others-apart : (s : Standing) (slot id : ℕ) → apart-rows s slot id → All (λ f. f.id ≢ id) (other-files s slot)
others-apart s slot id apart =
    of-rows (λ f. f.id ≢ id) (others slot s.rows) [] (All-nil (λ f. f.id ≢ id))
    (All-weaker (IsOtherId id) (OfRow (λ f. f.id ≢ id)) (λ row other. ids-of-row id row other) (others slot s.rows) apart)

module _ (s : Standing) (slot : ℕ) (lt : slot < length s.rows) where
  abbrev front : List (Option PlacedFile)
  front = take slot s.rows

  abbrev rest : List (Option PlacedFile)
  rest = drop (suc slot) s.rows

  -- the files with another in the row
  pub files-with : (file : PlacedFile) → apart-rows s slot file.id → files_in (with_placed s slot (Some file)) ≡ put_file file (other-files s slot)
  files-with file apart =
      ap (λ (rows : List (Option PlacedFile)). with_rows [] rows) (set_split s.rows slot (Some file) lt)
      ∙ row-put file front rest [] (all-rest (IsOtherId file.id) front rest apart)

  files-without : files_in (with_placed s slot None) ≡ other-files s slot
  files-without = ap (λ (rows : List (Option PlacedFile)). with_rows [] rows) (set_split s.rows slot None lt) ∙ row-gone front rest []

  -- the files as they are
  files-now : (row : Option PlacedFile) → row_at s slot ≡ row → s.rows ≡ front ++ row ∷ rest
  files-now row is = around-row slot s.rows lt ∙ ap (λ (r : Option PlacedFile). front ++ r ∷ rest) is

  pub files-none : row_at s slot ≡ None → files_in s ≡ other-files s slot
  files-none is = ap (λ (rows : List (Option PlacedFile)). with_rows [] rows) (files-now None is) ∙ row-gone front rest []

  pub files-some : (was : PlacedFile) → row_at s slot ≡ Some was → apart-rows s slot was.id → files_in s ≡ put_file was (other-files s slot)
  files-some was is apart =
      ap (λ (rows : List (Option PlacedFile)). with_rows [] rows) (files-now (Some was) is)
      ∙ row-put was front rest [] (all-rest (IsOtherId was.id) front rest apart)

-- ---- what the files become

pub apart-ids : (file : PlacedFile) (rows : List (Option PlacedFile)) → All (IsApartFrom file) rows → All (IsOtherId file.id) rows
apart-ids file rows all = All-weaker (IsApartFrom file) (IsOtherId file.id) (λ row apart. one file row apart) rows all
  where
    one : (file : PlacedFile) (row : Option PlacedFile) → IsApartFrom file row → IsOtherId file.id row
    one file None apart = tt
    one file (Some other) apart = apart.1

pub new-is-last : (s : Standing) (file : PlacedFile) → file.slot < length s.rows → row_at s file.slot ≡ None → All (IsApartFrom file)
    (others file.slot s.rows) → All (λ f. f.id < file.id) (files_in s) → files_in (with_placed s file.slot (Some file)) ≡ files_in s ++ file ∷ []
new-is-last s file lt is apart last =
    let Files : List PlacedFile → Type 0 = λ l. All (λ f. f.id < file.id) l in
    let same = files-none s file.slot lt is in
    files-with s file.slot lt file (apart-ids file (others file.slot s.rows) apart)
    ∙ put-last file (other-files s file.slot) (subst Files same last)
    ∙ ap (λ (l : List PlacedFile). l ++ file ∷ []) (sym same)

pub same-takes-place : (s : Standing) (was file : PlacedFile) → file.slot < length s.rows → row_at s file.slot ≡ Some was → was.id ≡ file.id
    → All (IsApartFrom file) (others file.slot s.rows) → files_in (with_placed s file.slot (Some file)) ≡ replaced file (files_in s)
same-takes-place s was file lt is same apart =
    let slot = file.slot in
    let ids = apart-ids file (others slot s.rows) apart in
    let Apart : ℕ → Type 0 = λ id. apart-rows s slot id in
    files-with s slot lt file ids
    ∙ put-replaced was file (other-files s slot) same (others-apart s slot file.id ids)
    ∙ ap (λ (l : List PlacedFile). replaced file l) (sym (files-some s slot lt was is (subst Apart (sym same) ids)))

-- ---- what is kept

abbrev kept-with : Standing → List File → Kept
kept-with s files = record { files = files; hosts = s.hosts; boot = s.heads.boot; opened = s.heads.opened; longest = s.heads.longest; next = s.heads.next }

-- a kept state of other files
from-files : (s : Standing) (slot : ℕ) (row : Option PlacedFile) (old new : List ℕ) (files : List File)
    → map (file_at new) (files_in (with_placed s slot row)) ≡ files → kept_at new (with_placed s slot row) ≡ with_files (kept_at old s) files
unfolding kept_at with_files
from-files s slot row old new files same = ap (kept-with s) same

pub kept-files : (bytes : List ℕ) (s : Standing) → (kept_at bytes s).files ≡ map (file_at bytes) (files_in s)
unfolding kept_at
kept-files bytes s = refl

made-file : (s : Standing) (file : PlacedFile) (old new : List ℕ) → HasBodies s file old new → file_at new file ≡ file_of (row_for file)
    (map (body_in old) (row_blocks (row_at s file.slot)))
unfolding file_at file_of
made-file s file old new bodies =
    let made : List (List ℕ) → File = λ b. record { id = file.id; name = file.name; rev = file.rev; bodies = b } in
    ap made bodies

other-bodies : (s : Standing) (slot : ℕ) (old new : List ℕ) → All (λ block. body_in new block ≡ body_in old block) (blocks_in (others slot s.rows))
    → map (file_at new) (other-files s slot) ≡ map (file_at old) (other-files s slot)
other-bodies s slot old new all = same-files old new (others slot s.rows) all

pub new-kept : (s : Standing) (file : PlacedFile) (old new : List ℕ) → file.slot < length s.rows → row_at s file.slot ≡ None → All (IsApartFrom file)
    (others file.slot s.rows) → All (λ f. f.id < file.id) (files_in s) → HasBodies s file old new
    → All (λ block. body_in new block ≡ body_in old block) (blocks_in (others file.slot s.rows)) → kept_at new (with_placed s file.slot (Some file))
    ≡ with_files (kept_at old s) (with_file (row_for file) (kept_at old s).files)
new-kept s file old new lt is apart last bodies rest =
    let slot = file.slot in
    let row = row_for file in
    let none = files-none s slot lt is in
    let made = made-file s file old new bodies ∙ ap (λ (r : Option PlacedFile). file_of row (map (body_in old) (row_blocks r))) is in
    let files = map (file_at old) (files_in s) in
    let other = All-weaker (λ f. f.id < file.id) (λ f. f.id ≢ file.id) (λ f below. omega (arith, below)) (files_in s) last in
    let found = find-none old file.id (files_in s) other in
    let is_files = kept-files old s in
    let all =
    ap (λ (l : List PlacedFile). map (file_at new) l) (new-is-last s file lt is apart last)
    ∙ map-append (file_at new) (files_in s) (file ∷ [])
    ∙ ap (λ (l : List PlacedFile). map (file_at new) l ++ file_at new file ∷ []) none
    ∙ ap (λ (l : List File). l ++ file_at new file ∷ []) (other-bodies s slot old new rest)
    ∙ ap (λ (l : List PlacedFile). map (file_at old) l ++ file_at new file ∷ []) (sym none)
    ∙ ap (λ (f : File). files ++ f ∷ []) made
    ∙ sym (ap (λ (f : Option File). with_file_at row files f) found)
    ∙ sym (ap (λ (l : List File). with_file row l) is_files) in
    from-files s slot (Some file) old new (with_file row (kept_at old s).files) all

bodies-at : (bytes : List ℕ) (f : PlacedFile) → (file_at bytes f).bodies ≡ map (body_in bytes) f.blocks
unfolding file_at
bodies-at bytes f = refl

pub same-kept : (s : Standing) (was file : PlacedFile) (old new : List ℕ) → file.slot < length s.rows → row_at s file.slot ≡ Some was → was.id
    ≡ file.id → All (IsApartFrom file) (others file.slot s.rows) → HasBodies s file old new → All (λ block. body_in new block ≡ body_in old block)
    (blocks_in (others file.slot s.rows)) → kept_at new (with_placed s file.slot (Some file)) ≡ with_files (kept_at old s)
    (with_file (row_for file) (kept_at old s).files)
same-kept s was file old new lt is same apart bodies rest =
    let slot = file.slot in
    let row = row_for file in
    let ids = apart-ids file (others slot s.rows) apart in
    let Apart : ℕ → Type 0 = λ id. apart-rows s slot id in
    let now = files-some s slot lt was is (subst Apart (sym same) ids) in
    let files = map (file_at old) (files_in s) in
    let bodies_were = map (body_in old) was.blocks in
    let made = made-file s file old new bodies ∙ ap (λ (r : Option PlacedFile). file_of row (map (body_in old) (row_blocks r))) is in
    let Others : ℕ → Type 0 = λ id. All (λ f. f.id ≢ id) (other-files s slot) in
    let apart_files = others-apart s slot file.id ids in
    let put_found = find-put old was (other-files s slot) (subst Others (sym same) apart_files) in
    let found : find_file file.id files ≡ Some (file_at old was) =
    ap (λ (id : ℕ). find_file id files) (sym same) ∙ ap (λ (l : List PlacedFile). find_file was.id (map (file_at old) l)) now ∙ put_found in
    let but = all-but s slot was file.id old new same rest in
    let But : List PlacedFile → Type 0 = λ l. All (IsSameBut old new file.id) l in
    let is_files = kept-files old s in
    let bodies_of_was : (file_at old was).bodies ≡ bodies_were = bodies-at old was in
    let all =
    ap (λ (l : List PlacedFile). map (file_at new) l) (same-takes-place s was file lt is same apart)
    ∙ in-place old new file (file_of row bodies_were) (files_in s) made (subst But (sym now) but)
    ∙ ap (λ (b : List (List ℕ)). replace_file (file_of row b) files) (sym bodies_of_was)
    ∙ sym (ap (λ (f : Option File). with_file_at row files f) found)
    ∙ sym (ap (λ (l : List File). with_file row l) is_files) in
    from-files s slot (Some file) old new (with_file row (kept_at old s).files) all
  where
    all-but : (s : Standing) (slot : ℕ) (was : PlacedFile) (id : ℕ) (old new : List ℕ) → was.id ≡ id
        → All (λ block. body_in new block ≡ body_in old block) (blocks_in (others slot s.rows)) → All (IsSameBut old new id)
        (put_file was (other-files s slot))
    all-but s slot was id old new same rest =
        let Same : ℕ → Type 0 = λ block. body_in new block ≡ body_in old block in
        let each = each-block Same [] (others slot s.rows) (All-nil (λ f. All Same f.blocks)) rest in
        all-put (IsSameBut old new id) was (other-files s slot) (inl same)
        (All-weaker (λ f. All Same f.blocks) (IsSameBut old new id) (λ f own. inr (same-file old new f own)) (other-files s slot) each)

pub cleared-kept : (s : Standing) (slot : ℕ) (was : PlacedFile) (old new : List ℕ) → slot < length s.rows → row_at s slot ≡ Some was
    → All (IsApartFrom was) (others slot s.rows) → All (λ block. body_in new block ≡ body_in old block) (blocks_in (others slot s.rows))
    → kept_at new (with_placed s slot None) ≡ with_files (kept_at old s) (drop_file was.id (kept_at old s).files)
cleared-kept s slot was old new lt is apart rest =
    let ids = apart-ids was (others slot s.rows) apart in
    let now = files-some s slot lt was is ids in
    let all =
    ap (λ (l : List PlacedFile). map (file_at new) l) (files-without s slot lt)
    ∙ other-bodies s slot old new rest
    ∙ sym (dropped-put old was (other-files s slot) (others-apart s slot was.id ids))
    ∙ sym (ap (λ (l : List PlacedFile). drop_file was.id (map (file_at old) l)) now)
    ∙ sym (ap (λ (l : List File). drop_file was.id l) (kept-files old s)) in
    from-files s slot None old new (drop_file was.id (kept_at old s).files) all

-- ---- the body of a block

-- the place of a block in a file
body-set : (old new : List ℕ) (blocks : List ℕ) (k block : ℕ) (body : List ℕ) → k < length blocks → get_or blocks k 0 ≡ block → AreDistinct blocks
    → body_in new block ≡ body → All (λ other. other ≢ block → body_in new other ≡ body_in old other) blocks → map (body_in new) blocks
    ≡ set (map (body_in old) blocks) k body
body-set old new [] k block body lt is distinct own rest = absurd (omega (arith, lt))
body-set old new (b ∷ blocks) zero block body lt is distinct own rest =
    let Rest : ℕ → Type 0 = λ other. other ≢ block → body_in new other ≡ body_in old other in
    let none : All (λ o. o ≢ block) blocks = let P : ℕ → Type 0 = λ x. All (λ o. o ≢ x) blocks in subst P is distinct.0 in
    let same = both-of (λ o. o ≢ block) Rest (λ o. body_in new o ≡ body_in old o) blocks (λ o ne more. more ne) none (All-tail Rest b blocks rest) in
    ap (λ (x : ℕ). body_in new x ∷ map (body_in new) blocks) is
    ∙ ap (λ (x : List ℕ). x ∷ map (body_in new) blocks) own
    ∙ ap (λ (l : List (List ℕ)). body ∷ l) (map-same (body_in new) (body_in old) blocks same)
body-set old new (b ∷ blocks) (suc k) block body lt is distinct own rest =
    let Rest : ℕ → Type 0 = λ other. other ≢ block → body_in new other ≡ body_in old other in
    let other : b ≢ block = (λ e. at-none blocks k b (omega (arith, lt)) distinct.0 (is ∙ sym e)) in
    ap (λ (x : List ℕ). x ∷ map (body_in new) blocks) (All-head Rest b blocks rest other)
    ∙ ap (λ (l : List (List ℕ)). body_in old b ∷ l) (body-set old new blocks k block body (omega (arith, lt)) is distinct.1 own (All-tail Rest b blocks rest))
  where
    at-none : (xs : List ℕ) (k x : ℕ) → k < length xs → IsNoneOf xs x → get_or xs k 0 ≡ x → ⊥
    at-none xs k x lt none is = none k 0 lt is

body-made : (file : PlacedFile) (k : ℕ) (body old new : List ℕ) → map (body_in new) file.blocks ≡ set (map (body_in old) file.blocks) k body
    → file_at new file ≡ with_body (file_at old file) k body
unfolding file_at with_body
body-made file k body old new same =
    let made : List (List ℕ) → File = λ bodies. record { id = file.id; name = file.name; rev = file.rev; bodies = bodies } in
    ap made same

own-front : (file : PlacedFile) (rows : List (Option PlacedFile)) (P : ℕ → Type 0) → All P (blocks_in (Some file ∷ rows)) → All P file.blocks
unfolding blocks_in
own-front file rows P all = all-front P file.blocks (blocks_in rows) all

own-rest : (file : PlacedFile) (rows : List (Option PlacedFile)) (P : ℕ → Type 0) → All P (blocks_in (Some file ∷ rows)) → All P (blocks_in rows)
unfolding blocks_in
own-rest file rows P all = all-rest P file.blocks (blocks_in rows) all

pub body-kept : (s : Standing) (file : PlacedFile) (k block : ℕ) (body old new : List ℕ) → file.slot < length s.rows → row_at s file.slot ≡ Some file
    → k < length file.blocks → slice_index_or file.blocks k 0 ≡ block → All (IsApartFrom file) (others file.slot s.rows) → AreDistinct file.blocks
    → All (λ other. other ≢ block) (blocks_in (others file.slot s.rows)) → body_in new block ≡ body → All (λ other. other ≢ block → body_in new other
    ≡ body_in old other) (blocks_in s.rows) → map (file_at new) (files_in s) ≡ replace_file (with_body (file_at old file) k body)
    (map (file_at old) (files_in s))
body-kept s file k block body old new lt is below at apart distinct free own rest =
    let slot = file.slot in
    let ids = apart-ids file (others slot s.rows) apart in
    let now = files-some s slot lt file is ids in
    let Rest : ℕ → Type 0 = λ other. other ≢ block → body_in new other ≡ body_in old other in
    let Rows : List (Option PlacedFile) → Type 0 = λ rows. All Rest (blocks_in rows) in
    let around = around-row slot s.rows lt ∙ ap (λ (r : Option PlacedFile). take slot s.rows ++ r ∷ drop (suc slot) s.rows) is in
    let parted = subst Rows around rest in
    let Blocks : List ℕ → Type 0 = λ l. All Rest l in
    let flat = subst Blocks (blocks-append (take slot s.rows) (Some file ∷ drop (suc slot) s.rows)) parted in
    let behind = all-rest Rest (blocks_in (take slot s.rows)) (blocks_in (Some file ∷ drop (suc slot) s.rows)) flat in
    let of_file = own-front file (drop (suc slot) s.rows) Rest behind in
    let of_rest = own-rest file (drop (suc slot) s.rows) Rest behind in
    let of_front = all-front Rest (blocks_in (take slot s.rows)) (blocks_in (Some file ∷ drop (suc slot) s.rows)) flat in
    let of_others = subst Blocks (sym (blocks-append (take slot s.rows) (drop (suc slot) s.rows))) (All-append Rest (blocks_in (take slot s.rows))
    (blocks_in (drop (suc slot) s.rows)) of_front of_rest) in
    let Same : ℕ → Type 0 = λ o. body_in new o ≡ body_in old o in
    let same = both-of (λ o. o ≢ block) Rest Same (blocks_in (others slot s.rows)) (λ o ne more. more ne) free of_others in
    let made = body-made file k body old new (body-set old new file.blocks k block body below at distinct own of_file) in
    let each = each-block Same [] (others slot s.rows) (All-nil (λ f. All Same f.blocks)) same in
    let but = all-put (IsSameBut old new file.id) file (other-files s slot) (inl refl) (All-weaker (λ f. All Same f.blocks)
    (IsSameBut old new file.id) (λ f own. inr (same-file old new f own)) (other-files s slot) each) in
    let But : List PlacedFile → Type 0 = λ l. All (IsSameBut old new file.id) l in
    let self = put-replaced file file (other-files s slot) refl (others-apart s slot file.id ids) in
    ap (λ (l : List PlacedFile). map (file_at new) l) (now ∙ self ∙ ap (λ (l : List PlacedFile). replaced file l) (sym now))
    ∙ in-place old new file (with_body (file_at old file) k body) (files_in s) made (subst But (sym now) but)

-- what is kept once the files are these
pub block-kept : (s : Standing) (file : PlacedFile) (k : ℕ) (body old new : List ℕ) → file.slot < length s.rows → row_at s file.slot ≡ Some file
    → All (IsApartFrom file) (others file.slot s.rows) → map (file_at new) (files_in s) ≡ replace_file (with_body (file_at old file) k body)
    (map (file_at old) (files_in s)) → kept_at new s ≡ with_files (kept_at old s) (with_block (record { file = file.id; block = k; body = body })
    (kept_at old s).files)
unfolding kept_at with_files
block-kept s file k body old new lt is apart same =
    let slot = file.slot in
    let change : BlockChange = record { file = file.id; block = k; body = body } in
    let ids = apart-ids file (others slot s.rows) apart in
    let now = files-some s slot lt file is ids in
    let files = map (file_at old) (files_in s) in
    let found : find_file file.id files ≡ Some (file_at old file) =
    ap (λ (l : List PlacedFile). find_file file.id (map (file_at old) l)) now ∙ find-put old file (other-files s slot) (others-apart s slot file.id ids) in
    ap (kept-with s) (same ∙ sym (ap (λ (f : Option File). with_block_in change files f) found))
