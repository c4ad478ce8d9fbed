-- What stands in an image is what the image opens as.
use Rattle.std.proofs.Common.{◌≡◌, ◌+◌, ℕ, Bool, true, false, List, [], ◌∷◌, ◌++◌, Option, Some, None, Result, Ok, take, drop, map, length}
use Rattle.std.proofs.Common.{if◌then◌else◌, refl, sym, ap, ◌∙◌, arith, length-append}
use Rattle.std.specs.List.{insert}
use Rattle.std.specs.Prelude.{nat_lt}
use Rattle.std.proofs.lemmas.List.{append_assoc, drop_at, take_at}
use Rattle.nq_model.specs.protocol.Kept.{File, Kept}
use Rattle.nq_image.specs.Kept.{body_in, file_in, files_of, found_file, kept_in, kept_two, opened, place_of, stands_for}
use Rattle.nq_image.specs.Standing.{PlacedFile, Standing, Stands, blocks_in, file_at, found_of, kept_at, put_file, row_id, row_slot, with_rows}
use Rattle.nq_image.specs.Whole.{Found}
use Rattle.nq_image.specs.declared.kept.FoundFile.{FoundFile}
use Rattle.nq_image.specs.declared.rows.Slot.{Slot}
use Rattle.nq_image.proofs.Filing.{insert-is-put, put}

-- ---- files put in order

put_kept : (id : ℕ) → File → List File → List File
put_kept id x [] = x ∷ []
put_kept id x (f ∷ files) = if nat_lt id f.id then x ∷ f ∷ files else f ∷ put_kept id x files

module _ (bytes all : List ℕ) where
  map-if-found : (b : Bool) (one two : List FoundFile) → map (file_in bytes all) (if b then one else two) ≡ (if b then map (file_in bytes all) one
      else map (file_in bytes all) two)
  map-if-found true one two = refl
  map-if-found false one two = refl

  found-puts : (id : ℕ) (x : FoundFile) (files : List FoundFile) → map (file_in bytes all) (put id x files) ≡ put_kept id (file_in bytes all x)
      (map (file_in bytes all) files)
  unfolding put_kept
  found-puts id x [] = refl
  found-puts id x (f ∷ files) =
      map-if-found (nat_lt id f.row.id) (x ∷ f ∷ files) (f ∷ put id x files)
      ∙ ap (λ (l : List File). if nat_lt id f.row.id then file_in bytes all x ∷ file_in bytes all f ∷ map (file_in bytes all) files
      else file_in bytes all f ∷ l) (found-puts id x files)

  map-if-placed : (b : Bool) (one two : List PlacedFile) → map (file_at bytes) (if b then one else two) ≡ (if b then map (file_at bytes) one
      else map (file_at bytes) two)
  map-if-placed true one two = refl
  map-if-placed false one two = refl

  placed-puts : (x : PlacedFile) (files : List PlacedFile) → map (file_at bytes) (put_file x files) ≡ put_kept x.id (file_at bytes x)
      (map (file_at bytes) files)
  unfolding put_kept file_at
  placed-puts x [] = refl
  placed-puts x (f ∷ files) =
      map-if-placed (nat_lt x.id f.id) (x ∷ f ∷ files) (f ∷ put_file x files)
      ∙ ap (λ (l : List File). if nat_lt x.id f.id then file_at bytes x ∷ file_at bytes f ∷ map (file_at bytes) files else file_at bytes f ∷ l)
      (placed-puts x files)

  -- ---- a file and its blocks among those of all

  abbrev with-bodies : PlacedFile → List ℕ → File
  with-bodies file blocks = record { id = file.id; name = file.name; rev = file.rev; bodies = map (body_in bytes) blocks }

  abbrev slot-for : PlacedFile → Slot
  slot-for file = record { name = file.name; blocks = length file.blocks; rev = file.rev }

  same-file : (start : ℕ) (file : PlacedFile) (before behind : List ℕ) → all ≡ before ++ (file.blocks ++ behind) → length before ≡ start
      → file_in bytes all (found_file file.id start (slot-for file)) ≡ file_at bytes file
  unfolding found_file file_at
  same-file start file before behind is at =
      ap (λ (l : List ℕ). with-bodies file (take (length file.blocks) (drop start l))) is
      ∙ ap (λ (l : List ℕ). with-bodies file (take (length file.blocks) l)) (drop_at before (file.blocks ++ behind) start at)
      ∙ ap (λ (l : List ℕ). with-bodies file l) (take_at file.blocks behind (length file.blocks) refl)

  -- ---- all rows

  gathers : (rows : List (Option PlacedFile)) (found : List FoundFile) (files : List PlacedFile) (start : ℕ) (before : List ℕ)
      → map (file_in bytes all) found ≡ map (file_at bytes) files → all ≡ before ++ blocks_in rows → length before ≡ start → map (file_in bytes all)
      (files_of found start (map row_slot rows) (map row_id rows)) ≡ map (file_at bytes) (with_rows files rows)
  unfolding files_of with_rows blocks_in
  gathers [] found files start before same is at = same
  gathers (None ∷ rows) found files start before same is at =
      let e : start + 0 ≡ start = omega arith in
      ap (λ (n : ℕ). map (file_in bytes all) (files_of found n (map row_slot rows) (map row_id rows))) e ∙ gathers rows found files start before same is at
  gathers (Some file ∷ rows) found files start before same is at =
      let x = found_file file.id start (slot-for file) in
      let own = same-file start file before (blocks_in rows) is at in
      let placed = insert-is-put file.id x found in
      let both : map (file_in bytes all) (insert found (place_of file.id found) x) ≡ map (file_at bytes) (put_file file files) =
      ap (λ (l : List FoundFile). map (file_in bytes all) l) placed
      ∙ found-puts file.id x found
      ∙ ap (λ (f : File). put_kept file.id f (map (file_in bytes all) found)) own
      ∙ ap (λ (l : List File). put_kept file.id (file_at bytes file) l) same
      ∙ sym (placed-puts file files) in
      gathers rows (insert found (place_of file.id found) x) (put_file file files) (start + length file.blocks) (before ++ file.blocks) both
      (is ∙ sym (append_assoc before file.blocks (blocks_in rows))) (omega (arith, at, length-append before file.blocks))

kept-with : List File → Standing → Kept
kept-with files s = record { files = files; hosts = s.hosts; boot = s.heads.boot; opened = s.heads.opened; longest = s.heads.longest; next = s.heads.next }

pub kept-is : (bytes : List ℕ) (s : Standing) → kept_in bytes (kept_two (found_of s)) ≡ kept_at bytes s
unfolding kept_in kept_two kept_at kept-with
kept-is bytes s = ap (λ (files : List File). kept-with files s) (gathers bytes (blocks_in s.rows) s.rows [] [] 0 [] refl refl refl)

pub stands-opens : (bytes : List ℕ) (s : Standing) → Stands bytes s → opened bytes ≡ Some (Ok (kept_at bytes s))
unfolding opened
stands-opens bytes s stands =
    ap (λ (i : Option (Result Found ℕ)). stands_for bytes i) stands.found ∙ ap (λ (k : Kept). Some (Ok k)) (kept-is bytes s)
