-- Bodies are read back, and files in their order.
use Rattle.std.proofs.Common.{◌≡◌, ◌≤◌, ◌<◌, ◌+◌, ◌-◌, ◌*◌, ℕ, zero, suc, Bool, true, false, List, [], ◌∷◌, ◌++◌, take, drop, map, length}
use Rattle.std.proofs.Common.{if◌then◌else◌, refl, sym, ap, ◌∙◌, arith, length-append}
use Rattle.std.specs.List.{All, concat}
use Rattle.std.specs.Prelude.{nat_lt}
use Rattle.std.proofs.lemmas.Bool.Decides.{nat_tests}
use Rattle.std.proofs.lemmas.List.{append_assoc, append-nil, take_at, drop_at}
use Rattle.std.proofs.lemmas.List.Elements.{All-append, All-cons, All-nil, All-head, All-tail}
use Rattle.std.proofs.lemmas.List.Sums.{sum_by-cons}
use Rattle.nq_model.specs.protocol.Change.{AreApart, IsBody, IsFileWithin}
use Rattle.nq_model.specs.protocol.Kept.{File, blocks_in_all, blocks_of as length_of}
use Rattle.nq_image.specs.Kept.{body_in, file_in, files_of, found_file, numbers_from}
use Rattle.nq_image.specs.Layout.{block_place}
use Rattle.nq_image.specs.Writing.{bodies_of}
use Rattle.nq_image.specs.declared.kept.FoundFile.{FoundFile}
use Rattle.nq_image.specs.declared.rows.Slot.{Slot}
use Rattle.nq_image.proofs.FileRows.{slot_for, slots_for}
use Rattle.nq_image.proofs.Filing.{insert-is-put, put}
use Rattle.nq_image.proofs.Giving.{length-numbers}
use Rattle.nq_image.proofs.ReadBack.{piece-there}
use Rattle.nq_image.proofs.Tabling.{ids_for, numbers-append}

-- ---- files in their order

-- the files as they are found, whose blocks begin at a number
unfoldable pub found_for : (start : ℕ) → List File → List FoundFile
found_for start [] = []
found_for start (file ∷ files) = found_file file.id start (slot_for file) ∷ found_for (start + length_of file) files

abbrev IsEarlier : (id : ℕ) → FoundFile → Type 0
IsEarlier id f = f.row.id < id

put-on : (b : Bool) (x f : FoundFile) (files more : List FoundFile) → b ≡ false → more ≡ files ++ x ∷ [] → (if b then x ∷ f ∷ files else f ∷ more) ≡ f
    ∷ (files ++ x ∷ [])
put-on true x f files more e same = cc
put-on false x f files more e same = ap (λ (l : List FoundFile). f ∷ l) same

-- a file with a later id than all goes behind them
put-last : (id : ℕ) (x : FoundFile) (files : List FoundFile) → All (IsEarlier id) files → put id x files ≡ files ++ x ∷ []
put-last id x [] all = refl
put-last id x (f ∷ files) all =
    put-on (nat_lt id f.row.id) x f files (put id x files) (not-lt id f.row.id (All-head (IsEarlier id) f files all))
    (put-last id x files (All-tail (IsEarlier id) f files all))
  where
    not-lt : (m n : ℕ) → n < m → nat_lt m n ≡ false
    not-lt m n lt = grind (arith, nat_tests)

found-id : (id start : ℕ) (slot : Slot) → (found_file id start slot).row.id ≡ id
unfolding found_file
found-id id start slot = refl

no-more : (count start : ℕ) (done : List FoundFile) → files_of done start (slots_for count []) (ids_for count []) ≡ done
unfolding files_of slots_for ids_for
no-more zero start done = refl
no-more (suc count) start done = no-more count (start + 0) done

pub files-are : (count start : ℕ) (done : List FoundFile) (files : List File) → length files ≤ count → AreApart files
    → All (λ f. All (IsEarlier f.id) done) files → files_of done start (slots_for count files) (ids_for count files) ≡ done ++ found_for start files
unfolding files_of slots_for ids_for found_for
files-are count start done [] few apart all = no-more count start done ∙ sym (append-nil done)
files-are zero start done (file ∷ files) few apart all = absurd (omega arith)
files-are (suc count) start done (file ∷ files) few apart all =
    let x = found_file file.id start (slot_for file) in
    let earlier = All-head (λ f. All (IsEarlier f.id) done) file files all in
    let placed = insert-is-put file.id x done ∙ put-last file.id x done earlier in
    ap (λ (l : List FoundFile). files_of l (start + length_of file) (slots_for count files) (ids_for count files)) placed
    ∙ files-are count (start + length_of file) (done ++ x ∷ []) files (omega arith) apart.2 (more start done file files
    (All-tail (λ f. All (IsEarlier f.id) done) file files all) apart.0)
    ∙ append_assoc done (x ∷ []) (found_for (start + length_of file) files)
  where
    later-still : (start : ℕ) (file f : File) → file.id < f.id → IsEarlier f.id (found_file file.id start (slot_for file))
    later-still start file f lt = let e = found-id file.id start (slot_for file) in omega (arith, e, lt)

    more : (start : ℕ) (done : List FoundFile) (file : File) (files : List File) → All (λ f. All (IsEarlier f.id) done) files
        → All (λ later. file.id < later.id) files → All (λ f. All (IsEarlier f.id) (done ++ found_file file.id start (slot_for file) ∷ [])) files
    more start done file [] all later = All-nil (λ f. All (IsEarlier f.id) (done ++ found_file file.id start (slot_for file) ∷ []))
    more start done file (f ∷ files) all later =
        let x = found_file file.id start (slot_for file) in
        All-cons (λ f. All (IsEarlier f.id) (done ++ x ∷ [])) f files
        (All-append (IsEarlier f.id) done (x ∷ []) (All-head (λ f. All (IsEarlier f.id) done) f files all) (All-cons (IsEarlier f.id) x []
        (later-still start file f (All-head (λ later. file.id < later.id) f files later)) (All-nil (IsEarlier f.id))))
        (more start done file files (All-tail (λ f. All (IsEarlier f.id) done) f files all) (All-tail (λ later. file.id < later.id) f files later))

-- ---- bodies

-- the bodies of blocks one behind another
bodies-are : (block : ℕ) (bodies : List (List ℕ)) (pre suf bytes : List ℕ) → bytes ≡ pre ++ (concat bodies ++ suf) → length pre ≡ block_place block
    → All IsBody bodies → map (body_in bytes) (numbers_from block (length bodies)) ≡ bodies
unfolding numbers_from
bodies-are block [] pre suf bytes is at all = refl
bodies-are block (body ∷ bodies) pre suf bytes is at all =
    let own = All-head IsBody body bodies all in
    let long = own.size in
    let flat = is ∙ ap (λ (b : List ℕ). pre ++ b) (append_assoc body (concat bodies) suf) in
    ap (λ (b : List ℕ). b ∷ map (body_in bytes) (numbers_from (block + 1) (length bodies))) (piece-there (block_place block) 4096 pre body
    (concat bodies ++ suf) bytes flat at long)
    ∙ ap (λ (l : List (List ℕ)). body ∷ l)
    (bodies-are (block + 1) bodies (pre ++ body) suf bytes (flat ∙ sym (append_assoc pre body (concat bodies ++ suf)))
    (omega (arith, at, long, length-append pre body)) (All-tail IsBody body bodies all))

pub length-bodies : (bodies : List (List ℕ)) → All IsBody bodies → length (concat bodies) ≡ 4096 * length bodies
length-bodies [] all = refl
length-bodies (body ∷ bodies) all =
    let long = (All-head IsBody body bodies all).size in
    omega (arith, long, length-bodies bodies (All-tail IsBody body bodies all), length-append body (concat bodies))

-- the blocks of a file are its part of those of all
part : (start n total : ℕ) → start + n ≤ total → take n (drop start (numbers_from 0 total)) ≡ numbers_from start n
part start n total le =
    let behind = total - (start + n) in
    let e : start + (n + behind) ≡ total = omega arith in
    let f : 0 + start ≡ start = omega arith in
    ap (λ (k : ℕ). take n (drop start (numbers_from 0 k))) (sym e)
    ∙ ap (λ (l : List ℕ). take n (drop start l)) (sym (numbers-append 0 start (n + behind)))
    ∙ ap (λ (l : List ℕ). take n l) (drop_at (numbers_from 0 start) (numbers_from (0 + start) (n + behind)) start (length-numbers 0 start))
    ∙ ap (λ (k : ℕ). take n (numbers_from k (n + behind))) f
    ∙ ap (λ (l : List ℕ). take n l) (sym (numbers-append start n behind))
    ∙ take_at (numbers_from start n) (numbers_from (start + n) behind) n (length-numbers start n)

abbrev file-with : (id : ℕ) (name : List ℕ) (rev : ℕ) → List (List ℕ) → File
file-with id name rev bodies = record { id = id; name = name; rev = rev; bodies = bodies }

one-file : (bytes : List ℕ) (start total : ℕ) (file : File) → start + length_of file ≤ total
    → map (body_in bytes) (numbers_from start (length_of file)) ≡ file.bodies → file_in bytes (numbers_from 0 total)
    (found_file file.id start (slot_for file)) ≡ file
unfolding found_file
one-file bytes start total file le same =
    ap (λ (l : List ℕ). file-with file.id file.name file.rev (map (body_in bytes) l)) (part start (length_of file) total le)
    ∙ ap (λ (l : List (List ℕ)). file-with file.id file.name file.rev l) same

pub found-are : (start total next : ℕ) (files : List File) (pre suf bytes : List ℕ) → bytes ≡ pre ++ (bodies_of files ++ suf) → length pre
    ≡ block_place start → start + blocks_in_all files ≤ total → All (IsFileWithin next) files → map (file_in bytes (numbers_from 0 total))
    (found_for start files) ≡ files
unfolding found_for bodies_of
found-are start total next [] pre suf bytes is at le within = refl
found-are start total next (file ∷ files) pre suf bytes is at le within =
    let own = All-head (IsFileWithin next) file files within in
    let sums = sum_by-cons length_of file files in
    let n = length_of file in
    let body = concat file.bodies in
    let more = bodies_of files in
    let flat = is ∙ ap (λ (b : List ℕ). pre ++ b) (append_assoc body more suf) in
    let same = bodies-are start file.bodies pre (more ++ suf) bytes flat at own.bodies in
    ap (λ (f : File). f ∷ map (file_in bytes (numbers_from 0 total)) (found_for (start + n) files)) (one-file bytes start total file
    (omega (arith, le, sums)) same)
    ∙ ap (λ (l : List File). file ∷ l)
    (found-are (start + n) total next files (pre ++ body) suf bytes (flat ∙ sym (append_assoc pre body (more ++ suf)))
    (omega (arith, at, length-append pre body, length-bodies file.bodies own.bodies)) (omega (arith, le, sums)) (All-tail (IsFileWithin next) file
    files within))

pub length-all-bodies : (next : ℕ) (files : List File) → All (IsFileWithin next) files → length (bodies_of files) ≡ 4096 * blocks_in_all files
unfolding bodies_of
length-all-bodies next [] within = refl
length-all-bodies next (file ∷ files) within =
    let own = All-head (IsFileWithin next) file files within in
    omega (
      arith,
      length-bodies file.bodies own.bodies,
      length-all-bodies next files (All-tail (IsFileWithin next) file files within),
      length-append (concat file.bodies) (bodies_of files),
      sum_by-cons length_of file files,
    )
