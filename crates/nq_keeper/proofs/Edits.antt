-- What the edits of a vector of files, and of a vector of blocks, make of them.
use Rattle.std.proofs.Common.{◌≡◌, ℕ, ◌+◌, ◌-◌, ◌≤◌, ◌<◌, ◌==◌, Bool, true, false, not, if◌then◌else◌, List, [], ◌∷◌, ◌++◌, Some, None, Result, Ok}
use Rattle.std.proofs.Common.{Err, suc, zero, set, length, get_or, refl, sym, subst, ap, ◌∙◌, append_assoc, arith}
use Rattle.std.specs.Prelude.{IfOk, OnOk, replicate, take, slice_get}
use Rattle.std.specs.List.{remove}
use Rattle.std.specs.Option.{ForSome}
use Rattle.std.proofs.lemmas.List.{replicate_more, take-replicate}
use Rattle.std.proofs.Math.Seq.{take-append-add}
use Rattle.nq_base.specs.Block.{filled, zeros}
use Rattle.nq_base.specs.declared.BlockChange.{BlockChange}
use Rattle.nq_base.specs.declared.FileRow.{FileRow}
use Rattle.nq_keeper.proofs.MadeFiles.{made-id, made-blocks}
use Rattle.nq_keeper.proofs.Places.{replace-at, drop-at}
use Rattle.nq_model.specs.protocol.Change.{AreApart, file_of, row_of, with_block, with_block_in, with_body, with_file, with_file_at}
use Rattle.nq_model.specs.protocol.Kept.{File, blocks_of, blocks_in_all, find_file, replace_file, drop_file, resized}
use Rattle.std.proofs.lemmas.List.Sums.{sum_by-append}
use Rattle.nq_model.proofs.Files.{found-id}
use Rattle.nq_model.proofs.FreshFits.{blocks-first, blocks-replaced}

-- ---- blocks

-- one block of zeros more
pub zeros-more : (bodies : List (List ℕ)) (n : ℕ) (block : List ℕ) → block ≡ filled 0 → (bodies ++ replicate n zeros) ++ block ∷ [] ≡ bodies
    ++ replicate (n + 1) zeros
unfolding zeros
zeros-more bodies n block is =
    append_assoc bodies (replicate n (filled 0)) (block ∷ [])
    ∙ ap (λ b. bodies ++ (replicate n (filled 0) ++ b ∷ [])) is
    ∙ ap (λ more. bodies ++ more) (replicate_more n (filled 0))

-- bodies to which zeros were added until there are so many
pub longer : (count : ℕ) (bodies : List (List ℕ)) → length bodies ≤ count → bodies ++ replicate (count - length bodies) zeros ≡ resized count bodies
longer count bodies le =
    let k = count - length bodies in
    let whole : length bodies + k ≡ count = omega arith in
    ap (λ more. bodies ++ more) (sym (take-replicate k count zeros (omega arith)))
    ∙ sym (take-append-add bodies (replicate count zeros) k)
    ∙ ap (λ n. take n (bodies ++ replicate count zeros)) whole

-- ---- files

pub on-ok : {X E : Type 0} (r : Result X E) (P Q : Type 0) → (P → Q) → OnOk r P → OnOk r Q
on-ok (Ok x) P Q f p = f p
on-ok (Err e) P Q f p = tt

-- the element at a place
pub get-index : {X : Type 0} (xs : List X) (place : ℕ) (x d : X) → slice_get xs place ≡ Some x → get_or xs place d ≡ x
get-index [] place x d at = cc
get-index (y ∷ xs) zero x d at = cc
get-index (y ∷ xs) (suc place) x d at = get-index xs place x d at

-- there is one at each place below the length
pub some-at : {X : Type 0} (xs : List X) (place : ℕ) → place < length xs → (x : X) × (slice_get xs place ≡ Some x)
some-at [] place lt = absurd (omega arith)
some-at (x ∷ xs) zero lt = (x, refl)
some-at (x ∷ xs) (suc place) lt = some-at xs place (omega arith)

-- an element that is there is the one at its place
pub got-at : {X : Type 0} (xs : List X) (place : ℕ) (x : X) → place < length xs → x ≡ get_or xs place x → slice_get xs place ≡ Some x
got-at xs place x lt is = let one = some-at xs place lt in one.1 ∙ ap Some (sym (is ∙ get-index xs place one.0 x one.1))

-- the file that stands where its id was found
pub found-there : (files seen : List File) (place id : ℕ) (f : File) → seen ≡ files → find_file id seen ≡ slice_get seen place → place < length seen
    → f ≡ get_or files place f → find_file id files ≡ Some f
found-there files seen place id f same found lt is =
    subst (λ xs. find_file id xs ≡ Some f) same (found ∙ got-at seen place f lt (subst (λ xs. f ≡ get_or xs place f) (sym same) is))

pub if-ok : {X E : Type 0} (r : Result X E) (P Q : X → Type 0) → ((x : X) → P x → Q x) → IfOk r P → IfOk r Q
if-ok (Ok x) P Q f p = f x p
if-ok (Err e) P Q f p = tt

body-id : (f : File) (block : ℕ) (body : List ℕ) → (with_body f block body).id ≡ f.id
unfolding with_body
body-id f block body = refl

-- a file with another body in its place
pub writes-block : (files new : List File) (place : ℕ) (b : BlockChange) → AreApart files → find_file b.file files ≡ slice_get files place
    → place < length files → ForSome (slice_get files place) (λ f. new ≡ set files place (with_body f b.block b.body)) → new ≡ with_block b files
writes-block files new place b apart found lt is =
    let one = some-at files place lt in
    let f : File = one.0 in
    let at : slice_get files place ≡ Some f = one.1 in
    is f at
    ∙ sym (replace-at (with_body f b.block b.body) f files place apart at (sym (body-id f b.block b.body)))
    ∙ sym (ap (with_block_in b files) (found ∙ at))

-- a file that follows its row in its place
pub follows-row : (files new : List File) (place : ℕ) (row : FileRow) → AreApart files → find_file row.id files ≡ slice_get files place
    → place < length files → ForSome (slice_get files place) (λ f. new ≡ set files place (file_of row f.bodies)) → new ≡ with_file row files
follows-row files new place row apart found lt is =
    let one = some-at files place lt in
    let f : File = one.0 in
    let at : slice_get files place ≡ Some f = one.1 in
    let same : f.id ≡ row.id = found-id row.id files f (found ∙ at) in
    is f at
    ∙ sym (replace-at (file_of row f.bodies) f files place apart at (same ∙ sym (made-id row f.bodies)))
    ∙ sym (ap (with_file_at row files) (found ∙ at))

-- a file taken out of its place
pub drops-file : (files : List File) (place id : ℕ) → AreApart files → find_file id files ≡ slice_get files place → place < length files
    → remove files place ≡ drop_file id files
drops-file files place id apart found lt =
    let one = some-at files place lt in
    let f : File = one.0 in
    let at : slice_get files place ≡ Some f = one.1 in
    sym (drop-at id f files place apart at (found-id id files f (found ∙ at)))

-- ---- blocks of all files

pub blocks-added : (files : List File) (row : FileRow) → blocks_in_all (files ++ file_of row [] ∷ []) ≡ blocks_in_all files + row.blocks
blocks-added files row =
    let one = blocks-first (file_of row []) [] in
    let own = made-blocks row [] in
    sum_by-append blocks_of files (file_of row [] ∷ []) ∙ (omega arith)

-- with another length of a file there are as many blocks more or fewer
pub counts-row : (files new : List File) (place : ℕ) (row had : FileRow) → AreApart files → find_file row.id files ≡ slice_get files place
    → place < length files → new ≡ with_file row files → ((f : File) → slice_get files place ≡ Some f → had ≡ row_of f) → had.blocks + blocks_in_all
    new ≡ blocks_in_all files + row.blocks
counts-row files new place row had apart found lt is told =
    let one = some-at files place lt in
    let f : File = one.0 in
    let at : slice_get files place ≡ Some f = one.1 in
    let same : f.id ≡ row.id = found-id row.id files f (found ∙ at) in
    let whole : new ≡ replace_file (file_of row f.bodies) files = is ∙ ap (with_file_at row files) (found ∙ at) in
    let sum = blocks-replaced (file_of row f.bodies) f files apart (made-id row f.bodies ∙ sym same) (ap (λ i. find_file i files) same ∙ found ∙ at) in
    let own = made-blocks row f.bodies in
    let before : had.blocks ≡ blocks_of f = ap (λ r. r.blocks) (told f at) in
    let after : blocks_in_all new ≡ blocks_in_all (replace_file (file_of row f.bodies) files) = ap blocks_in_all whole in
    omega arith

-- the row at a place has the id by which its file was found
pub id-at : (files : List File) (place : ℕ) (row : FileRow) → find_file row.id files ≡ slice_get files place → ForSome (slice_get files place)
    (λ f. row.id ≡ f.id)
id-at files place row found = λ f at. sym (found-id row.id files f (found ∙ at))

-- no file goes where none has the id
pub drops-none : (id : ℕ) (files : List File) → find_file id files ≡ None → drop_file id files ≡ files
drops-none id [] none = refl
drops-none id (f ∷ files) none = by (f.id == id) refl none (drops-none id files)
  where
    by : (b : Bool) → (f.id == id) ≡ b → (if b then Some f else find_file id files) ≡ None → (find_file id files ≡ None → drop_file id files ≡ files)
        → (if not b then f ∷ drop_file id files else drop_file id files) ≡ f ∷ files
    by true e h rest = cc
    by false e h rest = ap (λ l. f ∷ l) (rest h)
