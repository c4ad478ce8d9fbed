-- A row whose revision code caps: within the bounds it is as before, and it fits in any case.
use Rattle.std.proofs.Common.{◌≡◌, ◌≤◌, ℕ, ◌+◌, ◌==◌, Bool, true, false, List, [], ◌∷◌, ◌++◌, Option, Some, None, if◌then◌else◌, length, min, refl}
use Rattle.std.proofs.Common.{sym, subst, ap, ◌∙◌, arith, length-append}
use Rattle.std.specs.Option.{IfSome}
use Rattle.std.proofs.lemmas.List.Sums.{sum_by-append}
use Rattle.nq_base.specs.declared.BlockChange.{BlockChange}
use Rattle.nq_base.specs.declared.FileRow.{FileRow}
use Rattle.nq_base.specs.declared.Heads.{Heads}
use Rattle.nq_model.specs.protocol.Change.{FitsFile, IsRowOf, HasBlock, file_of, with_file, with_file_at, files_with}
use Rattle.nq_model.specs.protocol.Kept.{File, Kept, blocks_of, blocks_in_all, find_file, replace_file}
use Rattle.nq_model.specs.protocol.Profile.{most_files, most_blocks, most_blocks_of_file}
use Rattle.nq_model.proofs.FreshFits.{blocks-first, length-replaced}
use Rattle.nq_keeper.specs.Capped.{last_number, capped_row, capped_file}

-- within the bounds nothing is capped
pub stays : (n : ℕ) → n ≤ last_number → min n last_number ≡ n
stays n below = omega arith

pub row-stays : (row : FileRow) → row.rev ≤ last_number → capped_row row ≡ row
unfolding capped_row
row-stays row below = ap (λ rev. record row { rev = rev }) (stays row.rev below)

-- ---- whatever its revision, a row fits as well

-- two files that differ in their revisions at most
record Alike (x y : File) : Type 0 where
  id : x.id ≡ y.id
  blocks : blocks_of x ≡ blocks_of y

blocks-alike-first : (g x y : File) (b : Bool) → Alike x y → blocks_of (if b then x else g) ≡ blocks_of (if b then y else g)
blocks-alike-first g x y true alike = alike.blocks
blocks-alike-first g x y false alike = refl

id-alike-first : (g x y : File) (b : Bool) → Alike x y → (if b then x else g).id ≡ (if b then y else g).id
id-alike-first g x y true alike = alike.id
id-alike-first g x y false alike = refl

blocks-alike : (x y : File) (files : List File) → Alike x y → blocks_in_all (replace_file x files) ≡ blocks_in_all (replace_file y files)
blocks-alike x y [] alike = refl
blocks-alike x y (g ∷ files) alike =
    let heads : blocks_of (if g.id == x.id then x else g) ≡ blocks_of (if g.id == y.id then y else g) = blocks-alike-first g x y (g.id == x.id) alike
    ∙ ap (λ i. blocks_of (if g.id == i then y else g)) alike.id in
    let rest : blocks_in_all (replace_file x files) ≡ blocks_in_all (replace_file y files) = blocks-alike x y files alike in
    blocks-first (if g.id == x.id then x else g) (replace_file x files)
    ∙ ap (λ n. n + blocks_in_all (replace_file x files)) heads
    ∙ ap (λ n. blocks_of (if g.id == y.id then y else g) + n) rest
    ∙ sym (blocks-first (if g.id == y.id then y else g) (replace_file y files))

has-first : (block id : ℕ) (a b : File) (rest after : Option File) (c : Bool) → a.id ≡ b.id → blocks_of a ≡ blocks_of b → (a.id == id) ≡ c
    → (HasBlock block rest → HasBlock block after) → HasBlock block (if c then Some a else rest) → HasBlock block (if b.id == id then Some b else after)
has-first block id a b rest after true ids blocks e later h = rw (ap (λ i. i == id) (sym ids) ∙ e) (omega arith)
has-first block id a b rest after false ids blocks e later h = rw (ap (λ i. i == id) (sym ids) ∙ e) (later h)

has-alike : (block id : ℕ) (x y : File) (files : List File) → Alike x y → HasBlock block (find_file id (replace_file x files))
    → HasBlock block (find_file id (replace_file y files))
has-alike block id x y [] alike h = h
has-alike block id x y (g ∷ files) alike h =
    has-first block id (if g.id == x.id then x else g) (if g.id == y.id then y else g) (find_file id (replace_file x files))
    (find_file id (replace_file y files)) ((if g.id == x.id then x else g).id == id)
    (id-alike-first g x y (g.id == x.id) alike ∙ ap (λ i. (if g.id == i then y else g).id) alike.id)
    (blocks-alike-first g x y (g.id == x.id) alike ∙ ap (λ i. blocks_of (if g.id == i then y else g)) alike.id)
    refl
    (has-alike block id x y files alike)
    h

has-added : (block id : ℕ) (x y : File) (files : List File) → Alike x y → HasBlock block (find_file id (files ++ x ∷ []))
    → HasBlock block (find_file id (files ++ y ∷ []))
has-added block id x y [] alike h = has-first block id x y None None (x.id == id) alike.id alike.blocks refl (λ none. none) h
has-added block id x y (g ∷ files) alike h = has-first block id g g (find_file id (files ++ x ∷ [])) (find_file id (files ++ y ∷ [])) (g.id == id)
    refl refl refl (has-added block id x y files alike) h

capped-alike : (row : FileRow) (bodies : List (List ℕ)) → Alike (file_of row bodies) (file_of (capped_row row) bodies)
unfolding file_of capped_row
capped-alike row bodies = record { id = refl; blocks = refl }

capped-id : (row : FileRow) → (capped_row row).id ≡ row.id
unfolding capped_row
capped-id row = refl

length-at : (row : FileRow) (files : List File) (o : Option File) → length (with_file_at (capped_row row) files o) ≡ length (with_file_at row files o)
length-at row files None = length-append files (file_of (capped_row row) [] ∷ []) ∙ sym (length-append files (file_of row [] ∷ []))
length-at row files (Some f) = length-replaced (file_of (capped_row row) f.bodies) files ∙ sym (length-replaced (file_of row f.bodies) files)

blocks-at : (row : FileRow) (files : List File) (o : Option File) → blocks_in_all (with_file_at row files o) ≡ blocks_in_all
    (with_file_at (capped_row row) files o)
blocks-at row files None =
    sum_by-append blocks_of files (file_of row [] ∷ [])
    ∙ ap (λ n. blocks_in_all files + n) (blocks-first (file_of row []) [] ∙ ap (λ n. n + blocks_in_all []) (capped-alike row []).blocks
    ∙ sym (blocks-first (file_of (capped_row row) []) []))
    ∙ sym (sum_by-append blocks_of files (file_of (capped_row row) [] ∷ []))
blocks-at row files (Some f) = blocks-alike (file_of row f.bodies) (file_of (capped_row row) f.bodies) files (capped-alike row f.bodies)

has-at : (block id : ℕ) (row : FileRow) (files : List File) (o : Option File) → HasBlock block (find_file id (with_file_at row files o))
    → HasBlock block (find_file id (with_file_at (capped_row row) files o))
has-at block id row files None h = has-added block id (file_of row []) (file_of (capped_row row) []) files (capped-alike row []) h
has-at block id row files (Some f) h = has-alike block id (file_of row f.bodies) (file_of (capped_row row) f.bodies) files (capped-alike row f.bodies) h

row-at : (kept : Kept) (heads : Option Heads) (row : FileRow) (o : Option File) → IsRowOf kept heads row o → IsRowOf kept heads (capped_row row) o
unfolding capped_row
row-at kept heads row None h = h
row-at kept heads row (Some f) h = h

-- where the row's file stands
found-capped : (row : FileRow) (files : List File) → with_file (capped_row row) files ≡ with_file_at (capped_row row) files (find_file row.id files)
found-capped row files = ap (λ i. with_file_at (capped_row row) files (find_file i files)) (capped-id row)

capped-blocks : (row : FileRow) → (capped_row row).blocks ≡ row.blocks
unfolding capped_row
capped-blocks row = refl

pub file-capped : (kept : Kept) (heads : Option Heads) (row : FileRow) → FitsFile kept heads row → FitsFile kept heads (capped_row row)
file-capped kept heads row fits = record {
  of_file = subst (λ i. IsRowOf kept heads (capped_row row) (find_file i kept.files)) (sym (capped-id row))
      (row-at kept heads row (find_file row.id kept.files) fits.of_file);
  not_empty = subst (λ n. 1 ≤ n) (sym (capped-blocks row)) fits.not_empty;
  short = subst (λ n. n ≤ most_blocks_of_file) (sym (capped-blocks row)) fits.short;
  few_files = subst (λ n. n ≤ most_files) (sym (ap length (found-capped row kept.files) ∙ length-at row kept.files (find_file row.id kept.files)))
      fits.few_files;
  few_blocks = subst (λ n. n ≤ most_blocks) (blocks-at row kept.files (find_file row.id kept.files)
      ∙ ap blocks_in_all (sym (found-capped row kept.files))) fits.few_blocks;
}

pub files-capped : (kept : Kept) (heads : Option Heads) (file : Option FileRow) → IfSome file (FitsFile kept heads) → IfSome (capped_file file)
    (FitsFile kept heads)
files-capped kept heads None fits = fits
files-capped kept heads (Some row) fits = file-capped kept heads row fits

pub blocks-capped : (kept : Kept) (file : Option FileRow) (block : Option BlockChange)
    → IfSome block (λ b. HasBlock b.block (find_file b.file (files_with file kept.files)))
    → IfSome block (λ b. HasBlock b.block (find_file b.file (files_with (capped_file file) kept.files)))
blocks-capped kept file None has = has
blocks-capped kept None (Some b) has = has
blocks-capped kept (Some row) (Some b) has = subst (λ files. HasBlock b.block (find_file b.file files)) (sym (found-capped row kept.files))
    (has-at b.block b.file row kept.files (find_file row.id kept.files) has)
