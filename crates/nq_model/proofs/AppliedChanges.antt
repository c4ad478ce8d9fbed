-- What each change makes of the kept state, in the words of the server's step.
use Rattle.std.proofs.Common.{◌≡◌, ℕ, ◌+◌, ◌==◌, Bool, true, false, List, [], ◌∷◌, ◌++◌, Option, Some, None, if◌then◌else◌, refl, sym, ap, ◌∙◌}
use Rattle.std.specs.Prelude.{slice_set}
use Rattle.nq_base.specs.declared.Verdict.{Verdict}
use Rattle.nq_base.specs.declared.Who.{Who}
use Rattle.nq_model.specs.protocol.Change.{IsNextFree, raised_row, row_of, row_of_found, heads_of, file_of, with_body, with_file, with_file_at, with_block}
use Rattle.nq_model.specs.protocol.Change.{with_block_in, kept_as, applied, applied_if, change_of_heads, booted_heads, opened_heads, fencing, fencing_of}
use Rattle.nq_model.specs.protocol.Decided.{no_effect, creation, block_write, length_change, removal, row_with, change_with}
use Rattle.nq_model.specs.protocol.Kept.{File, Kept, blocks_of, find_file, replace_file, drop_file, new_file, written_file, resized_file, fenced_file}
use Rattle.nq_model.specs.protocol.Kept.{with_row, with_files, with_new_file}
use Rattle.nq_model.specs.protocol.ServerStep.{fence, booted}
use Rattle.nq_model.proofs.Files.{found-id, replaced-found, replaced-twice, resized-same, resized-none}

-- a decision without effect changes the host's row alone
pub applied-none : (kept : Kept) (who : Who) (seq : ℕ) (verdict : Verdict) → applied kept (change_with who seq (no_effect verdict)) ≡ with_row kept
    who.host (row_with who seq (no_effect verdict))
unfolding change_with no_effect kept_as with_row
applied-none kept who seq verdict = refl

raised-same : (file : File) → file_of (raised_row (row_of file) (blocks_of file)) file.bodies ≡ fenced_file file
unfolding file_of raised_row fenced_file
raised-same file = ap (λ bodies. record { id = file.id; name = file.name; rev = file.rev + 1; bodies = bodies }) (resized-same file.bodies)

-- the files with a kept file raised
with-raised : (file : File) (blocks : ℕ) (files : List File) → find_file file.id files ≡ Some file → with_file (raised_row (row_of file) blocks) files
    ≡ replace_file (file_of (raised_row (row_of file) blocks) file.bodies) files
unfolding raised_row
with-raised file blocks files found = ap (with_file_at (raised_row (row_of file) blocks) files) found

written-by : (file : File) (block : ℕ) (body : List ℕ) → with_body (fenced_file file) block body ≡ written_file file block body
unfolding with_body fenced_file written_file
written-by file block body = refl

fenced-id : (file : File) → (fenced_file file).id ≡ file.id
unfolding fenced_file
fenced-id file = refl

written-id : (file : File) (block : ℕ) (body : List ℕ) → (written_file file block body).id ≡ file.id
unfolding written_file
written-id file block body = refl

with-body-in : (file : File) (block : ℕ) (body : List ℕ) (files : List File) → find_file file.id files ≡ Some file
    → with_block (record { file = file.id; block = block; body = body }) (replace_file (fenced_file file) files) ≡ replace_file
    (written_file file block body) files
with-body-in file block body files found =
    ap (with_block_in (record { file = file.id; block = block; body = body }) (replace_file (fenced_file file) files)) (replaced-found file.id files
    (fenced_file file) file (fenced-id file) found)
    ∙ ap (λ f. replace_file f (replace_file (fenced_file file) files)) (written-by file block body)
    ∙ replaced-twice (written_file file block body) (fenced_file file) files (written-id file block body ∙ sym (fenced-id file))

-- a block is written
pub applied-write : (kept : Kept) (who : Who) (seq : ℕ) (file : File) (block : ℕ) (body : List ℕ) → find_file file.id kept.files ≡ Some file
    → applied kept (change_with who seq (block_write (row_of file) block body))
    ≡ with_row (with_files kept (replace_file (written_file file block body) kept.files)) who.host (row_with who seq (block_write (row_of file) block body))
unfolding change_with block_write kept_as with_row with_files
applied-write kept who seq file block body found =
    ap (λ files. record kept {
      files = files;
      hosts = slice_set kept.hosts who.host (record {
        inc = who.inc;
        seq = seq;
        verdict = Verdict.Done;
        value = file.rev + 1;
      });
    })
    (ap (with_block (record { file = file.id; block = block; body = body })) (with-raised file (blocks_of file) kept.files found
    ∙ ap (λ f. replace_file f kept.files) (raised-same file)) ∙ with-body-in file block body kept.files found)

-- a file gets another length
pub applied-resize : (kept : Kept) (who : Who) (seq : ℕ) (file : File) (blocks : ℕ) → find_file file.id kept.files ≡ Some file
    → applied kept (change_with who seq (length_change (row_of file) blocks)) ≡ with_row (with_files kept (replace_file (resized_file file blocks)
    kept.files)) who.host (row_with who seq (length_change (row_of file) blocks))
unfolding change_with length_change kept_as with_row with_files file_of raised_row resized_file
applied-resize kept who seq file blocks found =
    ap (λ files. record kept {
      files = files;
      hosts = slice_set kept.hosts who.host (record {
        inc = who.inc;
        seq = seq;
        verdict = Verdict.Done;
        value = file.rev + 1;
      });
    })
    (with-raised file blocks kept.files found)

-- a file is taken away
pub applied-removal : (kept : Kept) (who : Who) (seq : ℕ) (file : File) → applied kept (change_with who seq (removal (row_of file)))
    ≡ with_row (with_files kept (drop_file file.id kept.files)) who.host (row_with who seq (removal (row_of file)))
unfolding change_with removal kept_as with_row with_files
applied-removal kept who seq file = refl

-- a file is made
pub applied-creation : (kept : Kept) (who : Who) (seq : ℕ) (name : List ℕ) (blocks : ℕ) → IsNextFree kept
    → applied kept (change_with who seq (creation (heads_of kept) name blocks)) ≡ with_row (with_new_file kept name blocks) who.host
    (row_with who seq (creation (heads_of kept) name blocks))
unfolding change_with creation kept_as with_row with_new_file new_file file_of
applied-creation kept who seq name blocks free =
    ap (λ files. record kept {
      files = files;
      hosts = slice_set kept.hosts who.host (record {
        inc = who.inc;
        seq = seq;
        verdict = Verdict.Done;
        value = kept.next;
      });
      next = kept.next + 1;
    })
    (ap (with_file_at (record { id = kept.next; name = name; blocks = blocks; rev = 0 }) kept.files) free
    ∙ ap (λ bodies. kept.files ++ record { id = kept.next; name = name; rev = 0; bodies = bodies } ∷ []) (resized-none blocks))

-- a file is fenced, where it is kept
pub applied-fencing : (kept : Kept) (file : Option File) (id : ℕ) → find_file id kept.files ≡ file → fence kept file ≡ applied_if kept
    (fencing_of (row_of_found file))
unfolding fencing kept_as with_files
applied-fencing kept None id found = refl
applied-fencing kept (Some file) id found =
    let here : find_file file.id kept.files ≡ Some file = ap (λ i. find_file i kept.files) (found-id id kept.files file found) ∙ found in
    sym (ap (λ files. record kept { files = files }) (with-raised file (blocks_of file) kept.files here ∙ ap (λ f. replace_file f kept.files)
    (raised-same file)))

-- the server's numbers after a boot
pub applied-boot : (kept : Kept) (longest : ℕ) → booted kept longest ≡ applied kept (change_of_heads (booted_heads kept longest))
unfolding change_of_heads kept_as
applied-boot kept longest = by (kept.opened == 0)
  where
    by : (b : Bool) → (if b then record kept { boot = kept.boot + 1; opened = kept.boot + 1; longest = longest }
        else record kept { boot = kept.boot + 1 }) ≡ applied kept (change_of_heads (if b then record {
          boot = kept.boot + 1;
          opened = kept.boot + 1;
          longest = longest;
          next = kept.next;
        } else record { boot = kept.boot + 1; opened = kept.opened; longest = kept.longest; next = kept.next }))
    by true = refl
    by false = refl

-- and after a recovery
pub applied-opening : (kept : Kept) (longest : ℕ) → record kept { opened = kept.boot; longest = longest } ≡ applied kept
    (change_of_heads (opened_heads kept longest))
unfolding change_of_heads opened_heads kept_as
applied-opening kept longest = refl
