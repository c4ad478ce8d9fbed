-- The change by which code fences a file is what the definitions say, and can be kept.
use Rattle.std.proofs.Common.{◌≡◌, ◌⊎◌, ◌≤◌, ℕ, ◌+◌, Bool, true, if◌then◌else◌, List, Option, Some, None, Ok, sym, ap, ◌∙◌, subst, inl, inr, arith}
use Rattle.std.specs.List.{find}
use Rattle.std.specs.Prelude.{nat_lt}
use Rattle.std.specs.Option.{ForSome, IfSome, option_map}
use Rattle.nq_base.specs.declared.Change.{Change}
use Rattle.nq_base.specs.declared.FileRow.{FileRow}
use Rattle.nq_base.specs.declared.Row.{Row}
use Rattle.nq_base.specs.declared.RowKey.{RowKey}
use Rattle.nq_lease.specs.declared.expire.ending.Fence.{Fence}
use Rattle.nq_lease.specs.Rows.{key_of}
use Rattle.nq_lease.specs.Ending.{IsDueBy, fence_of, Fences, fenced, fenced_if, fencing_as}
use Rattle.nq_keeper.specs.Capped.{last_number}
use Rattle.nq_keeper.specs.Keeping.{Commits, told_after}
use Rattle.nq_keeper.proofs.CappedRows.{row-stays, file-capped}
use Rattle.nq_model.specs.protocol.Change.{Fits, FitsFile, IsChangeWithin, IsOrderly, IsFileWithin, IsWithinBounds, applied, raised_row, row_of, row_of_found}
use Rattle.nq_model.specs.protocol.Change.{fencing}
use Rattle.nq_model.specs.protocol.Kept.{File, Kept, can_rise, find_file}
use Rattle.nq_model.specs.protocol.Profile.{rev_end}
use Rattle.nq_model.specs.protocol.ServerStep.{fence, is_due}
use Rattle.nq_model.specs.protocol.Table.{find_row}
use Rattle.nq_model.proofs.AppliedChanges.{applied-fencing}
use Rattle.nq_model.proofs.Files.{found-id, some-told}
use Rattle.nq_model.proofs.FreshFits.{found-has, fencing-fits}
use Rattle.nq_model.proofs.FreshWithin.{fencing-within}

-- the file of a row that was told
pub told-file : (kept : Kept) (id : ℕ) (row : FileRow) → row_of_found (find_file id kept.files) ≡ Some row → (f : File)
    × (find_file id kept.files ≡ Some f) × (row ≡ row_of f)
told-file kept id row told = some-told (find_file id kept.files) row told

row-fits : (kept : Kept) (f : File) → IsOrderly kept → find_file f.id kept.files ≡ Some f → FitsFile kept None (raised_row (row_of f) (row_of f).blocks)
unfolding fencing
row-fits kept f orderly found = (fencing-fits kept f orderly found).file

-- the change can be kept
pub fencing-can : (kept : Kept) (id : ℕ) (row : FileRow) (change : Change) → change ≡ fencing_as row → IsOrderly kept
    → row_of_found (find_file id kept.files) ≡ Some row → Fits kept change
fencing-can kept id row change is orderly told =
    let here = told-file kept id row told in
    let found : find_file here.0.id kept.files ≡ Some here.0 = ap (λ i. find_file i kept.files) (found-id id kept.files here.0 here.1) ∙ here.1 in
    subst (Fits kept) (sym is)
    (record {
      file = file-capped kept None (raised_row row row.blocks) (subst (λ r. FitsFile kept None (raised_row r r.blocks)) (sym here.2)
          (row-fits kept here.0 orderly found));
      block = tt;
      host = tt;
      heads = tt;
      removed = tt;
    })

same-fencing : (row : FileRow) → row.rev + 1 ≤ last_number → fencing_as row ≡ fencing row
unfolding fencing raised_row
same-fencing row room =
    ap (λ raised. record { file = Some raised; block = None; host = None; heads = None; removed = None })
    (row-stays (record row { blocks = row.blocks; rev = row.rev + 1 }) room)

-- its numbers are within their bounds, where the revision can rise
pub fencing-is-within : (kept : Kept) (id : ℕ) (row : FileRow) (change : Change) → change ≡ fencing_as row → IsWithinBounds kept
    → row_of_found (find_file id kept.files) ≡ Some row → nat_lt (row.rev + 1) rev_end ≡ true → IsChangeWithin kept change
fencing-is-within kept id row change is within told can =
    let here = told-file kept id row told in
    let rev = (found-has (IsFileWithin kept.next) id kept.files here.0 within.files here.1).rev in
    subst (IsChangeWithin kept) (sym (is ∙ ap fencing_as here.2 ∙ same-fencing (row_of here.0) (omega arith)))
    (fencing-within kept within id here.0 here.1 (subst (λ (r : FileRow). nat_lt (r.rev + 1) rev_end ≡ true) here.2 can))

-- whether the revision of the kept file can rise is told by its row
pub can-told : (kept : Kept) (id : ℕ) (row : FileRow) → row_of_found (find_file id kept.files) ≡ Some row → can_rise (find_file id kept.files)
    ≡ nat_lt (row.rev + 1) rev_end
can-told kept id row told =
    let here = told-file kept id row told in
    ap can_rise here.1 ∙ ap (λ (r : FileRow). nat_lt (r.rev + 1) rev_end) (sym here.2)

-- the kept state after a file was fenced whose revision can rise, or can not
pub fenced-can : (kept : Kept) (id : ℕ) (b : Bool) → can_rise (find_file id kept.files) ≡ b → fenced_if id kept ≡ (if b then fenced id kept else kept)
fenced-can kept id b is = ap (λ c. if c then fenced id kept else kept) is

-- within the bounds it fences the file
pub fencing-does : (kept : Kept) (id : ℕ) (row : FileRow) (change : Change) → change ≡ fencing_as row → IsWithinBounds kept
    → row_of_found (find_file id kept.files) ≡ Some row → applied kept change ≡ fenced id kept
fencing-does kept id row change is within told =
    let here = told-file kept id row told in
    let rev = (found-has (IsFileWithin kept.next) id kept.files here.0 within.files here.1).rev in
    ap (applied kept) (is ∙ ap fencing_as here.2 ∙ same-fencing (row_of here.0) (omega arith))
    ∙ sym (applied-fencing kept (Some here.0) id here.1)
    ∙ ap (fence kept) (sym here.1)

module _ (id : ℕ) (row : FileRow) (change : Change) (is : change ≡ fencing_as row) (can : nat_lt (row.rev + 1) rev_end ≡ true)
    (told between tells : Option Kept) (stays : between ≡ told) (here : ForSome told (λ kept. IsWithinBounds kept
    × (row_of_found (find_file id kept.files) ≡ Some row))) where
  can-now : (kept : Kept) → told ≡ Some kept → can_rise (find_file id kept.files) ≡ true
  can-now kept e = can-told kept id row (here kept e).1 ∙ can

  does : (kept : Kept) → told ≡ Some kept → applied kept change ≡ fenced_if id kept
  does kept e = fencing-does kept id row change is (here kept e).0 (here kept e).1 ∙ sym (fenced-can kept id true (can-now kept e))

  pub fences-by : (before middle now : ℕ) (done : Unit {0}) → middle ≡ before → Commits (Ok done) change between tells middle now
      → Fences id (Ok true) told tells before now
  fences-by before middle now done same h =
      (λ kept e. (sym (can-now kept e), h.0 ∙ ap (told_after change) (stays ∙ e) ∙ ap (λ k. Some k) (does kept e)), h.1 ∙ same)

  pub leaves-by : (A B : Type 0) (found : Option Kept) (kept : Kept) → told ≡ Some kept → A ⊎ B → (A → found ≡ Some kept)
      → (B → (found ≡ Some kept) ⊎ (found ≡ Some (applied kept change))) → (found ≡ Some kept) ⊎ (found ≡ Some (fenced_if id kept))
  leaves-by A B found kept e (inl a) f g = inl (f a)
  leaves-by A B found kept e (inr b) f g = by (g b)
    where
      by : (found ≡ Some kept) ⊎ (found ≡ Some (applied kept change)) → (found ≡ Some kept) ⊎ (found ≡ Some (fenced_if id kept))
      by (inl h) = inl h
      by (inr h) = inr (h ∙ ap (λ k. Some k) (does kept e))

-- a row is due where a key says so
pub due-there : (key : RowKey) (now : ℕ) (rows : List Row) → IsDueBy key now rows → find_row key.file key.host rows ≡ None → ⊥
due-there key now rows due none =
    let gone : find (is_due now) rows ≡ None = sym due.there ∙ none in
    let bad : None ≡ Some key = sym (ap (option_map key_of) gone) ∙ due.first in
    cc

-- what is told of it
pub due-told : (key : RowKey) (now : ℕ) (rows : List Row) (row : Row) (told : Fence) → IsDueBy key now rows → find_row key.file key.host rows
    ≡ Some row → told ≡ fence_of row now → IfSome (find (is_due now) rows) (λ r. told ≡ fence_of r now)
due-told key now rows row told due found is = subst (λ o. IfSome o (λ r. told ≡ fence_of r now)) (sym (sym due.there ∙ found)) is
