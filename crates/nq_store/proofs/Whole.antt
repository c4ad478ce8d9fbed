-- A change, whole: what its ranges make of an image.
use Rattle.std.proofs.Common.{◌≡◌, ◌≢◌, ◌≤◌, ◌<◌, ◌+◌, ◌==◌, ℕ, suc, Bool, true, false, List, [], ◌++◌, Option, Some, None, take, drop, length}
use Rattle.std.proofs.Common.{get_or, if◌then◌else◌, refl, sym, ap, subst, ◌∙◌, arith}
use Rattle.std.specs.List.{All}
use Rattle.std.specs.Prelude.{IfSome, IsSome, slice_set}
use Rattle.std.proofs.lemmas.Bool.Decides.{nat_tests}
use Rattle.std.proofs.lemmas.List.Elements.{All-from_get_or}
use Rattle.nq_base.specs.Name.{IsName}
use Rattle.nq_base.specs.declared.BlockChange.{BlockChange}
use Rattle.nq_base.specs.declared.Change.{Change}
use Rattle.nq_base.specs.declared.FileRow.{FileRow}
use Rattle.nq_base.specs.declared.Heads.{Heads}
use Rattle.nq_base.specs.declared.HostChange.{HostChange}
use Rattle.nq_base.specs.declared.HostRow.{HostRow}
use Rattle.nq_image.specs.Image.{no_marks}
use Rattle.nq_image.specs.Layout.{piece}
use Rattle.nq_image.specs.Standing.{AreDistinct, PlacedFile, Standing, Stands, blocks_in, files_in, found_of, front_for, kept_at, marks_with, row_at}
use Rattle.nq_image.specs.Standing.{row_blocks, with_rows as files_of_rows}
use Rattle.nq_image.proofs.Changing.{first-id}
use Rattle.nq_image.proofs.Owning.{rows-of, standing-apart}
use Rattle.nq_image.proofs.Parting.{parts-of}
use Rattle.nq_image.proofs.Sorting.{OfRow}
use Rattle.nq_model.specs.protocol.Change.{AreHeadsWithin, IsHostWithin, FitsFile, FitsRemoval, HasBlock, IsBody, IsRowOf, RaisesNext, blocks_with, files_with}
use Rattle.nq_model.specs.protocol.Change.{files_without, heads_of, heads_with, hosts_with, kept_as, with_file}
use Rattle.nq_model.specs.protocol.Kept.{File, Kept, blocks_in_all, find_file, find_name, with_files}
use Rattle.nq_plan.specs.Finding.{blocks_of, file_in, slot_of}
use Rattle.nq_plan.specs.Held.{HeldTables, IsHeldOf}
use Rattle.nq_plan.specs.Placing.{IsPlacedFor}
use Rattle.nq_plan.specs.Ranges.{blocks_then, body_ranges, heads_ranges, host_ranges, placed_ranges, ranges_of, removal_ranges, removed_ranges}
use Rattle.nq_plan.specs.Settling.{marked_all, with_file_at, with_file_if, with_rows, without, without_at, without_slot}
use Rattle.nq_plan.specs.declared.placing.Placed.{Placed}
use Rattle.nq_disk.specs.Ranges.{applied}
use Rattle.nq_store.specs.Changing.{CanBeWritten, HasZeros, IsWritten, new_blocks}
use Rattle.nq_store.proofs.BlockStep.{IsBlockEnd, IsOf, block-end, of-known, of-other, of-placed, removal-end}
use Rattle.nq_store.proofs.FileStep.{IsFitRow, IsNewRow, file-end, known-here, own-row-id}
use Rattle.nq_store.proofs.Files.{each-file, none-at, numbered-at, unknown-files}
use Rattle.nq_store.proofs.Filing.{blocks-here, blocks-with}
use Rattle.nq_store.proofs.Marks.{marks-then}
use Rattle.nq_store.proofs.Seats.{below-of, once-of}
use Rattle.nq_store.proofs.Steps.{IsStep, heads-step, host-step}
use Rattle.nq_store.proofs.ImagesWriting.{applied-both}

-- ---- ids are below the next one

pub ids-below : (bytes : List ℕ) (s : Standing) → Stands bytes s → All (λ f. f.id < s.heads.next) (files_in s)
ids-below bytes s stands =
    each-file (λ f. f.id < s.heads.next) s (All-from_get_or (OfRow (λ f. f.id < s.heads.next)) s.rows None (λ i lt. each i lt (get_or s.rows i None) refl))
  where
    each : (i : ℕ) → i < length s.rows → (row : Option PlacedFile) → get_or s.rows i None ≡ row → OfRow (λ f. f.id < s.heads.next) row
    each i lt None is = tt
    each i lt (Some f) is =
        let number = numbered-at s.rows 0 i f stands.numbered is in
        let e : f.slot ≡ i = omega (arith, number) in
        let At : ℕ → Type 0 = λ n. row_at s n ≡ Some f in
        let can = standing-apart bytes s f stands (omega (arith, e, lt, rows-of bytes s stands)) (subst At (sym e) is) in
        can.below_next

next-from-one : (bytes : List ℕ) (s : Standing) → Stands bytes s → 1 ≤ s.heads.next
next-from-one bytes s stands =
    let image = parts-of bytes (found_of s) stands.found in
    first-id (piece 0 64 bytes) (front_for s.heads s.tables) image.parts.front image.parts.front_is

next-of : (bytes : List ℕ) (s : Standing) → (kept_at bytes s).next ≡ s.heads.next
unfolding kept_at
next-of bytes s = refl

heads-are : (bytes : List ℕ) (s : Standing) → heads_of (kept_at bytes s) ≡ s.heads
unfolding kept_at
heads-are bytes s = refl

hosts-are : (bytes : List ℕ) (s : Standing) → (kept_at bytes s).hosts ≡ s.hosts
unfolding kept_at
hosts-are bytes s = refl

-- ---- kept states by their parts

files-as : (files : List File) (hosts : List HostRow) (heads : Heads) → (kept_as files hosts heads).files ≡ files
unfolding kept_as
files-as files hosts heads = refl

with-files-as : (files more : List File) (hosts : List HostRow) (heads : Heads) → with_files (kept_as files hosts heads) more ≡ kept_as more hosts heads
unfolding kept_as with_files
with-files-as files more hosts heads = refl

host-as : (files : List File) (hosts : List HostRow) (heads : Heads) (change : Option HostChange) → kept_as (kept_as files hosts heads).files
    (hosts_with change (kept_as files hosts heads).hosts) (heads_of (kept_as files hosts heads)) ≡ kept_as files (hosts_with change hosts) heads
unfolding kept_as
host-as files hosts heads change = refl

raised : (heads : Option Heads) (k : Kept) (old : Heads) (n : ℕ) → RaisesNext k heads → IfSome heads (AreHeadsWithin n)
    → ((heads_with heads old).next ≡ k.next + 1) × ((heads_with heads old).next ≤ 2147483648)
raised None k old n raises within = absurd raises
raised (Some heads) k old n raises within = (raises, within.few_ids)

-- ---- the file of a change fits

fit-row : (before : List ℕ) (s0 : Standing) (heads : Option Heads) (row : FileRow) (bytes : List ℕ) (s : Standing) → Stands before s0 → s.rows
    ≡ s0.rows → s.heads ≡ heads_with heads s0.heads → (kept_at bytes s).files ≡ (kept_at before s0).files
    → FitsFile (kept_at before s0) heads row → IfSome heads (AreHeadsWithin s0.heads.next) → IsName row.name × (row.rev < 2305843009213693952)
    → IsFitRow bytes s row
fit-row before s0 heads row bytes s stands same_rows same_heads same fits within right =
    let k = kept_at before s0 in
    let Find : List File → Type 0 = λ l. IsRowOf k heads row (find_file row.id l) in
    let of = subst Find (sym same) fits.of_file in
    let Few : List File → Type 0 = λ l. blocks_in_all (with_file row l) ≤ 16384 in
    let RowOf : Option File → Type 0 = λ o. IsRowOf k heads row o in
    record {
      new = λ none. new-row (subst RowOf none of);
      same = λ f found. subst RowOf found of;
      some = fits.not_empty;
      short = fits.short;
      few = subst Few (sym same) fits.few_blocks;
      name = right.0;
      rev = let r = right.1 in omega (arith, r);
    }
  where
    new-row : (row.id ≡ (kept_at before s0).next) × (find_name row.name (kept_at before s0).files ≡ None) × RaisesNext (kept_at before s0) heads
        → IsNewRow bytes s row
    new-row is =
        let up = raised heads (kept_at before s0) s0.heads s0.heads.next is.2 within in
        let next = next-of before s0 in
        let own = is.0 in
        let e = ap (λ (h : Heads). h.next) same_heads in
        let a = up.0 in
        let b = up.1 in
        let one = next-from-one before s0 stands in
        let Name : List File → Type 0 = λ l. find_name row.name l ≡ None in
        let Files : List (Option PlacedFile) → Type 0 = λ rows. All (λ f. f.id < row.id) (files_of_rows [] rows) in
        record {
          from_one = omega (arith, own, next, one);
          below_next = omega (arith, own, e, a);
          few_ids = omega (arith, e, b);
          last = subst Files (sym same_rows) (λ i d lt. let below = ids-below before s0 stands i d lt in omega (arith, below, own, next));
          unnamed = subst Name (sym same) is.1;
        }

-- ---- the parts of one change

module _ (bytes : List ℕ) (held : HeldTables) (change : Change) (is_held : IsHeldOf bytes held)
    (fit_host : IfSome change.host (λ h. h.host < 64)) (right_host : IfSome change.host (λ h. IsHostWithin h.row)) (right_heads : IfSome change.heads
    (AreHeadsWithin held.standing.heads.next)) (fresh : List ℕ) where
  abbrev s0 : Standing
  s0 = held.standing

  abbrev heads : Heads
  heads = heads_with change.heads s0.heads

  abbrev hosts : List HostRow
  hosts = hosts_with change.host s0.hosts

  abbrev s2 : Standing
  s2 = record s0 { heads = heads; hosts = hosts }

  abbrev k0 : Kept
  k0 = kept_at bytes s0

  abbrev b1 : List ℕ
  b1 = applied (heads_ranges change.heads) bytes

  abbrev b2 : List ℕ
  b2 = applied (host_ranges change.host) b1

  abbrev k2 : Kept
  k2 = kept_as k0.files hosts heads

  pub front-step : IsStep bytes b2 fresh s2 k2
  front-step =
      let one = heads-step change.heads s0 bytes fresh is_held.stands right_heads in
      let two = host-step change.host (record s0 { heads = heads }) b1 fresh one.stands fit_host right_host in
      let With : Kept → Kept = λ k. kept_as k.files (hosts_with change.host k.hosts) (heads_of k) in
      let kept_one = one.kept
      ∙ ap (λ (h : List HostRow). kept_as k0.files h (heads_with change.heads (heads_of k0))) (hosts-are bytes s0)
      ∙ ap (λ (h : Heads). kept_as k0.files s0.hosts (heads_with change.heads h)) (heads-are bytes s0) in
      record {
        stands = two.stands;
        kept = two.kept ∙ ap With kept_one ∙ host-as k0.files s0.hosts heads change.host;
        zeros = λ all. two.zeros (one.zeros all);
        no_shorter = let a = one.no_shorter in let b = two.no_shorter in omega arith;
      }

  files-two : (kept_at b2 s2).files ≡ k0.files
  files-two = ap (λ (k : Kept). k.files) front-step.kept ∙ files-as k0.files hosts heads

  abbrev held2 : HeldTables
  held2 = with_rows held change

  -- ---- the file

  pub record IsFileEnd (row : Option FileRow) (placed : Option Placed) (new : List ℕ) : Type 0 where
    pub stands : Stands new (with_file_if held2 placed).standing
    pub kept : kept_at new (with_file_if held2 placed).standing ≡ kept_as (files_with row k0.files) hosts heads
    pub marks : (with_file_if held2 placed).marks ≡ marks_with (no_marks 16641) (blocks_in (with_file_if held2 placed).standing.rows)
    pub no_shorter : length bytes ≤ length new

  files-with-same : (row : Option FileRow) → with_files (kept_at b2 s2) (files_with row (kept_at b2 s2).files) ≡ kept_as (files_with row k0.files) hosts heads
  files-with-same row =
      ap (λ (l : List File). with_files (kept_at b2 s2) (files_with row l)) files-two
      ∙ ap (λ (k : Kept). with_files k (files_with row k0.files)) front-step.kept
      ∙ with-files-as k0.files (files_with row k0.files) hosts heads

  file-marks : (row : FileRow) (placed : Placed) (new : List ℕ)
      → Stands new (record s2 { rows = slice_set s0.rows placed.file.slot (Some placed.file) }) → placed.file.slot < 256 → blocks_of s0 row.id
      ≡ row_blocks (row_at s0 placed.file.slot) → placed.file.id ≡ row.id
      → marked_all true placed.file.blocks (marked_all false (row_blocks (file_in s0.rows (slot_of placed.file.id s0.rows))) held.marks)
      ≡ marks_with (no_marks 16641) (blocks_in (slice_set s0.rows placed.file.slot (Some placed.file)))
  file-marks row placed new stands lt here own =
      let slot = placed.file.slot in
      let in_rows : slot < length s0.rows = omega (arith, lt, rows-of bytes s0 is_held.stands) in
      let front = blocks_in (take slot s0.rows) in
      let mine = row_blocks (row_at s0 slot) in
      let rest = blocks_in (drop (suc slot) s0.rows) in
      let now = blocks-here s0 slot in_rows in
      let after = blocks-with s0 slot (Some placed.file) in_rows in
      let were = ap (λ (id : ℕ). row_blocks (file_in s0.rows (slot_of id s0.rows))) own ∙ here in
      let once = once-of bytes s0 is_held.stands in
      let Below : List ℕ → Type 0 = λ l. All (λ b. b < length (no_marks 16641)) l in
      ap (λ (l : List ℕ). marked_all true placed.file.blocks (marked_all false l held.marks)) were
      ∙ marks-then front mine rest placed.file.blocks held.marks (is_held.marks ∙ ap (marks_with (no_marks 16641)) now) (subst AreDistinct now once.distinct)
      (subst Below now (below-of bytes s0 is_held.stands))
      (subst Below after (below-of new (record s2 { rows = slice_set s0.rows slot (Some placed.file) }) stands))
      ∙ ap (marks_with (no_marks 16641)) (sym after)

  pub file-part : (row : Option FileRow) (placed : Option Placed) → IsPlacedFor held row placed → IfSome row (FitsFile k0 change.heads)
      → IfSome row (λ r. IsName r.name × (r.rev < 2305843009213693952)) → All (HasZeros bytes) fresh → fresh ≡ new_blocks placed
      → IsFileEnd row placed (applied (placed_ranges s0 row placed) b2)
  unfolding with_rows with_file_at
  file-part None None is fit right zeros same = record {
    stands = front-step.stands;
    kept = front-step.kept;
    marks = is_held.marks;
    no_shorter =
        front-step.no_shorter;
  }
  file-part None (Some placed) is fit right zeros same = absurd is
  file-part (Some row) None is fit right zeros same = absurd is
  file-part (Some row) (Some placed) is fit right zeros same =
      let fits = fit-row bytes s0 change.heads row b2 s2 is_held.stands refl refl files-two fit right_heads right in
      let Zeros : List ℕ → Type 0 = λ l. All (HasZeros b2) l in
      let has = subst Zeros same (front-step.zeros zeros) in
      let end = file-end bytes held is_held heads hosts b2 front-step.stands row placed is fits has in
      let here = known-here bytes held is_held heads hosts b2 front-step.stands row placed is fits has in
      let own = own-row-id bytes held is_held heads hosts b2 front-step.stands row placed is fits has in
      record {
        stands = end.stands;
        kept = end.kept ∙ files-with-same (Some row);
        marks = file-marks row placed _ end.stands is.within here own;
        no_shorter = let a = front-step.no_shorter in let b = end.no_shorter in omega arith;
      }

  -- ---- the block

  pub record IsBlockPart (row : Option FileRow) (placed : Option Placed) (block : Option BlockChange) (new : List ℕ) : Type 0 where
    pub stands : Stands new (with_file_if held2 placed).standing
    pub kept : kept_at new (with_file_if held2 placed).standing ≡ kept_as (blocks_with block (files_with row k0.files)) hosts heads
    pub no_shorter : length bytes ≤ length new

  whose : (row : Option FileRow) (placed : Option Placed) (old : List ℕ) → IsPlacedFor held row placed
      → Stands old (with_file_if held2 placed).standing → (id k : ℕ) → HasBlock k (find_file id (kept_at old (with_file_if held2 placed).standing).files)
      → (file : PlacedFile) × IsOf (with_file_if held2 placed).standing id (blocks_then s0 placed id) file
  unfolding with_rows with_file_at
  whose None None old is stands id k has = of-known old s2 id k stands has
  whose None (Some placed) old is stands id k has = absurd is
  whose (Some row) None old is stands id k has = absurd is
  whose (Some row) (Some placed) old is stands id k has = by (placed.file.id == id) refl
    where
      by : (b : Bool) → (placed.file.id == id) ≡ b → (file : PlacedFile)
          × IsOf (record s2 { rows = slice_set s0.rows placed.file.slot (Some placed.file) }) id (if b then placed.file.blocks
          else row_blocks (file_in s0.rows (slot_of id s0.rows))) file
      by true test = let e : placed.file.id ≡ id = grind (arith, nat_tests) in (
        placed.file,
        of-placed bytes held heads hosts row placed
            is_held.stands is id e,
      )
      by false test = let ne : placed.file.id ≢ id = grind (arith, nat_tests) in of-other bytes held heads hosts row placed is_held.stands is old id k
          stands ne has

  block-done : (row : Option FileRow) (placed : Option Placed) (change : BlockChange) (old new : List ℕ) → IsFileEnd row placed old
      → IsBlockEnd old (with_file_if held2 placed).standing change new → IsBlockPart row placed (Some change) new
  block-done row placed change old new file end =
      let F = files_with row k0.files in
      let t = (with_file_if held2 placed).standing in
      let files = ap (λ (k : Kept). k.files) file.kept ∙ files-as F hosts heads in
      record {
        stands = end.stands;
        kept = end.kept
            ∙ ap (λ (l : List File). with_files (kept_at old t) (blocks_with (Some change) l)) files
            ∙ ap (λ (k : Kept). with_files k (blocks_with (Some change) F)) file.kept
            ∙ with-files-as F (blocks_with (Some change) F) hosts heads;
        no_shorter = let a = file.no_shorter in let b = end.no_shorter in omega arith;
      }

  pub block-part : (row : Option FileRow) (placed : Option Placed) (block : Option BlockChange) (old : List ℕ) → IsPlacedFor held row placed
      → IsFileEnd row placed old
      → IfSome block (λ b. HasBlock b.block (find_file b.file (files_with row k0.files))) → IfSome block (λ b. IsBody b.body) → IsBlockPart row placed
      block (applied (body_ranges s0 placed block) old)
  block-part row placed None old is file fits right = record { stands = file.stands; kept = file.kept; no_shorter = file.no_shorter }
  block-part row placed (Some change) old is file fits right =
      let t = (with_file_if held2 placed).standing in
      let files = ap (λ (k : Kept). k.files) file.kept ∙ files-as (files_with row k0.files) hosts heads in
      let Has : List File → Type 0 = λ l. HasBlock change.block (find_file change.file l) in
      let has = subst Has (sym files) fits in
      let own = whose row placed old is file.stands change.file change.block has in
      block-done row placed change old _ file (block-end old t file.stands change (blocks_then s0 placed change.file) own.0 own.1 has right)

  -- ---- a file that goes

  pub record IsRemoved (h : HeldTables) (files : List File) (new : List ℕ) : Type 0 where
    pub stands : Stands new h.standing
    pub kept : kept_at new h.standing ≡ kept_as files hosts heads
    pub marks : h.marks ≡ marks_with (no_marks 16641) (blocks_in h.standing.rows)

  removed-marks : (slot : ℕ) → slot < 256 → (new : List ℕ) → Stands new (record s2 { rows = slice_set s0.rows slot None })
      → marked_all false (row_blocks (row_at s0 slot)) held.marks ≡ marks_with (no_marks 16641) (blocks_in (slice_set s0.rows slot None))
  removed-marks slot lt new stands =
      let in_rows : slot < length s0.rows = omega (arith, lt, rows-of bytes s0 is_held.stands) in
      let front = blocks_in (take slot s0.rows) in
      let mine = row_blocks (row_at s0 slot) in
      let rest = blocks_in (drop (suc slot) s0.rows) in
      let now = blocks-here s0 slot in_rows in
      let after = blocks-with s0 slot None in_rows in
      let once = once-of bytes s0 is_held.stands in
      let Below : List ℕ → Type 0 = λ l. All (λ b. b < length (no_marks 16641)) l in
      marks-then front mine rest [] held.marks (is_held.marks ∙ ap (marks_with (no_marks 16641)) now) (subst AreDistinct now once.distinct)
      (subst Below now (below-of bytes s0 is_held.stands)) (subst Below after (below-of new (record s2 { rows = slice_set s0.rows slot None }) stands))
      ∙ ap (marks_with (no_marks 16641)) (sym after)

  not-kept : (o : Option File) → o ≡ None → IsSome o → ⊥
  not-kept None none some = absurd (cc)
  not-kept (Some f) none some = absurd (cc)

  removed-one : (id : ℕ) (old : List ℕ) → Stands old s2 → kept_at old s2 ≡ k2 → IsSome (find_file id k0.files) → (o : Option ℕ) → slot_of id s0.rows ≡ o
      → IsRemoved (without_at held2 (slot_of id s0.rows)) (files_without (Some id) k0.files) (applied (removal_ranges s0.tables (slot_of id s0.rows)) old)
  unfolding with_rows without_slot
  removed-one id old stands kept some None none =
      let same = ap (λ (k : Kept). k.files) kept ∙ files-as k0.files hosts heads in
      let Find : List File → Type 0 = λ l. find_file id l ≡ None in
      absurd (not-kept (find_file id k0.files) (subst Find same (none-at old s2 id (unknown-files s2 id none))) some)
  removed-one id old stands kept some (Some slot) found =
      let end = removal-end old s2 id slot stands found in
      let same = ap (λ (k : Kept). k.files) kept ∙ files-as k0.files hosts heads in
      let kept_then = end.kept
      ∙ ap (λ (l : List File). with_files (kept_at old s2) (files_without (Some id) l)) same
      ∙ ap (λ (k : Kept). with_files k (files_without (Some id) k0.files)) kept
      ∙ with-files-as k0.files (files_without (Some id) k0.files) hosts heads in
      let Goal : Option ℕ → Type 0 = λ o. IsRemoved (without_at held2 o) (files_without (Some id) k0.files) (applied (removal_ranges s0.tables o) old) in
      subst Goal (sym found) (record { stands = end.stands; kept = kept_then; marks = removed-marks slot end.within _ end.stands })

  pub removal-part : (row : Option FileRow) (placed : Option Placed) (block : Option BlockChange) (removed : Option ℕ) (old : List ℕ)
      → IsPlacedFor held row placed → IsBlockPart row placed block old
      → (with_file_if held2 placed).marks ≡ marks_with (no_marks 16641) (blocks_in (with_file_if held2 placed).standing.rows)
      → IfSome removed (λ id. IsSome (find_file id k0.files) × (row ≡ None) × (block ≡ None))
      → IsRemoved (without (with_file_if held2 placed) removed) (blocks_with block (files_with row (files_without removed k0.files)))
      (applied (removed_ranges s0 removed) old)
  unfolding with_rows
  removal-part row placed block None old is part marks fits = record { stands = part.stands; kept = part.kept; marks = marks }
  removal-part None None None (Some id) old is part marks fits = removed-one id old part.stands part.kept fits.0 (slot_of id s0.rows) refl
  removal-part None None (Some change) (Some id) old is part marks fits = let no = fits.2 in absurd (cc)
  removal-part None (Some placed) block (Some id) old is part marks fits = absurd is
  removal-part (Some row) placed block (Some id) old is part marks fits = let no = fits.1 in absurd (cc)

-- ---- all parts

fits-removal : (k : Kept) (change : Change) (removed : Option ℕ) → IfSome removed (FitsRemoval k change)
    → IfSome removed (λ id. IsSome (find_file id k.files) × (change.file ≡ None) × (change.block ≡ None))
fits-removal k change None fits = tt
fits-removal k change (Some id) fits = (fits.is_kept, fits.no_file, fits.no_block)

-- the ranges of a change, one part after another
parts-of-ranges : (s : Standing) (change : Change) (placed : Option Placed) (bytes : List ℕ)
    → applied (ranges_of s change placed) bytes ≡ applied (removed_ranges s change.removed) (applied (body_ranges s placed change.block)
    (applied (placed_ranges s change.file placed) (applied (host_ranges change.host) (applied (heads_ranges change.heads) bytes))))
parts-of-ranges s change placed bytes =
    let h = heads_ranges change.heads in
    let o = host_ranges change.host in
    let f = placed_ranges s change.file placed in
    let b = body_ranges s placed change.block in
    let r = removed_ranges s change.removed in
    applied-both h (o ++ (f ++ (b ++ r))) bytes
    ∙ applied-both o (f ++ (b ++ r)) (applied h bytes)
    ∙ applied-both f (b ++ r) (applied o (applied h bytes))
    ∙ applied-both b r (applied f (applied o (applied h bytes)))

pub change-is-written : (bytes : List ℕ) (held : HeldTables) (change : Change) (placed : Option Placed) → CanBeWritten bytes held change placed
    → IsWritten bytes (applied (ranges_of held.standing change placed) bytes) held change placed
change-is-written bytes held change placed can =
    let s0 = held.standing in
    let k0 = kept_at bytes s0 in
    let is_held = can.is_held in
    let fits = can.fits in
    let within = can.within in
    let fresh = new_blocks placed in
    let Right : ℕ → Type 0 = λ n. IfSome change.heads (AreHeadsWithin n) in
    let right_heads = subst Right (next-of bytes s0) within.heads in
    let file = file-part bytes held change is_held fits.host within.host right_heads fresh change.file placed can.is_placed fits.file within.file
    can.zeros refl in
    let block = block-part bytes held change is_held fits.host within.host right_heads fresh change.file placed change.block _ can.is_placed file
    fits.block within.block in
    let all = removal-part bytes held change is_held fits.host within.host right_heads fresh change.file placed change.block change.removed _
    can.is_placed block file.marks (fits-removal k0 change change.removed fits.removed) in
    let files = blocks_with change.block (files_with change.file (files_without change.removed k0.files)) in
    let kept = all.kept
    ∙ ap (λ (h : List HostRow). kept_as files (hosts_with change.host h) (heads_with change.heads s0.heads)) (sym (hosts-are bytes s0))
    ∙ ap (λ (h : Heads). kept_as files (hosts_with change.host k0.hosts) (heads_with change.heads h)) (sym (heads-are bytes s0)) in
    let Written : List ℕ → Type 0 = λ b. IsWritten bytes b held change placed in
    subst Written (sym (parts-of-ranges s0 change placed bytes)) (record { is_held = record { stands = all.stands; marks = all.marks }; kept = kept })
