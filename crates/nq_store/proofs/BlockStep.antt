-- The block of a change, and the file that it takes away.
use Rattle.std.proofs.Common.{◌≡◌, ◌≢◌, ◌≤◌, ◌<◌, ℕ, zero, suc, true, List, [], ◌∷◌, Option, Some, None, length, get_or, refl, sym, ap, subst, ◌∙◌, arith}
use Rattle.std.specs.List.{All}
use Rattle.std.specs.Prelude.{slice_get}
use Rattle.std.proofs.lemmas.List.{get_or-set_other, get_or-set_same, length-map}
use Rattle.std.proofs.lemmas.List.Elements.{All-get_or, All-set}
use Rattle.nq_base.specs.declared.BlockChange.{BlockChange}
use Rattle.nq_base.specs.declared.FileRow.{FileRow}
use Rattle.nq_base.specs.declared.Heads.{Heads}
use Rattle.nq_base.specs.declared.HostRow.{HostRow}
use Rattle.nq_image.specs.Layout.{block_place}
use Rattle.nq_image.specs.Standing.{IsFileBlock, PlacedFile, Standing, Stands, file_at, kept_at, overwritten, row_at, row_blocks, with_placed}
use Rattle.nq_image.specs.Standing.{with_row_cleared}
use Rattle.nq_image.proofs.Giving.{IsHeld}
use Rattle.nq_image.proofs.Overwriting.{body-written, row-cleared, whole-bodies}
use Rattle.nq_image.proofs.Owning.{body-stands, body-written-kept, removed-kept, rows-of, standing-apart}
use Rattle.nq_image.proofs.Placing.{cleared-stands}
use Rattle.nq_image.proofs.Sorting.{OfRow}
use Rattle.nq_model.specs.protocol.Change.{HasBlock, IsBody, with_block}
use Rattle.nq_model.specs.protocol.Kept.{File, blocks_of, drop_file, find_file, with_files}
use Rattle.nq_plan.specs.Finding.{file_in, slot_of}
use Rattle.nq_plan.specs.Held.{HeldTables}
use Rattle.nq_plan.specs.Placing.{IsPlaced, is_unused, placed_slot}
use Rattle.nq_plan.specs.Ranges.{body_range, removal_ranges}
use Rattle.nq_plan.specs.declared.placing.Placed.{Placed}
use Rattle.nq_disk.specs.Ranges.{applied}
use Rattle.nq_store.proofs.Files.{each-file, found-at, known-file, none-at, position-some, row-has-not, unknown-files}
use Rattle.nq_store.proofs.Filing.{of-row}
use Rattle.nq_store.proofs.ImagesWriting.{cleared-ranges, written-over}

-- ---- the body of a block

slice-at : (xs : List ℕ) (k : ℕ) → k < length xs → slice_get xs k ≡ Some (get_or xs k 0)
slice-at [] k lt = absurd (omega (arith, lt))
slice-at (x ∷ xs) zero lt = refl
slice-at (x ∷ xs) (suc k) lt = slice-at xs k (omega (arith, lt))

blocks-at : (bytes : List ℕ) (f : PlacedFile) → blocks_of (file_at bytes f) ≡ length f.blocks
unfolding file_at
blocks-at bytes f = length-map f.blocks _

-- the file of a block, and where it stands
pub record IsOf (t : Standing) (id : ℕ) (blocks : List ℕ) (file : PlacedFile) : Type 0 where
  pub within : file.slot < 256
  pub at : row_at t file.slot ≡ Some file
  pub own : file.id ≡ id
  pub are : blocks ≡ file.blocks

pub record IsBlockEnd (old : List ℕ) (t : Standing) (change : BlockChange) (new : List ℕ) : Type 0 where
  pub stands : Stands new t
  pub kept : kept_at new t ≡ with_files (kept_at old t) (with_block change (kept_at old t).files)
  pub no_shorter : length old ≤ length new

pub block-end : (old : List ℕ) (t : Standing) → Stands old t → (change : BlockChange) (blocks : List ℕ) (file : PlacedFile) → IsOf t change.file blocks file
    → HasBlock change.block (find_file change.file (kept_at old t).files) → IsBody change.body → IsBlockEnd old t change
    (applied (body_range (slice_get blocks change.block) change.body) old)
block-end old t stands change blocks file is has body =
    let k = change.block in
    let block = get_or file.blocks k 0 in
    let part = change.body in
    let Has : Option File → Type 0 = λ f. HasBlock k f in
    let found = ap (λ (id : ℕ). find_file id (kept_at old t).files) (sym is.own) ∙ found-at old t file stands is.within is.at in
    let lt : k < length file.blocks = let l = subst Has found has in omega (arith, l, blocks-at old file) in
    let can = standing-apart old t file stands is.within is.at in
    let own = All-get_or (IsFileBlock t.tables) file.blocks k 0 lt can.there in
    let in_rows : file.slot < length t.rows = let w = is.within in omega (arith, w, rows-of old t stands) in
    let held = of-row (IsHeld (length old)) t file.slot in_rows (whole-bodies old t stands) in
    let Held : List ℕ → Type 0 = λ l. All (IsHeld (length old)) l in
    let whole = All-get_or (IsHeld (length old)) file.blocks k 0 lt (subst Held (ap row_blocks is.at) held.0) in
    let begins : block_place block ≤ length old = omega (arith, whole) in
    let new = overwritten (block_place block) part old in
    let w = body-written old t stands block part body.size begins own.apart in
    let at = ap (λ (l : List ℕ). slice_get l k) is.are ∙ slice-at file.blocks k lt in
    let ranges = ap (λ (o : Option ℕ). applied (body_range o part) old) at ∙ written-over (block_place block) part old begins in
    let With : ℕ → BlockChange = λ id. record { file = id; block = k; body = part } in
    let End : List ℕ → Type 0 = λ b. IsBlockEnd old t change b in
    subst End (sym ranges) (record {
      stands = body-stands t block part old new stands w;
      kept = body-written-kept t file k block part old new stands is.within is.at lt refl w
          ∙ ap (λ (id : ℕ). with_files (kept_at old t) (with_block (With id) (kept_at old t).files)) is.own;
      no_shorter = w.no_shorter;
    })

-- ---- whose block it is

unused-none : (row : Option PlacedFile) → is_unused row ≡ true → row ≡ None
unused-none None h = refl
unused-none (Some f) h = absurd (cc)

-- in the row that a file gets no other file stands
seat-free : (bytes : List ℕ) (held : HeldTables) (row : FileRow) (placed : Placed) (f : PlacedFile) → Stands bytes held.standing
    → IsPlaced held row placed → row_at held.standing placed.file.slot ≡ Some f → f.id ≡ row.id
seat-free bytes held row placed f stands is at = by (slot_of row.id held.standing.rows) refl
  where
    by : (o : Option ℕ) → slot_of row.id held.standing.rows ≡ o → f.id ≡ row.id
    by None none =
        let p = position-some is_unused held.standing.rows placed.file.slot None (ap (placed_slot held.standing.rows) (sym none) ∙ is.slot) in
        let empty = unused-none (row_at held.standing placed.file.slot) p.passes in
        absurd (cc)
    by (Some n) some =
        let e : n ≡ placed.file.slot = let q : placed_slot held.standing.rows (Some n) ≡ Some placed.file.slot = ap (placed_slot held.standing.rows)
        (sym some) ∙ is.slot in cc in
        let known = known-file bytes held.standing row.id n stands some in
        let At : ℕ → Type 0 = λ i. row_at held.standing i ≡ Some known.0 in
        let here = subst At (known.1.here ∙ e) known.1.at in
        let same_file : f ≡ known.0 = cc in
        ap (λ (g : PlacedFile). g.id) same_file ∙ known.1.own

no-block : (k : ℕ) (o : Option File) → o ≡ None → HasBlock k o → ⊥
no-block k o none has = let Has : Option File → Type 0 = λ f. HasBlock k f in subst Has none has

-- a file of an image, whose rows stay
pub of-known : (bytes : List ℕ) (t : Standing) (id k : ℕ) → Stands bytes t → HasBlock k (find_file id (kept_at bytes t).files) → (file : PlacedFile)
    × IsOf t id (row_blocks (file_in t.rows (slot_of id t.rows))) file
of-known bytes t id k stands has = by (slot_of id t.rows) refl
  where
    by : (o : Option ℕ) → slot_of id t.rows ≡ o → (file : PlacedFile) × IsOf t id (row_blocks (file_in t.rows (slot_of id t.rows))) file
    by None none = absurd (no-block k (find_file id (kept_at bytes t).files) (none-at bytes t id (unknown-files t id none)) has)
    by (Some slot) some =
        let known = known-file bytes t id slot stands some in
        let h = known.1 in (
          known.0,
          record {
            within = h.within;
            at = h.at;
            own = h.own;
            are = ap (λ (o : Option ℕ). row_blocks (file_in t.rows o)) some ∙ ap (λ (n : ℕ). row_blocks (row_at t n)) (sym h.here) ∙ ap row_blocks h.at;
          },
        )

-- a file of an image in which another one comes to stand
module _ (before : List ℕ) (held : HeldTables) (heads : Heads) (hosts : List HostRow) (row : FileRow) (placed : Placed)
    (stands : Stands before held.standing) (is : IsPlaced held row placed) where
  abbrev s : Standing
  s = held.standing

  abbrev slot : ℕ
  slot = placed.file.slot

  abbrev pub t : Standing
  t = with_placed (record s { heads = heads; hosts = hosts }) slot (Some placed.file)

  own-id : placed.file.id ≡ row.id
  own-id = ap (λ (f : PlacedFile). f.id) is.file

  in-rows : slot < length s.rows
  in-rows = let lt = is.within in omega (arith, lt, rows-of before s stands)

  pub of-other : (now : List ℕ) (id k : ℕ) → Stands now t → placed.file.id ≢ id → HasBlock k (find_file id (kept_at now t).files)
      → (file : PlacedFile) × IsOf t id (row_blocks (file_in s.rows (slot_of id s.rows))) file
  of-other now id k stands_now ne has = by (slot_of id s.rows) refl
    where
      by : (o : Option ℕ) → slot_of id s.rows ≡ o → (file : PlacedFile) × IsOf t id (row_blocks (file_in s.rows (slot_of id s.rows))) file
      by None none =
          let rows = row-has-not id s.rows none in
          let all = each-file (λ f. f.id ≢ id) t (All-set (OfRow (λ f. f.id ≢ id)) s.rows slot (Some placed.file) ne rows) in
          absurd (no-block k (find_file id (kept_at now t).files) (none-at now t id all) has)
      by (Some n) some =
          let known = known-file before s id n stands some in
          let h = known.1 in
          let other : known.0.slot ≢ slot = λ e.
          let At : ℕ → Type 0 = λ i. row_at s i ≡ Some known.0 in
          let here = seat-free before held row placed known.0 stands is (subst At e h.at) in
          ne (own-id ∙ sym here ∙ h.own) in (
            known.0,
            record {
              within = h.within;
              at = get_or-set_other s.rows slot known.0.slot (Some placed.file) None other ∙ h.at;
              own = h.own;
              are = ap (λ (o : Option ℕ). row_blocks (file_in s.rows o)) some ∙ ap (λ (m : ℕ). row_blocks (row_at s m)) (sym h.here) ∙ ap row_blocks h.at;
            },
          )

  pub of-placed : (id : ℕ) → placed.file.id ≡ id → IsOf t id placed.file.blocks placed.file
  of-placed id own = record { within = is.within; at = get_or-set_same s.rows slot (Some placed.file) None in-rows; own = own; are = refl }

-- ---- a file that goes

pub record IsRemovalEnd (old : List ℕ) (t : Standing) (id slot : ℕ) (new : List ℕ) : Type 0 where
  pub stands : Stands new (with_placed t slot None)
  pub kept : kept_at new (with_placed t slot None) ≡ with_files (kept_at old t) (drop_file id (kept_at old t).files)
  pub no_shorter : length old ≤ length new
  pub within : slot < 256

pub removal-end : (old : List ℕ) (t : Standing) (id slot : ℕ) → Stands old t → slot_of id t.rows ≡ Some slot → IsRemovalEnd old t id slot
    (applied (removal_ranges t.tables (Some slot)) old)
removal-end old t id slot stands some =
    let known = known-file old t id slot stands some in
    let was = known.0 in
    let h = known.1 in
    let lt : slot < 256 = let w = h.within in let e = h.here in omega (arith, w, e) in
    let new = with_row_cleared t slot old in
    let w = row-cleared old t stands slot lt in
    let Cleared : ℕ → Type 0 = λ n. kept_at (with_row_cleared t n old) (with_placed t n None) ≡ with_files (kept_at old t)
    (drop_file id (kept_at old t).files) in
    let gone = removed-kept t was old (with_row_cleared t was.slot old) stands h.within h.at (row-cleared old t stands was.slot h.within)
    ∙ ap (λ (i : ℕ). with_files (kept_at old t) (drop_file i (kept_at old t).files)) h.own in
    let End : List ℕ → Type 0 = λ b. IsRemovalEnd old t id slot b in
    subst End (sym (cleared-ranges old t stands slot lt)) (record {
      stands = cleared-stands t slot old new lt stands w;
      kept = subst Cleared h.here gone;
      no_shorter = w.no_shorter;
      within = lt;
    })
