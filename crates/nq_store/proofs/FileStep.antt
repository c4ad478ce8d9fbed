-- The file of a change, which comes to stand somewhere.
use Rattle.std.proofs.Common.{◌≡◌, ◌≢◌, ◌≤◌, ◌<◌, ◌^◌, ◌+◌, ◌-◌, ◌*◌, ◌==◌, ℕ, suc, Bool, true, false, List, [], ◌∷◌, ◌++◌, Option, Some, None, take}
use Rattle.std.proofs.Common.{drop, length, if◌then◌else◌, refl, sym, ap, subst, ◌∙◌, arith, length-append}
use Rattle.std.specs.List.{All}
use Rattle.std.proofs.lemmas.Bool.Decides.{nat_tests}
use Rattle.std.proofs.lemmas.List.{append-nil, length-take, take_all}
use Rattle.std.proofs.lemmas.List.Elements.{All-append, All-nil, All-drop, All-same, All-take, All-weaker}
use Rattle.nq_base.specs.Name.{IsName}
use Rattle.nq_base.specs.declared.FileRow.{FileRow}
use Rattle.nq_base.specs.declared.Heads.{Heads}
use Rattle.nq_base.specs.declared.HostRow.{HostRow}
use Rattle.nq_image.specs.Kept.{body_in}
use Rattle.nq_image.specs.Standing.{AreDistinct, CanStand, IsApartFrom, IsFileBlock, IsNoneOf, PlacedFile, Standing, Stands, blocks_in, file_at}
use Rattle.nq_image.specs.Standing.{files_in, kept_at, others, overwritten, row_at, row_blocks, row_for, with_file_written, with_placed}
use Rattle.nq_image.specs.Writing.{row_bytes}
use Rattle.nq_image.proofs.Overwriting.{long-enough}
use Rattle.nq_image.proofs.Owning.{rows-of, standing-apart}
use Rattle.nq_image.proofs.Retaining.{new-kept, same-kept}
use Rattle.nq_image.proofs.Sorting.{OfRow}
use Rattle.nq_model.specs.protocol.Change.{with_file}
use Rattle.nq_model.specs.protocol.Kept.{File, Kept, blocks_in_all, find_file, find_name, with_files}
use Rattle.nq_plan.specs.Finding.{blocks_of, file_in, row_if, row_of, slot_of}
use Rattle.nq_plan.specs.Held.{HeldTables, IsHeldOf}
use Rattle.nq_plan.specs.Placing.{IsPlaced, free_blocks, is_unused, placed_slot}
use Rattle.nq_plan.specs.Ranges.{file_ranges, whole_ranges, row_range}
use Rattle.nq_plan.specs.declared.placing.Placed.{Placed}
use Rattle.nq_disk.specs.Ranges.{applied}
use Rattle.nq_store.specs.Changing.{HasZeros, new_blocks}
use Rattle.nq_store.proofs.Files.{HasId, each-row, found-at, known-file, name-of, none-at, position-some, unknown-files, unnamed-files}
use Rattle.nq_store.proofs.Filing.{AreOwn, IsFiled, IsRight, IsSeated, can-stand, has-bodies, new-filed, row-filed, same-filed}
use Rattle.nq_store.proofs.Seats.{IsNew, free-are-new, new-blocks-are}
use Rattle.nq_store.proofs.ImagesWriting.{file-ranges, written-over}

-- what is known of a file that is new
pub record IsNewRow (bytes : List ℕ) (s : Standing) (row : FileRow) : Type 0 where
  pub from_one : 1 ≤ row.id
  pub below_next : row.id < s.heads.next
  pub few_ids : s.heads.next ≤ 2147483648
  pub last : All (λ f. f.id < row.id) (files_in s)
  pub unnamed : find_name row.name (kept_at bytes s).files ≡ None

-- what is known of the file of a change
pub record IsFitRow (bytes : List ℕ) (s : Standing) (row : FileRow) : Type 0 where
  pub new : find_file row.id (kept_at bytes s).files ≡ None → IsNewRow bytes s row
  pub same : (f : File) → find_file row.id (kept_at bytes s).files ≡ Some f → row.name ≡ f.name
  pub some : 1 ≤ row.blocks
  pub short : row.blocks ≤ 1024
  pub few : blocks_in_all (with_file row (kept_at bytes s).files) ≤ 16384
  pub name : IsName row.name
  pub rev : row.rev < 2 ^ 61

unused-row : (row : Option PlacedFile) → is_unused row ≡ true → row ≡ None
unused-row None h = refl
unused-row (Some f) h = absurd (cc)

no-more : (xs : List ℕ) → length xs ≡ 0 → xs ≡ []
no-more [] is = refl
no-more (x ∷ xs) is = absurd (omega (arith, is))

module _ (before : List ℕ) (held : HeldTables) (is_held : IsHeldOf before held) (heads : Heads) (hosts : List HostRow) where
  -- the image in which the file comes to stand, once the numbers and a host were written
  abbrev pub now : Standing
  now = record held.standing { heads = heads; hosts = hosts }

  -- what the ranges make of the image
  pub record IsEnd (bytes : List ℕ) (row : FileRow) (file : PlacedFile) (new : List ℕ) : Type 0 where
    pub stands : Stands new (with_placed now file.slot (Some file))
    pub kept : kept_at new (with_placed now file.slot (Some file)) ≡ with_files (kept_at bytes now) (with_file row (kept_at bytes now).files)
    pub no_shorter : length bytes ≤ length new

  module _ (bytes : List ℕ) (stands : Stands bytes now) (row : FileRow) (placed : Placed) (is : IsPlaced held row placed)
      (fit : IsFitRow bytes now row) (all_zeros : All (HasZeros bytes) (new_blocks (Some placed))) where
    abbrev s : Standing
    s = now

    abbrev file : PlacedFile
    file = placed.file

    abbrev known : List ℕ
    known = blocks_of held.standing row.id

    abbrev fresh : List ℕ
    fresh = free_blocks held (row.blocks - length known)

    own-row : row_for file ≡ row
    own-row =
        let With : ℕ → FileRow = λ n. record { id = row.id; name = row.name; blocks = n; rev = row.rev } in
        let From : PlacedFile → FileRow = λ f. record { id = f.id; name = f.name; blocks = length file.blocks; rev = f.rev } in
        ap From is.file ∙ ap With is.whole

    own-id : file.id ≡ row.id
    own-id = ap (λ (f : PlacedFile). f.id) is.file

    own-name : file.name ≡ row.name
    own-name = ap (λ (f : PlacedFile). f.name) is.file

    own-rev : file.rev ≡ row.rev
    own-rev = ap (λ (f : PlacedFile). f.rev) is.file

    blocks-are : file.blocks ≡ take row.blocks known ++ fresh
    blocks-are = ap (λ (f : PlacedFile). f.blocks) is.file

    seated : row_blocks (row_at s file.slot) ≡ known → IsSeated bytes s file known fresh
    seated had =
        let new = free-are-new before held is_held (row.blocks - length known) in
        let n = is.whole in
        let Zeros : List ℕ → Type 0 = λ l. All (HasZeros bytes) l in
        record {
          row = is.within;
          had = had;
          blocks = blocks-are ∙ ap (λ (k : ℕ). take k known ++ fresh) (sym n);
          count = omega (arith, n, ap length blocks-are, length-append (take row.blocks known) fresh, length-take row.blocks known);
          distinct = new.distinct;
          new = All-weaker (IsNew held.standing) (IsNew s) (λ b own. record { there = own.there; none = own.none }) fresh new.each;
          zeros = subst Zeros (new-blocks-are before held is_held row placed is) all_zeros;
        }

    same-bodies : (blocks : List ℕ) → All (λ block. body_in bytes block ≡ body_in bytes block) blocks
    same-bodies blocks = λ k d lt. refl

    in-rows : file.slot < length s.rows
    in-rows = let lt = is.within in omega (arith, lt, rows-of bytes s stands)

    few-then : blocks_in_all (with_file (row_for file) (kept_at bytes s).files) ≤ 16384
    few-then = let Few : FileRow → Type 0 = λ r. blocks_in_all (with_file r (kept_at bytes s).files) ≤ 16384 in subst Few (sym own-row) fit.few

    name-then : IsName file.name
    name-then = subst IsName (sym own-name) fit.name

    rev-then : file.rev < 2 ^ 61
    rev-then = let r = fit.rev in omega (arith, r, own-rev)

    -- the file is written, so its row is
    ended : (known_now : List ℕ) (fresh_now : List ℕ) (seat : IsSeated bytes s file known_now fresh_now) (own : AreOwn bytes s stands file known_now
        fresh_now seat) (new : List ℕ) → IsFiled bytes s stands file known_now fresh_now seat own new → IsEnd bytes row file new
    ended known_now fresh_now seat own new filed =
        let Kept : FileRow → Type 0 = λ r. kept_at new (with_placed s file.slot (Some file)) ≡ with_files (kept_at bytes s)
        (with_file r (kept_at bytes s).files) in
        record { stands = filed.stood; kept = subst Kept own-row filed.kept; no_shorter = filed.no_shorter }

    whole-ranges-are : CanStand s file → applied (whole_ranges s.tables row file) bytes ≡ with_file_written s file bytes
    whole-ranges-are can = ap (λ (r : FileRow). applied (whole_ranges s.tables r file) bytes) (sym own-row) ∙ file-ranges bytes s stands file can

    row-range-is : CanStand s file → applied (row_range file.slot row ∷ []) bytes ≡ overwritten (2112 + 96 * file.slot)
        (row_bytes file.name (length file.blocks) file.rev) bytes
    row-range-is can =
        let lt = is.within in
        ap (λ (r : FileRow). applied (row_range file.slot r ∷ []) bytes) (sym own-row)
        ∙ written-over (2112 + 96 * file.slot) (row_bytes file.name (length file.blocks) file.rev) bytes (omega (arith, lt, long-enough bytes s stands))

    -- ---- a new file

    module _ (none : slot_of row.id s.rows ≡ None) where
      new-row : IsNewRow bytes s row
      new-row = fit.new (none-at bytes s row.id (unknown-files s row.id none))

      row-unused : row_at s file.slot ≡ None
      row-unused =
          let found = position-some is_unused s.rows file.slot None (ap (placed_slot s.rows) (sym none) ∙ is.slot) in
          unused-row (row_at s file.slot) found.passes

      none-known : known ≡ []
      none-known = ap (λ (o : Option ℕ). row_blocks (file_in s.rows o)) none

      new-seat : IsSeated bytes s file known fresh
      new-seat = seated (ap row_blocks row-unused ∙ sym none-known)

      new-own : AreOwn bytes s stands file known fresh new-seat
      new-own = record {
        once = subst AreDistinct (sym none-known) tt;
        there = All-same (IsFileBlock s.tables) known [] none-known (All-nil (IsFileBlock s.tables));
        free = All-same (IsNoneOf (blocks_in (others file.slot s.rows))) known [] none-known (All-nil (IsNoneOf (blocks_in (others file.slot s.rows))));
      }

      last-then : All (λ f. f.id < file.id) (files_in s)
      last-then = λ k d lt. let below = new-row.last k d lt in omega (arith, below, own-id)

      new-apart : All (IsApartFrom file) (others file.slot s.rows)
      new-apart =
          let unnamed = unnamed-files bytes s row.name new-row.unnamed in
          let Apart : PlacedFile → Type 0 = λ f. (f.name ≢ file.name) × (f.id ≢ file.id) in
          let all = each-row Apart s (λ k d lt. (λ e. unnamed k d lt (e ∙ own-name), (let below = last-then k d lt in omega (arith, below)))) in
          let rows = All-weaker (OfRow Apart) (IsApartFrom file) (λ r own. one r own) s.rows all in
          All-append (IsApartFrom file) (take file.slot s.rows) (drop (suc file.slot) s.rows) (All-take (IsApartFrom file) file.slot s.rows rows)
          (All-drop (IsApartFrom file) (suc file.slot) s.rows rows)
        where
          one : (r : Option PlacedFile) → OfRow (λ f. (f.name ≢ file.name) × (f.id ≢ file.id)) r → IsApartFrom file r
          one None own = tt
          one (Some f) own = own

      new-right : IsRight bytes s stands file known fresh new-seat new-own
      new-right =
          let n = is.whole in
          let a = new-row.from_one in
          let b = new-row.below_next in
          let c = new-row.few_ids in
          let d = fit.some in
          let e = fit.short in
          record {
            from_one = omega (arith, a, own-id);
            below_next = omega (arith, b, own-id);
            few_ids = omega (arith, b, c, own-id);
            name = name-then;
            rev = rev-then;
            some = omega (arith, n, d);
            short = omega (arith, n, e);
            apart = new-apart;
            kept = new-kept s file bytes bytes in-rows row-unused new-apart last-then (has-bodies bytes s stands file known fresh new-seat)
                (same-bodies (blocks_in (others file.slot s.rows)));
            few = few-then;
          }

      new-can : CanStand s file
      new-can = can-stand bytes s stands file known fresh new-seat new-own new-right

      pub new-end : IsEnd bytes row file (applied (file_ranges s.tables (row_of held.standing row.id) row file) bytes)
      new-end =
          let End : List ℕ → Type 0 = λ b. IsEnd bytes row file b in
          let ranges = ap (λ (o : Option ℕ). applied (file_ranges s.tables (row_if (file_in s.rows o)) row file) bytes) none in
          subst End (sym (ranges ∙ whole-ranges-are new-can))
          (ended known fresh new-seat new-own (with_file_written s file bytes) (new-filed bytes s stands file known fresh new-seat new-own new-can
          row-unused last-then))

    -- ---- a file that is kept

    module _ (slot : ℕ) (some : slot_of row.id s.rows ≡ Some slot) where
      abbrev was : PlacedFile
      was = (known-file bytes s row.id slot stands some).0

      has : HasId s row.id slot was
      has = (known-file bytes s row.id slot stands some).1

      slot-is : slot ≡ file.slot
      slot-is = let e : placed_slot s.rows (Some slot) ≡ Some file.slot = ap (placed_slot s.rows) (sym some) ∙ is.slot in cc

      was-slot : was.slot ≡ file.slot
      was-slot = has.here ∙ slot-is

      at : row_at s file.slot ≡ Some was
      at = let At : ℕ → Type 0 = λ n. row_at s n ≡ Some was in subst At was-slot has.at

      known-blocks : known ≡ row_blocks (row_at s file.slot)
      known-blocks = ap (λ (o : Option ℕ). row_blocks (file_in s.rows o)) some ∙ ap (λ (n : ℕ). row_blocks (row_at s n)) slot-is

      known-are : known ≡ was.blocks
      known-are = known-blocks ∙ ap row_blocks at

      can-was : CanStand s was
      can-was = standing-apart bytes s was stands has.within has.at

      seat : IsSeated bytes s file known fresh
      seat = seated (sym known-blocks)

      own : AreOwn bytes s stands file known fresh seat
      own =
          let Free : ℕ → Type 0 = λ n. All (IsNoneOf (blocks_in (others n s.rows))) was.blocks in
          record {
            once = subst AreDistinct (sym known-are) can-was.distinct;
            there = All-same (IsFileBlock s.tables) known was.blocks known-are can-was.there;
            free = All-same (IsNoneOf (blocks_in (others file.slot s.rows))) known was.blocks known-are (subst Free was-slot can-was.free);
          }

      same-id : was.id ≡ file.id
      same-id = has.own ∙ sym own-id

      same-name : file.name ≡ was.name
      same-name =
          let found = ap (λ (id : ℕ). find_file id (kept_at bytes s).files) (sym has.own) ∙ found-at bytes s was stands has.within has.at in
          own-name ∙ fit.same (file_at bytes was) found ∙ name-of bytes was

      apart : All (IsApartFrom file) (others file.slot s.rows)
      apart =
          let Apart : ℕ → Type 0 = λ n. All (IsApartFrom was) (others n s.rows) in
          All-weaker (IsApartFrom was) (IsApartFrom file) (λ r other. one r other) (others file.slot s.rows) (subst Apart was-slot can-was.apart)
        where
          one : (r : Option PlacedFile) → IsApartFrom was r → IsApartFrom file r
          one None is_apart = tt
          one (Some other) is_apart = (λ e. is_apart.0 (e ∙ same-name), λ e. is_apart.1 (e ∙ sym same-id))

      right : IsRight bytes s stands file known fresh seat own
      right =
          let n = is.whole in
          let a = can-was.from_one in
          let b = can-was.below_next in
          let c = can-was.few_ids in
          let d = fit.some in
          let e = fit.short in
          record {
            from_one = omega (arith, a, same-id);
            below_next = omega (arith, b, same-id);
            few_ids = omega (arith, c, same-id);
            name = name-then;
            rev = rev-then;
            some = omega (arith, n, d);
            short = omega (arith, n, e);
            apart = apart;
            kept = same-kept s was file bytes bytes in-rows at same-id apart (has-bodies bytes s stands file known fresh seat)
                (same-bodies (blocks_in (others file.slot s.rows)));
            few = few-then;
          }

      can : CanStand s file
      can = can-stand bytes s stands file known fresh seat own right

      row-was : row_of held.standing row.id ≡ Some (row_for was)
      row-was =
          ap (λ (o : Option ℕ). row_if (file_in s.rows o)) some
          ∙ ap (λ (n : ℕ). row_if (row_at s n)) slot-is
          ∙ ap row_if at

      -- it keeps its blocks
      same-blocks : length was.blocks ≡ row.blocks → file.blocks ≡ was.blocks
      same-blocks same =
          let long : length known ≡ row.blocks = ap length known-are ∙ same in
          let none = no-more fresh (let c = seat.count in let n = is.whole in omega (arith, c, n, long)) in
          blocks-are
          ∙ ap (λ (l : List ℕ). l ++ fresh) (take_all row.blocks known (omega (arith, long)))
          ∙ ap (λ (l : List ℕ). known ++ l) none
          ∙ append-nil known
          ∙ known-are

      by-length : (b : Bool) → (length was.blocks == row.blocks) ≡ b → IsEnd bytes row file (applied (if b then row_range file.slot row ∷ []
          else whole_ranges s.tables row file) bytes)
      by-length true test =
          let same : length was.blocks ≡ row.blocks = grind (arith, nat_tests) in
          let End : List ℕ → Type 0 = λ b. IsEnd bytes row file b in
          subst End (sym (row-range-is can))
          (ended known fresh seat own (overwritten (2112 + 96 * file.slot) (row_bytes file.name (length file.blocks) file.rev) bytes)
          (row-filed bytes s stands file known fresh seat own can was at same-id (same-blocks same)))
      by-length false test =
          let End : List ℕ → Type 0 = λ b. IsEnd bytes row file b in
          subst End (sym (whole-ranges-are can))
          (ended known fresh seat own (with_file_written s file bytes) (same-filed bytes s stands file known fresh seat own can was at same-id))

      pub known-end : IsEnd bytes row file (applied (file_ranges s.tables (row_of held.standing row.id) row file) bytes)
      known-end =
          let End : Option FileRow → Type 0 = λ o. IsEnd bytes row file (applied (file_ranges s.tables o row file) bytes) in
          subst End (sym row-was) (by-length (length was.blocks == row.blocks) refl)

    -- the blocks that the file had are those of its row
    pub known-here : known ≡ row_blocks (row_at s file.slot)
    known-here = by (slot_of row.id s.rows) refl
      where
        by : (o : Option ℕ) → slot_of row.id s.rows ≡ o → known ≡ row_blocks (row_at s file.slot)
        by None none = none-known none ∙ sym (ap row_blocks (row-unused none))
        by (Some slot) some = known-blocks slot some

    pub own-row-id : file.id ≡ row.id
    own-row-id = own-id

    pub file-end : IsEnd bytes row file (applied (file_ranges s.tables (row_of held.standing row.id) row file) bytes)
    file-end = by (slot_of row.id s.rows) refl
      where
        by : (o : Option ℕ) → slot_of row.id s.rows ≡ o → IsEnd bytes row file (applied (file_ranges s.tables (row_of held.standing row.id) row file) bytes)
        by None none = new-end none
        by (Some slot) some = known-end slot some
