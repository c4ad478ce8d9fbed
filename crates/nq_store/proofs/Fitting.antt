-- The ranges of a change fit into the redo record of an image.
use Rattle.std.proofs.Common.{◌≡◌, ◌⊎◌, ◌≤◌, ◌<◌, ◌^◌, ◌+◌, ◌-◌, ◌*◌, ◌==◌, inl, inr, max, ℕ, zero, suc, Bool, true, false, List, [], ◌∷◌, ◌++◌}
use Rattle.std.proofs.Common.{Option, Some, None, take, length, if◌then◌else◌, refl, ap, subst, arith, length-append}
use Rattle.std.specs.Int.{w32, to_be_bytes}
use Rattle.std.specs.List.{All}
use Rattle.std.specs.Prelude.{IfSome, slice_get, slice_index_or}
use Rattle.std.proofs.lemmas.Bool.{cases_lt}
use Rattle.std.proofs.lemmas.Bool.Decides.{nat_tests}
use Rattle.std.proofs.lemmas.List.{get_or_past}
use Rattle.std.proofs.lemmas.List.Elements.{All-append, All-cons, All-head, All-nil, All-same, All-tail, All-take}
use Rattle.nq_base.specs.Name.{IsName}
use Rattle.nq_base.specs.declared.BlockChange.{BlockChange}
use Rattle.nq_base.specs.declared.Change.{Change}
use Rattle.nq_base.specs.declared.FileRow.{FileRow}
use Rattle.nq_base.specs.declared.Heads.{Heads}
use Rattle.nq_base.specs.declared.HostChange.{HostChange}
use Rattle.nq_plan.specs.Standing.{image_area}
use Rattle.nq_image.specs.Heads.{front_checks, front_of}
use Rattle.nq_image.specs.Layout.{block_place, piece, word_in}
use Rattle.nq_image.specs.Standing.{IsFileBlock, PlacedFile, Standing, blocks_in, found_of, front_for, row_blocks}
use Rattle.nq_image.specs.Writing.{heads_bytes, host_bytes, row_bytes, table_of_blocks, zeros_of}
use Rattle.nq_image.specs.declared.Front.{Front}
use Rattle.nq_image.proofs.GivenBlocks.{both-of}
use Rattle.nq_image.proofs.FileRows.{length-row}
use Rattle.nq_image.proofs.Giving.{IsHeld}
use Rattle.nq_image.proofs.Holding.{test-le}
use Rattle.nq_image.proofs.Overwriting.{length-of-table, long-enough, whole-bodies, whole-tables}
use Rattle.nq_image.proofs.Owning.{rows-of}
use Rattle.nq_image.proofs.Parting.{parts-of}
use Rattle.nq_image.proofs.ReadBack.{Hold, length-zeros}
use Rattle.nq_model.specs.protocol.Change.{FitsFile, IsBody}
use Rattle.nq_model.specs.protocol.Kept.{Kept}
use Rattle.nq_plan.proofs.Sizes.{length-heads, length-host}
use Rattle.nq_plan.specs.Finding.{blocks_of, file_in, has_id, row_of, slot_of}
use Rattle.nq_plan.specs.Held.{HeldTables, IsHeldOf}
use Rattle.nq_plan.specs.Placing.{IsPlaced, IsPlacedFor, free_blocks}
use Rattle.nq_plan.specs.Ranges.{blocks_then, body_range, body_ranges, file_ranges, heads_ranges, host_ranges, id_range, placed_ranges, range}
use Rattle.nq_plan.specs.Ranges.{ranges_of, removal_ranges, removed_ranges, row_range, table_range, whole_ranges}
use Rattle.nq_plan.specs.declared.placing.Placed.{Placed}
use Rattle.nq_disk.specs.Batch.{AreAllowed, IsFit, body_of, spelled}
use Rattle.nq_disk.specs.Ranges.{Range}
use Rattle.nq_disk.specs.Record.{is_misplaced}
use Rattle.nq_store.specs.Changing.{CanBeWritten, HasZeros, new_blocks}
use Rattle.nq_store.proofs.Files.{position-some}
use Rattle.nq_store.proofs.Filing.{of-row}
use Rattle.nq_store.proofs.ImagesZeroing.{zeros-held}
use Rattle.nq_store.proofs.Seats.{IsNew, free-are-new, new-blocks-are, once-of}

-- ---- a range that lies where the record's ranges may lie

pub record IsLaid (len : ℕ) (range : Range) : Type 0 where
  pub begins : range.place ≤ len
  pub front : 7 ≤ range.place
  pub beside : (range.place + length range.bytes ≤ 28672) ⊎ (40960 ≤ range.place)
  pub ends : range.place + length range.bytes ≤ 68202496

not-misplaced : (start size bound len place n : ℕ) → place ≤ len → 7 ≤ place → (place + n ≤ start) ⊎ (start + size ≤ place) → place + n ≤ bound
    → is_misplaced start size bound len place n ≡ false
unfolding is_misplaced
not-misplaced start size bound len place n a b (inl c) d = grind (arith, nat_tests)
not-misplaced start size bound len place n a b (inr c) d = grind (arith, nat_tests)

all-allowed : (ranges : List Range) (len more : ℕ) → len ≤ more → All (IsLaid len) ranges → AreAllowed image_area more ranges
all-allowed [] len more le all = tt
all-allowed (range ∷ ranges) len more le all =
    let own = All-head (IsLaid len) range ranges all in
    let begins = own.begins in (
      not-misplaced 28672 12288 68202496 more range.place (length range.bytes) (omega (arith, begins, le)) own.front own.beside own.ends,
      all-allowed ranges len (max more (range.place + length range.bytes)) (omega (arith, le)) (All-tail (IsLaid len) range ranges all),
    )

-- ---- how much room ranges take

abbrev weight : List Range → ℕ
weight [] = 0
weight (range ∷ ranges) = 12 + length range.bytes + weight ranges

weight-both : (xs ys : List Range) → weight (xs ++ ys) ≡ weight xs + weight ys
weight-both [] ys = omega arith
weight-both (x ∷ xs) ys = omega (arith, weight-both xs ys)

length-spelled : (ranges : List Range) → length (spelled ranges) ≡ weight ranges
length-spelled [] = refl
length-spelled (range ∷ ranges) = omega (arith, length-append range.bytes (spelled ranges), length-spelled ranges)

length-body : (ranges : List Range) → length (body_of ranges) ≡ 15 + weight ranges
length-body ranges = omega (arith, length-spelled ranges)

record IsPart (len few much : ℕ) (ranges : List Range) : Type 0 where
  count : length ranges ≤ few
  room : weight ranges ≤ much
  laid : All (IsLaid len) ranges

both-parts : (len a b x y : ℕ) (xs ys : List Range) → IsPart len a x xs → IsPart len b y ys → IsPart len (a + b) (x + y) (xs ++ ys)
both-parts len a b x y xs ys one two =
    let c = one.count in
    let d = two.count in
    let e = one.room in
    let f = two.room in
    record {
      count = omega (arith, c, d, length-append xs ys);
      room = omega (arith, e, f, weight-both xs ys);
      laid = All-append (IsLaid len) xs ys one.laid two.laid;
    }

no-part : (len few much : ℕ) → IsPart len few much []
no-part len few much = record { count = omega arith; room = omega arith; laid = All-nil (IsLaid len) }

one-part : (len much : ℕ) (range : Range) → 12 + length range.bytes ≤ much → IsLaid len range → IsPart len 1 much (range ∷ [])
one-part len much range le laid = record { count = omega arith; room = omega (arith, le); laid = All-cons (IsLaid len) range [] laid (All-nil (IsLaid len)) }

module _ (bytes : List ℕ) (held : HeldTables) (is_held : IsHeldOf bytes held) where
  abbrev s : Standing
  s = held.standing

  long : 40960 ≤ length bytes
  long = long-enough bytes s is_held.stands

  tables-word : (front : List ℕ) (f : Front) → Hold (front_checks front) → front_of front ≡ f → f.tables ≤ 16384
  unfolding front_of
  tables-word front f hold is =
      let e : word_in 24 front ≡ f.tables = ap (λ (x : Front). x.tables) is in
      let a = test-le (word_in 24 front) 16384 hold.1.1.1.1.0 in
      omega (arith, e, a)

  near : s.tables ≤ 16384
  near = let image = parts-of bytes (found_of s) is_held.stands.found in tables-word (piece 0 64 bytes) (front_for s.heads s.tables) image.parts.front
      image.parts.front_is

  heads-part : (heads : Option Heads) → IsPart (length bytes) 1 28 (heads_ranges heads)
  heads-part None = no-part (length bytes) 1 28
  heads-part (Some heads) =
      let n = length-heads heads in
      one-part (length bytes) 28 (range 8 (heads_bytes heads)) (omega (arith, n)) (record {
        begins = omega (arith, long);
        front = omega arith;
        beside = inl (omega (arith, n));
        ends = omega (arith, n);
      })

  host-part : (change : Option HostChange) → IfSome change (λ h. h.host < 64) → IsPart (length bytes) 1 44 (host_ranges change)
  host-part None lt = no-part (length bytes) 1 44
  host-part (Some change) lt =
      let n = length-host change.row in
      one-part (length bytes) 44 (range (64 + 32 * change.host) (host_bytes change.row)) (omega (arith, n))
      (record { begins = omega (arith, long, lt); front = omega arith; beside = inl (omega (arith, n, lt)); ends = omega (arith, n, lt) })

  -- a part of the rows, of the ids, or a table
  row-part : (slot : ℕ) (part : List ℕ) → slot < 256 → length part ≡ 96 → IsLaid (length bytes) (record { place = 2112 + 96 * slot; bytes = part })
  row-part slot part lt n = record { begins = omega (arith, long, lt); front = omega arith; beside = inl (omega (arith, n, lt)); ends = omega (arith, n, lt) }

  id-part : (slot id : ℕ) → slot < 256 → IsLaid (length bytes) (record { place = block_place (s.tables + 256) + 4 * slot; bytes = to_be_bytes w32 id })
  id-part slot id lt =
      let whole = whole-tables bytes s is_held.stands 256 (omega arith) in
      let n : length (to_be_bytes w32 id) ≡ 4 = refl in
      record { begins = omega (arith, whole, lt); front = omega arith; beside = inr (omega arith); ends = omega (arith, n, lt, near) }

  table-part : (slot : ℕ) (blocks : List ℕ) → slot < 256 → length blocks ≤ 1024 → IsLaid (length bytes)
      (record { place = block_place (s.tables + slot); bytes = table_of_blocks blocks })
  table-part slot blocks lt short =
      let whole = whole-tables bytes s is_held.stands slot (omega (arith, lt)) in
      let n = length-of-table blocks short in
      record { begins = omega (arith, whole); front = omega arith; beside = inr (omega arith); ends = omega (arith, n, lt, near) }

  -- what is known of the row of a file
  abbrev IsRowRight : FileRow → Type 0
  IsRowRight row = IsName row.name × (row.blocks ≤ 1024) × (row.rev < 2 ^ 61)

  row-alone : (row : FileRow) (placed : Placed) → IsPlaced held row placed → IsRowRight row → IsPart (length bytes) 3 4232 (row_range placed.file.slot
      row ∷ [])
  row-alone row placed is right =
      let n = length-row row.name row.blocks row.rev right.0 right.1 right.2 in
      record {
        count = omega arith;
        room = omega (arith, n);
        laid = All-cons (IsLaid (length bytes)) (row_range placed.file.slot row) []
            (row-part placed.file.slot (row_bytes row.name row.blocks row.rev) is.within n) (All-nil (IsLaid (length bytes)));
      }

  file-whole : (row : FileRow) (placed : Placed) → IsPlaced held row placed → IsRowRight row → IsPart (length bytes) 3 4232 (whole_ranges s.tables row
      placed.file)
  file-whole row placed is right =
      let n = length-row row.name row.blocks row.rev right.0 right.1 right.2 in
      let i : length (to_be_bytes w32 row.id) ≡ 4 = refl in
      let whole = is.whole in
      let few = right.1 in
      let short : length placed.file.blocks ≤ 1024 = omega (arith, whole, few) in
      let t = length-of-table placed.file.blocks short in
      let slot = placed.file.slot in
      let Laid : Range → Type 0 = IsLaid (length bytes) in
      record {
        count = omega arith;
        room = omega (arith, n, i, t);
        laid = All-cons Laid (row_range slot row) (id_range s.tables slot row.id ∷ table_range s.tables slot placed.file.blocks ∷ [])
            (row-part slot (row_bytes row.name row.blocks row.rev) is.within n)
            (All-cons Laid (id_range s.tables slot row.id) (table_range s.tables slot placed.file.blocks ∷ []) (id-part slot row.id is.within)
            (All-cons Laid (table_range s.tables slot placed.file.blocks) [] (table-part slot placed.file.blocks is.within short) (All-nil Laid)));
      }

  by-known : (row : FileRow) (placed : Placed) (known : Option FileRow) → IsPlaced held row placed → IsRowRight row → IsPart (length bytes) 3 4232
      (file_ranges s.tables known row placed.file)
  by-known row placed None is right = file-whole row placed is right
  by-known row placed (Some was) is right = by (was.blocks == row.blocks)
    where
      by : (b : Bool) → IsPart (length bytes) 3 4232 (if b then row_range placed.file.slot row ∷ [] else whole_ranges s.tables row placed.file)
      by true = row-alone row placed is right
      by false = file-whole row placed is right

  file-part : (row : Option FileRow) (placed : Option Placed) → IsPlacedFor held row placed → IfSome row IsRowRight → IsPart (length bytes) 3 4232
      (placed_ranges s row placed)
  file-part None placed is right = no-part (length bytes) 3 4232
  file-part (Some row) None is right = no-part (length bytes) 3 4232
  file-part (Some row) (Some placed) is right = by-known row placed (row_of s row.id) is right

  -- ---- a block is one that the disk holds whole

  abbrev IsThere : ℕ → Type 0
  IsThere block = IsHeld (length bytes) block × (block < 16641)

  all-there : All IsThere (blocks_in s.rows)
  all-there =
      let once = once-of bytes s is_held.stands in
      both-of (IsHeld (length bytes)) (IsFileBlock s.tables) IsThere (blocks_in s.rows) (λ b h own. (h, own.below))
      (whole-bodies bytes s is_held.stands) once.there

  found-there : (o : Option ℕ) → All IsThere (row_blocks (file_in s.rows o))
  found-there None = All-nil IsThere
  found-there (Some slot) = elim (cases_lt slot (length s.rows)) [
    | inl lt ↦ (of-row IsThere s slot lt all-there).0
    | inr le ↦
        let none = past s.rows slot le in
        All-same IsThere (row_blocks (slice_index_or s.rows slot None)) [] (ap row_blocks none) (All-nil IsThere)
  ]
    where
      past : (rows : List (Option PlacedFile)) (slot : ℕ) → length rows ≤ slot → slice_index_or rows slot None ≡ None
      past rows slot le = get_or_past rows slot None le

  placed-there : (row : FileRow) (placed : Placed) → IsPlaced held row placed → All (HasZeros bytes) (new_blocks (Some placed))
      → All IsThere placed.file.blocks
  placed-there row placed is zeros =
      let known = blocks_of s row.id in
      let fresh = free_blocks held (row.blocks - length known) in
      let new = free-are-new bytes held is_held (row.blocks - length known) in
      let Zeros : List ℕ → Type 0 = λ l. All (HasZeros bytes) l in
      let has = subst Zeros (new-blocks-are bytes held is_held row placed is) zeros in
      let own = both-of (HasZeros bytes) (IsNew s) IsThere fresh (λ b h n. (zeros-held bytes b h, n.there.below)) has new.each in
      All-same IsThere placed.file.blocks (take row.blocks known ++ fresh) (ap (λ (f : PlacedFile). f.blocks) is.file)
      (All-append IsThere (take row.blocks known) fresh (All-take IsThere row.blocks known (found-there (slot_of row.id s.rows))) own)

  then-there : (row : Option FileRow) (placed : Option Placed) (id : ℕ) → IsPlacedFor held row placed → All (HasZeros bytes) (new_blocks placed)
      → All IsThere (blocks_then s placed id)
  then-there None None id is zeros = found-there (slot_of id s.rows)
  then-there None (Some placed) id is zeros = absurd is
  then-there (Some row) None id is zeros = absurd is
  then-there (Some row) (Some placed) id is zeros = by (placed.file.id == id)
    where
      by : (b : Bool) → All IsThere (if b then placed.file.blocks else blocks_of s id)
      by true = placed-there row placed is zeros
      by false = found-there (slot_of id s.rows)

  slice-there : (blocks : List ℕ) (k : ℕ) (body : List ℕ) → All IsThere blocks → length body ≡ 4096 → IsPart (length bytes) 1 4108
      (body_range (slice_get blocks k) body)
  slice-there [] k body all n = no-part (length bytes) 1 4108
  slice-there (block ∷ blocks) zero body all n =
      let own = All-head IsThere block blocks all in
      let whole = own.0 in
      let below = own.1 in
      one-part (length bytes) 4108 (range (block_place block) body) (omega (arith, n)) (record {
        begins = omega (arith, whole);
        front = omega arith;
        beside = inr (omega arith);
        ends = omega (arith, n, below);
      })
  slice-there (block ∷ blocks) (suc k) body all n = slice-there blocks k body (All-tail IsThere block blocks all) n

  body-part : (row : Option FileRow) (placed : Option Placed) (change : Option BlockChange) → IsPlacedFor held row placed → All (HasZeros bytes)
      (new_blocks placed) → IfSome change (λ b. IsBody b.body) → IsPart (length bytes) 1 4108 (body_ranges s placed change)
  body-part row placed None is zeros right = no-part (length bytes) 1 4108
  body-part row placed (Some change) is zeros right = slice-there (blocks_then s placed change.file) change.block change.body
      (then-there row placed change.file is zeros) right.size

  -- ---- a file that goes

  gone-part : (slot : ℕ) → slot < 256 → IsPart (length bytes) 2 124 (removal_ranges s.tables (Some slot))
  gone-part slot lt =
      let n = length-zeros 96 in
      let i : length (to_be_bytes w32 0) ≡ 4 = refl in
      let Laid : Range → Type 0 = IsLaid (length bytes) in
      record {
        count = omega arith;
        room = omega (arith, n, i);
        laid = All-cons Laid (range (2112 + 96 * slot) (zeros_of 96))
            (id_range s.tables slot 0 ∷ []) (row-part slot (zeros_of 96) lt n) (All-cons Laid (id_range s.tables slot 0) [] (id-part slot 0 lt)
            (All-nil Laid));
      }

  removed-part : (removed : Option ℕ) → IsPart (length bytes) 2 124 (removed_ranges s removed)
  removed-part None = no-part (length bytes) 2 124
  removed-part (Some id) = by (slot_of id s.rows) refl
    where
      by : (o : Option ℕ) → slot_of id s.rows ≡ o → IsPart (length bytes) 2 124 (removal_ranges s.tables o)
      by None none = no-part (length bytes) 2 124
      by (Some slot) some =
          let p = position-some (has_id id) s.rows slot None some in
          let lt = p.within in
          gone-part slot (omega (arith, lt, rows-of bytes s is_held.stands))

right-row : (k : Kept) (heads : Option Heads) (row : Option FileRow) → IfSome row (FitsFile k heads) → IfSome row (λ r. IsName r.name
    × (r.rev < 2305843009213693952)) → IfSome row (λ r. IsName r.name × (r.blocks ≤ 1024) × (r.rev < 2 ^ 61))
right-row k heads None fits within = tt
right-row k heads (Some row) fits within = let r = within.1 in (within.0, fits.short, omega (arith, r))

pub change-fits : (bytes : List ℕ) (held : HeldTables) (change : Change) (placed : Option Placed) → CanBeWritten bytes held change placed
    → IsFit image_area (length bytes) (ranges_of held.standing change placed)
change-fits bytes held change placed can =
    let s = held.standing in
    let len = length bytes in
    let is_held = can.is_held in
    let h = heads_ranges change.heads in
    let o = host_ranges change.host in
    let f = placed_ranges s change.file placed in
    let b = body_ranges s placed change.block in
    let r = removed_ranges s change.removed in
    let one = body-part bytes held is_held change.file placed change.block can.is_placed can.zeros can.within.block in
    let two = both-parts len 1 2 4108 124 b r one (removed-part bytes held is_held change.removed) in
    let file = file-part bytes held is_held change.file placed can.is_placed (right-row _ change.heads change.file can.fits.file can.within.file) in
    let three = both-parts len 3 3 4232 4232 f (b ++ r) file two in
    let four = both-parts len 1 6 44 8464 o (f ++ (b ++ r)) (host-part bytes held is_held change.host can.fits.host) three in
    let all = both-parts len 1 7 28 8508 h (o ++ (f ++ (b ++ r))) (heads-part bytes held is_held change.heads) four in
    let count = all.count in
    let room = all.room in
    let ranges = h ++ (o ++ (f ++ (b ++ r))) in
    record { few = count; short = omega (arith, room, length-body ranges); allowed = all-allowed ranges len len (omega arith) all.laid }
