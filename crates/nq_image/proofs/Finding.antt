-- What is read in an image stands there.
use Rattle.std.proofs.Common.{◌≡◌, ◌+◌, ◌==◌, ◌&&◌, ℕ, Bool, true, false, List, [], ◌∷◌, ◌++◌, Option, Some, None, Result, Ok, Err, drop, map, length}
use Rattle.std.proofs.Common.{if◌then◌else◌, refl, sym, ap, subst, ◌∙◌, arith}
use Rattle.std.specs.Prelude.{nat_le, slice_index_or}
use Rattle.std.proofs.lemmas.Bool.Decides.{nat_tests}
use Rattle.nq_model.specs.protocol.Kept.{Kept}
use Rattle.nq_image.specs.Heads.{version_of}
use Rattle.nq_image.specs.Image.{FoundTwo, ◌>>=◌, image_two, no_marks}
use Rattle.nq_image.specs.Kept.{opened, stands_for}
use Rattle.nq_image.specs.Layout.{block_place, piece, word_in}
use Rattle.nq_image.specs.Standing.{AreNumbered, Standing, Stands, blocks_in, found_of, kept_at, marks_with, placed_rows, row_id, row_slot, standing_in}
use Rattle.nq_image.specs.Tables.{ids_checks, ids_of, is_id, slot_table, table_of, tables_blocks, tables_marks}
use Rattle.nq_image.specs.Whole.{has_image_name, image_in, in_versions, of_two}
use Rattle.nq_image.specs.declared.rows.Slot.{Slot}
use Rattle.nq_image.specs.declared.rows.Version.{Version}
use Rattle.nq_image.proofs.Allotting.{length-table, tables-marks-are}
use Rattle.nq_image.proofs.Gathering.{stands-opens}
use Rattle.nq_image.proofs.Parting.{HasParts, parts-of}
use Rattle.nq_image.proofs.ReadBack.{Hold}

pub numbered : (slots : List (Option Slot)) (slot place : ℕ) (ids bytes : List ℕ) → AreNumbered slot (placed_rows slot place slots ids bytes)
unfolding placed_rows
numbered [] slot place ids bytes = tt
numbered (None ∷ slots) slot place ids bytes = numbered slots (slot + 1) (place + 4096) (drop 1 ids) bytes
numbered (Some own ∷ slots) slot place ids bytes = (refl, numbered slots (slot + 1) (place + 4096) (drop 1 ids) bytes)

abbrev slot-with : Slot → ℕ → Slot
slot-with own n = record { name = own.name; blocks = n; rev = own.rev }

same-slot : (own : Slot) (n : ℕ) → n ≡ own.blocks → Some (slot-with own n) ≡ Some own
same-slot own n is = ap (λ (k : ℕ). Some (slot-with own k)) is

pub slots-back : (slots : List (Option Slot)) (slot place : ℕ) (ids bytes : List ℕ) → map row_slot (placed_rows slot place slots ids bytes) ≡ slots
unfolding placed_rows
slots-back [] slot place ids bytes = refl
slots-back (None ∷ slots) slot place ids bytes = ap (λ (l : List (Option Slot)). None ∷ l) (slots-back slots (slot + 1) (place + 4096) (drop 1 ids) bytes)
slots-back (Some own ∷ slots) slot place ids bytes =
    let rest = placed_rows (slot + 1) (place + 4096) slots (drop 1 ids) bytes in
    ap (λ (x : Option Slot). x ∷ map row_slot rest) (same-slot own (length (table_of own.blocks (piece place 4096 bytes)))
    (length-table own.blocks (piece place 4096 bytes)))
    ∙ ap (λ (l : List (Option Slot)). Some own ∷ l) (slots-back slots (slot + 1) (place + 4096) (drop 1 ids) bytes)

no-id : (next : ℕ) (known : List ℕ) (id : ℕ) → is_id next known None id ≡ true → id ≡ 0
unfolding is_id
no-id next known id h = grind (arith, nat_tests)

-- the ids of unused rows are 0
pub ids-back : (slots : List (Option Slot)) (slot place next at : ℕ) (known rest ids bytes : List ℕ) → ids_of slots rest ≡ ids
    → Hold (ids_checks next at known slots rest) → map row_id (placed_rows slot place slots ids bytes) ≡ ids
unfolding placed_rows ids_of ids_checks
ids-back [] slot place next at known rest ids bytes is h = is
ids-back (None ∷ slots) slot place next at known rest ids bytes is h =
    let word = word_in 0 rest in
    let more = ids-back slots (slot + 1) (place + 4096) next (at + 4) (known ++ word ∷ []) (drop 4 rest) (ids_of slots (drop 4 rest)) bytes refl h.1 in
    let Same : List ℕ → Type 0 = λ l. 0 ∷ map row_id (placed_rows (slot + 1) (place + 4096) slots (drop 1 l) bytes) ≡ l in
    subst Same is (ap (λ (l : List ℕ). 0 ∷ l) more ∙ ap (λ (w : ℕ). w ∷ ids_of slots (drop 4 rest)) (sym (no-id next known word h.0)))
ids-back (Some own ∷ slots) slot place next at known rest ids bytes is h =
    let word = word_in 0 rest in
    let more = ids-back slots (slot + 1) (place + 4096) next (at + 4) (known ++ word ∷ []) (drop 4 rest) (ids_of slots (drop 4 rest)) bytes refl h.1 in
    let Same : List ℕ → Type 0 = λ l. slice_index_or l 0 0 ∷ map row_id (placed_rows (slot + 1) (place + 4096) slots (drop 1 l) bytes) ≡ l in
    subst Same is (ap (λ (l : List ℕ). word ∷ l) more)

pub blocks-back : (slots : List (Option Slot)) (slot place : ℕ) (ids bytes : List ℕ) → tables_blocks place slots bytes
    ≡ blocks_in (placed_rows slot place slots ids bytes)
unfolding placed_rows tables_blocks blocks_in slot_table
blocks-back [] slot place ids bytes = refl
blocks-back (None ∷ slots) slot place ids bytes = blocks-back slots (slot + 1) (place + 4096) (drop 1 ids) bytes
blocks-back (Some own ∷ slots) slot place ids bytes =
    ap (λ (l : List ℕ). table_of own.blocks (piece place 4096 bytes) ++ l) (blocks-back slots (slot + 1) (place + 4096) (drop 1 ids) bytes)

found-with : FoundTwo → List (Option Slot) → (ids blocks : List ℕ) → List Bool → FoundTwo
found-with found slots ids blocks marks = record {
  front = found.front;
  rows = record { hosts = found.rows.hosts; slots = slots };
  tables = record { ids = ids; blocks = blocks; marks = marks };
}

found-same : (bytes : List ℕ) (found : FoundTwo) → HasParts bytes found → found ≡ found_of (standing_in bytes found)
unfolding found-with
found-same bytes found p =
    let place = block_place found.front.tables in
    let rows = placed_rows 0 place found.rows.slots found.tables.ids bytes in
    let slots = slots-back found.rows.slots 0 place found.tables.ids bytes in
    let ids = ids-back found.rows.slots 0 place found.front.next (place + 1048576) [] (piece (place + 1048576) 4096 bytes) found.tables.ids bytes
    p.ids_are p.ids in
    let blocks = sym p.blocks_are ∙ blocks-back found.rows.slots 0 place found.tables.ids bytes in
    let marks = sym p.marks_are
    ∙ ap (λ (l : List (Option Slot)). tables_marks place l (no_marks 16641) bytes) (sym slots)
    ∙ tables-marks-are place rows (no_marks 16641) bytes
    ∙ ap (λ (l : List (Option Slot)). marks_with (no_marks 16641) (tables_blocks place l bytes)) slots
    ∙ ap (λ (l : List ℕ). marks_with (no_marks 16641) l) (p.blocks_are ∙ blocks) in
    ap (λ (x : List (Option Slot)). found-with found x found.tables.ids found.tables.blocks found.tables.marks) (sym slots)
    ∙ ap (λ (x : List ℕ). found-with found (map row_slot rows) x found.tables.blocks found.tables.marks) (sym ids)
    ∙ ap (λ (x : List ℕ). found-with found (map row_slot rows) (map row_id rows) x found.tables.marks) blocks
    ∙ ap (λ (x : List Bool). found-with found (map row_slot rows) (map row_id rows) (blocks_in rows) x) marks

pub read-stands : (bytes : List ℕ) (found : FoundTwo) → image_in bytes ≡ Some (Ok (of_two found)) → Stands bytes (standing_in bytes found)
read-stands bytes found is =
    let same = found-same bytes found (parts-of bytes found is).parts in
    record {
      found = is ∙ ap (λ (f : FoundTwo). Some (Ok (of_two f))) same;
      numbered = numbered found.rows.slots 0 (block_place found.front.tables) found.tables.ids bytes;
    }

-- ---- any image of version 2 that opens

by-result : (r : Result FoundTwo ℕ) (bytes : List ℕ) (kept : Kept) → stands_for bytes (Some (r >>= λ f. Ok (of_two f))) ≡ Some (Ok kept)
    → (found : FoundTwo) × (Some (r >>= λ f. Ok (of_two f)) ≡ Some (Ok (of_two found)))
by-result (Ok f) bytes kept h = (f, refl)
by-result (Err p) bytes kept h = cc

by-version : (b : Bool) (version : Option Version) (bytes : List ℕ) (kept : Kept) → version ≡ Some Version.Two
    → stands_for bytes (if b then in_versions version bytes else None) ≡ Some (Ok kept) → (found : FoundTwo)
    × ((if b then in_versions version bytes else None) ≡ Some (Ok (of_two found)))
by-version false version bytes kept two h = cc
by-version true version bytes kept two h =
    let Opens : Option Version → Type 0 = λ v. stands_for bytes (in_versions v bytes) ≡ Some (Ok kept) in
    let Found : Option Version → Type 0 = λ v. (found : FoundTwo) × (in_versions v bytes ≡ Some (Ok (of_two found))) in
    subst Found (sym two) (by-result (image_two (no_marks 16641) bytes) bytes kept (subst Opens two h))

second : (byte : ℕ) → byte ≡ 50 → version_of byte ≡ Some Version.Two
unfolding version_of
second byte is = ap (λ (b : ℕ). if b == 49 then Some Version.One else if b == 50 then Some Version.Two else None) is

found-two : (bytes : List ℕ) (kept : Kept) → opened bytes ≡ Some (Ok kept) → slice_index_or bytes 7 0 ≡ 50 → (found : FoundTwo)
    × (image_in bytes ≡ Some (Ok (of_two found)))
unfolding opened image_in
found-two bytes kept h two = by-version (nat_le 40960 (length bytes) && has_image_name bytes) (version_of (slice_index_or bytes 7 0)) bytes kept
    (second (slice_index_or bytes 7 0) two) h

same-kept : (bytes : List ℕ) (one two : Kept) → opened bytes ≡ Some (Ok one) → opened bytes ≡ Some (Ok two) → one ≡ two
same-kept bytes one two a b = cc

pub opens-stands : (bytes : List ℕ) (kept : Kept) → opened bytes ≡ Some (Ok kept) → slice_index_or bytes 7 0 ≡ 50 → (s : Standing) × Stands bytes s
    × (kept_at bytes s ≡ kept)
opens-stands bytes kept h two =
    let found = found-two bytes kept h two in
    let s = standing_in bytes found.0 in
    let stands = read-stands bytes found.0 found.1 in
    (s, stands, same-kept bytes (kept_at bytes s) kept (stands-opens bytes s stands) h)
