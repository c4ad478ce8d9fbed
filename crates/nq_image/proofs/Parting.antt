-- An image in which a kept state stands, part by part.
use Rattle.std.proofs.Common.{◌≡◌, ◌≤◌, ◌+◌, ◌&&◌, ℕ, Bool, true, false, List, [], ◌∷◌, Option, Some, None, Result, Ok, Err, length, if◌then◌else◌}
use Rattle.std.proofs.Common.{refl, ap, subst, ◌∙◌}
use Rattle.std.specs.Prelude.{nat_le, slice_index_or}
use Rattle.nq_base.specs.declared.HostRow.{HostRow}
use Rattle.nq_image.specs.Check.{Check, tested}
use Rattle.nq_image.specs.Heads.{front_checks, front_of, version_of}
use Rattle.nq_image.specs.Hosts.{hosts_checks, hosts_of}
use Rattle.nq_image.specs.Image.{FoundOne, FoundRows, FoundTables, FoundTwo, ◌>>=◌, ids_in, image_one, image_two, no_marks, rows_in, tables_in}
use Rattle.nq_image.specs.Layout.{are_zeros, block_place, piece}
use Rattle.nq_image.specs.Rows.{rows_checks, slots_of}
use Rattle.nq_image.specs.Tables.{held, ids_checks, ids_of, tables_blocks, tables_checks, tables_marks}
use Rattle.nq_image.specs.Whole.{Found, has_image_name, image_in, in_versions, of_one, of_two}
use Rattle.nq_image.specs.declared.heads.Front.{Front}
use Rattle.nq_image.specs.declared.rows.Slot.{Slot}
use Rattle.nq_image.specs.declared.rows.Version.{Version}
use Rattle.nq_image.proofs.Checks.{tested-value}
use Rattle.nq_image.proofs.Imaging.{goes-if, ids-there, rows-are, tables-are, then-goes, two-are}
use Rattle.nq_image.proofs.Holding.{test-le}
use Rattle.nq_image.proofs.ReadBack.{Hold, and-two, ge-true}
use Rattle.nq_image.proofs.Within.{if-ok, then-ok}

-- where the first wrong field is none, each field is right
pub hold-from : {A : Type 0} (checks : List Check) (x z : A) → tested checks x ≡ Ok z → Hold checks
hold-from [] x z h = tt
hold-from (c ∷ checks) x z h = step c.holds c.place (tested checks x) z (λ more. hold-from checks x z more) h
  where
    step : {A : Type 0} (holds : Bool) (p : ℕ) (rest : Result A ℕ) (z : A) → (rest ≡ Ok z → Hold checks) → (if holds then rest else Err p) ≡ Ok z
        → (holds ≡ true) × Hold checks
    step true p rest z more h = (refl, more h)
    step false p rest z more h = cc

-- the parts of an image of version 2
pub record HasParts (bytes : List ℕ) (found : FoundTwo) : Type 0 where
  pub front : Hold (front_checks (piece 0 64 bytes))
  pub front_is : front_of (piece 0 64 bytes) ≡ found.front
  pub hosts : Hold (hosts_checks 64 64 (piece 64 2048 bytes))
  pub hosts_are : hosts_of 64 (piece 64 2048 bytes) ≡ found.rows.hosts
  pub rows : Hold (rows_checks Version.Two 256 2112 [] (piece 2112 24576 bytes))
  pub rows_are : slots_of 256 (piece 2112 24576 bytes) ≡ found.rows.slots
  pub gap : are_zeros (piece 26688 1984 bytes) ≡ true
  pub tables : Hold (tables_checks found.front.tables (block_place found.front.tables) found.rows.slots (no_marks 16641) bytes)
  pub blocks_are : tables_blocks (block_place found.front.tables) found.rows.slots bytes ≡ found.tables.blocks
  pub marks_are : tables_marks (block_place found.front.tables) found.rows.slots (no_marks 16641) bytes ≡ found.tables.marks
  pub ids_whole : block_place found.front.tables + 1048576 + 4096 ≤ length bytes
  pub ids : Hold (ids_checks found.front.next (block_place found.front.tables + 1048576) [] found.rows.slots
      (piece (block_place found.front.tables + 1048576) 4096 bytes))
  pub ids_are : ids_of found.rows.slots (piece (block_place found.front.tables + 1048576) 4096 bytes) ≡ found.tables.ids
  pub held_all : held (length bytes) found.tables.marks ≡ Ok tt

-- and its first eight bytes
pub record BeginsAsTwo (bytes : List ℕ) : Type 0 where
  pub long : 40960 ≤ length bytes
  pub name : has_image_name bytes ≡ true
  pub version : version_of (slice_index_or bytes 7 0) ≡ Some Version.Two

-- ---- from an image to its parts

ok-is : {A : Type 0} (x z : A) (r : Result A ℕ) → r ≡ Ok x → r ≡ Ok z → x ≡ z
ok-is x z r is h = cc

pub record HasRowParts (bytes : List ℕ) (all : FoundRows) : Type 0 where
  pub hosts : Hold (hosts_checks 64 64 (piece 64 2048 bytes))
  pub hosts_are : hosts_of 64 (piece 64 2048 bytes) ≡ all.hosts
  pub rows : Hold (rows_checks Version.Two 256 2112 [] (piece 2112 24576 bytes))
  pub rows_are : slots_of 256 (piece 2112 24576 bytes) ≡ all.slots
  pub gap : are_zeros (piece 26688 1984 bytes) ≡ true

row-parts : (bytes : List ℕ) (rows : FoundRows) → rows_in Version.Two bytes ≡ Ok rows → HasRowParts bytes rows
unfolding rows_in
row-parts bytes rows h =
    let host_part = piece 64 2048 bytes in
    let file_part = piece 2112 24576 bytes in
    let made : List HostRow → List (Option Slot) → FoundRows = λ hosts slots. record { hosts = hosts; slots = slots } in
    let zeros = are_zeros (piece 26688 1984 bytes) in
    let host_rows = tested (hosts_checks 64 64 host_part) (hosts_of 64 host_part) in
    let file_rows = tested (rows_checks Version.Two 256 2112 [] file_part) (slots_of 256 file_part) in
    let one = then-ok host_rows (λ hosts. file_rows >>= λ slots. if zeros then Ok (made hosts slots) else Err 26688) rows h in
    let two = then-ok file_rows (λ slots. if zeros then Ok (made one.0 slots) else Err 26688) rows one.2 in
    let three = if-ok zeros (made one.0 two.0) rows 26688 two.2 in
    let Holds : FoundRows → Type 0 = λ r. HasRowParts bytes r in
    subst Holds three.1 (record {
      hosts = hold-from (hosts_checks 64 64 host_part) (hosts_of 64 host_part) one.0 one.1;
      hosts_are = tested-value (hosts_checks 64 64 host_part) (hosts_of 64 host_part) one.0 one.1;
      rows = hold-from (rows_checks Version.Two 256 2112 [] file_part) (slots_of 256 file_part) two.0 two.1;
      rows_are = tested-value (rows_checks Version.Two 256 2112 [] file_part) (slots_of 256 file_part) two.0 two.1;
      gap = three.0;
    })

pub record HasTableParts (bytes : List ℕ) (front : Front) (slots : List (Option Slot)) (found : FoundTables) : Type 0 where
  pub tables : Hold (tables_checks front.tables (block_place front.tables) slots (no_marks 16641) bytes)
  pub blocks_are : tables_blocks (block_place front.tables) slots bytes ≡ found.blocks
  pub marks_are : tables_marks (block_place front.tables) slots (no_marks 16641) bytes ≡ found.marks
  pub ids_whole : block_place front.tables + 1048576 + 4096 ≤ length bytes
  pub ids : Hold (ids_checks front.next (block_place front.tables + 1048576) [] slots (piece (block_place front.tables + 1048576) 4096 bytes))
  pub ids_are : ids_of slots (piece (block_place front.tables + 1048576) 4096 bytes) ≡ found.ids
  pub held_all : held (length bytes) found.marks ≡ Ok tt

pub record HasIdParts (place next : ℕ) (slots : List (Option Slot)) (bytes ids : List ℕ) : Type 0 where
  pub whole : place + 4096 ≤ length bytes
  pub right : Hold (ids_checks next place [] slots (piece place 4096 bytes))
  pub are : ids_of slots (piece place 4096 bytes) ≡ ids

id-parts : (place next : ℕ) (slots : List (Option Slot)) (bytes ids : List ℕ) (b : Bool) → nat_le (place + 4096) (length bytes) ≡ b
    → (if b then tested (ids_checks next place [] slots (piece place 4096 bytes)) (ids_of slots (piece place 4096 bytes)) else Err place) ≡ Ok ids
    → HasIdParts place next slots bytes ids
id-parts place next slots bytes ids true is h = record {
  whole = whole-by (place + 4096) (length bytes) is;
  right = hold-from (ids_checks next place [] slots (piece place 4096 bytes)) (ids_of slots (piece place 4096 bytes)) ids h;
  are = tested-value (ids_checks next place [] slots (piece place 4096 bytes)) (ids_of slots (piece place 4096 bytes)) ids h;
}
  where
    whole-by : (m n : ℕ) → nat_le m n ≡ true → m ≤ n
    whole-by m n is = test-le m n is
id-parts place next slots bytes ids false is h = cc

held-ok : (r : Result Unit ℕ) (x : Unit {0}) → r ≡ Ok x → r ≡ Ok tt
held-ok r x h = h

table-parts : (front : Front) (slots : List (Option Slot)) (bytes : List ℕ) (found : FoundTables) → tables_in front slots (no_marks 16641) bytes
    ≡ Ok found → HasTableParts bytes front slots found
unfolding tables_in
table-parts front slots bytes found h =
    let place = block_place front.tables in
    let marks = no_marks 16641 in
    let checks = tables_checks front.tables place slots marks bytes in
    let blocks = tables_blocks place slots bytes in
    let last = tables_marks place slots marks bytes in
    let made : List ℕ → List ℕ → FoundTables = λ own ids. record { ids = ids; blocks = own; marks = last } in
    let one = then-ok (tested checks blocks) (λ own. ids_in (place + 1048576) front.next slots bytes >>= λ ids. held (length bytes) last >>= λ holds.
    Ok (made own ids)) found h in
    let two = then-ok (ids_in (place + 1048576) front.next slots bytes) (λ ids. held (length bytes) last >>= λ holds. Ok (made one.0 ids)) found one.2 in
    let three = then-ok (held (length bytes) last) (λ holds. Ok (made one.0 two.0)) found two.2 in
    let own = id-parts (place + 1048576) front.next slots bytes two.0 (nat_le (place + 1048576 + 4096) (length bytes)) refl two.1 in
    let Holds : FoundTables → Type 0 = λ t. HasTableParts bytes front slots t in
    subst Holds (ok-is (made one.0 two.0) found (Ok (made one.0 two.0)) refl three.2) (record {
      tables = hold-from checks blocks one.0 one.1;
      blocks_are = tested-value checks blocks one.0 one.1;
      marks_are = refl;
      ids_whole = own.whole;
      ids = own.right;
      ids_are = own.are;
      held_all = held-ok (held (length bytes) last) three.0 three.1;
    })

abbrev two-made : Front → FoundRows → FoundTables → FoundTwo
two-made front rows tables = record { front = front; rows = rows; tables = tables }

two-parts : (bytes : List ℕ) (found : FoundTwo) → image_two (no_marks 16641) bytes ≡ Ok found → HasParts bytes found
unfolding image_two
two-parts bytes found h =
    let marks = no_marks 16641 in
    let start = piece 0 64 bytes in
    let one = then-ok (tested (front_checks start) (front_of start)) (λ front. rows_in Version.Two bytes >>= λ rows. tables_in front rows.slots marks
    bytes >>= λ tables. Ok (two-made front rows tables)) found h in
    let two = then-ok (rows_in Version.Two bytes) (λ rows. tables_in one.0 rows.slots marks bytes >>= λ tables. Ok (two-made one.0 rows tables)) found one.2 in
    let three = then-ok (tables_in one.0 two.0.slots marks bytes) (λ tables. Ok (two-made one.0 two.0 tables)) found two.2 in
    let rows = row-parts bytes two.0 two.1 in
    let tables = table-parts one.0 two.0.slots bytes three.0 three.1 in
    let Holds : FoundTwo → Type 0 = λ f. HasParts bytes f in
    subst Holds (ok-is (two-made one.0 two.0 three.0) found (Ok (two-made one.0 two.0 three.0)) refl three.2) (record {
      front = hold-from (front_checks start) (front_of start) one.0 one.1;
      front_is = tested-value (front_checks start) (front_of start) one.0 one.1;
      hosts = rows.hosts;
      hosts_are = rows.hosts_are;
      rows = rows.rows;
      rows_are = rows.rows_are;
      gap = rows.gap;
      tables = tables.tables;
      blocks_are = tables.blocks_are;
      marks_are = tables.marks_are;
      ids_whole = tables.ids_whole;
      ids = tables.ids;
      ids_are = tables.ids_are;
      held_all = tables.held_all;
    })

pub record IsImageOfTwo (bytes : List ℕ) (found : FoundTwo) : Type 0 where
  pub begins : BeginsAsTwo bytes
  pub parts : HasParts bytes found

by-version : (bytes : List ℕ) (found : FoundTwo) (version : Option Version) → in_versions version bytes ≡ Some (Ok (of_two found))
    → (version ≡ Some Version.Two) × HasParts bytes found
by-version bytes found None h = cc
by-version bytes found (Some Version.One) h = absurd (not-one (image_one bytes) (some-is (image_one bytes >>= λ f. Ok (of_one f)) (Ok (of_two found)) h))
  where
    some-is : (a b : Result Found ℕ) → Some a ≡ Some b → a ≡ b
    some-is a b h = cc

    not-one : (r : Result FoundOne ℕ) → (r >>= λ f. Ok (of_one f)) ≡ Ok (of_two found) → ⊥
    not-one (Ok x) h = cc
    not-one (Err p) h = cc
by-version bytes found (Some Version.Two) h = (refl, two-parts bytes found (by-two (image_two (no_marks 16641) bytes) h))
  where
    by-two : (r : Result FoundTwo ℕ) → Some (r >>= λ f. Ok (of_two f)) ≡ Some (Ok (of_two found)) → r ≡ Ok found
    by-two (Ok x) h = let same : x ≡ found = cc in ap Ok same
    by-two (Err p) h = cc

by-name : (b : Bool) (bytes : List ℕ) (found : FoundTwo) (version : Option Version) → (if b then in_versions version bytes else None)
    ≡ Some (Ok (of_two found)) → (b ≡ true) × (version ≡ Some Version.Two) × HasParts bytes found
by-name true bytes found version h = let rest = by-version bytes found version h in (refl, rest.0, rest.1)
by-name false bytes found version h = cc

pub parts-of : (bytes : List ℕ) (found : FoundTwo) → image_in bytes ≡ Some (Ok (of_two found)) → IsImageOfTwo bytes found
unfolding image_in
parts-of bytes found h =
    let all = by-name (nat_le 40960 (length bytes) && has_image_name bytes) bytes found (version_of (slice_index_or bytes 7 0)) h in
    let both = each-of (nat_le 40960 (length bytes)) (has_image_name bytes) all.0 in
    record {
      begins = record { long = test-le 40960 (length bytes) both.0; name = both.1; version = all.1 };
      parts = all.2;
    }
  where
    each-of : (a b : Bool) → (a && b) ≡ true → (a ≡ true) × (b ≡ true)
    each-of true b h = (refl, h)
    each-of false b h = cc

-- ---- from the parts to an image

join-two : (bytes : List ℕ) (found : FoundTwo) → HasParts bytes found → image_two (no_marks 16641) bytes ≡ Ok found
join-two bytes found p =
    let front = found.front in
    let slots = found.rows.slots in
    let marks = no_marks 16641 in
    let place = block_place front.tables in
    let rows = rows-are bytes (piece 64 2048 bytes) (piece 2112 24576 bytes) (piece 26688 1984 bytes) found.rows.hosts slots refl refl refl p.hosts
    p.hosts_are p.rows p.rows_are p.gap in
    let ids = ids-there (place + 1048576) front.next slots bytes (piece (place + 1048576) 4096 bytes) found.tables.ids p.ids_whole refl p.ids p.ids_are in
    let all_held = ap (λ (m : List Bool). held (length bytes) m) p.marks_are ∙ p.held_all in
    let Ends : List Bool → Type 0 = λ m. tables_in front slots marks bytes ≡ Ok (record { ids = found.tables.ids; blocks = found.tables.blocks; marks = m }) in
    let tables = subst Ends p.marks_are (tables-are front slots marks bytes found.tables.blocks found.tables.ids p.tables p.blocks_are ids all_held) in
    two-are marks bytes (piece 0 64 bytes) front found.rows found.tables refl p.front p.front_is rows tables

pub image-of-parts : (bytes : List ℕ) (found : FoundTwo) → BeginsAsTwo bytes → HasParts bytes found → image_in bytes ≡ Some (Ok (of_two found))
unfolding image_in
image-of-parts bytes found b p =
    let both = and-two (nat_le 40960 (length bytes)) (has_image_name bytes) (ge-true (length bytes) (length bytes) 40960 refl b.long) b.name in
    goes-if (nat_le 40960 (length bytes) && has_image_name bytes) (in_versions (version_of (slice_index_or bytes 7 0)) bytes) None both
    ∙ ap (λ (v : Option Version). in_versions v bytes) b.version
    ∙ ap (λ (r : Result Found ℕ). Some r) (then-goes (image_two (no_marks 16641) bytes) found (λ f. Ok (of_two f)) (join-two bytes found p))
