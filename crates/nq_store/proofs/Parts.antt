-- An image of version 1, part by part.
use Rattle.std.proofs.Common.{◌≡◌, ◌≤◌, ◌&&◌, ℕ, Bool, true, false, List, [], Option, Some, None, Result, Ok, Err, length, if◌then◌else◌, refl, ap, subst, ◌∙◌}
use Rattle.std.specs.Prelude.{nat_le, slice_index_or, sum_by}
use Rattle.nq_base.specs.declared.HostRow.{HostRow}
use Rattle.nq_image.specs.Check.{Check, tested}
use Rattle.nq_image.specs.Heads.{boots_checks, boots_of, version_of}
use Rattle.nq_image.specs.Hosts.{hosts_checks, hosts_of}
use Rattle.nq_image.specs.Image.{FoundOne, FoundRows, FoundTwo, ◌>>=◌, image_one, image_two, no_marks, reached, rows_in}
use Rattle.nq_image.specs.Layout.{are_zeros, block_place, piece, whole_blocks}
use Rattle.nq_image.specs.Rows.{blocks_of, rows_checks, slots_of}
use Rattle.nq_image.specs.Whole.{Found, has_image_name, image_in, in_versions, of_one, of_two}
use Rattle.nq_image.specs.declared.Boots.{Boots}
use Rattle.nq_image.specs.declared.Slot.{Slot}
use Rattle.nq_image.specs.declared.Version.{Version}
use Rattle.nq_image.proofs.Checks.{tested-value}
use Rattle.nq_image.proofs.Holding.{test-le}
use Rattle.nq_image.proofs.Imaging.{goes-if, then-goes}
use Rattle.nq_image.proofs.Parting.{hold-from}
use Rattle.nq_image.proofs.ReadBack.{Hold, and-two, ge-true, hold-tested, le-true}
use Rattle.nq_image.proofs.Within.{if-ok, then-ok}

ok-is : {A : Type 0} (x z : A) (r : Result A ℕ) → r ≡ Ok x → r ≡ Ok z → x ≡ z
ok-is x z r is h = cc

-- its rows
pub record HasRowsOfOne (bytes : List ℕ) (all : FoundRows) : Type 0 where
  pub hosts : Hold (hosts_checks 64 64 (piece 64 2048 bytes))
  pub hosts_are : hosts_of 64 (piece 64 2048 bytes) ≡ all.hosts
  pub rows : Hold (rows_checks Version.One 256 2112 [] (piece 2112 24576 bytes))
  pub rows_are : slots_of 256 (piece 2112 24576 bytes) ≡ all.slots
  pub gap : are_zeros (piece 26688 1984 bytes) ≡ true

-- its parts
pub record HasPartsOfOne (bytes : List ℕ) (found : FoundOne) : Type 0 where
  pub long : 40960 ≤ length bytes
  pub name : has_image_name bytes ≡ true
  pub version : version_of (slice_index_or bytes 7 0) ≡ Some Version.One
  pub boots : Hold (boots_checks (piece 0 64 bytes))
  pub boots_are : boots_of (piece 0 64 bytes) ≡ found.boots
  pub rows : HasRowsOfOne bytes found.rows
  pub reaches : sum_by blocks_of found.rows.slots ≤ whole_blocks (length bytes)

rows-parts : (bytes : List ℕ) (rows : FoundRows) → rows_in Version.One bytes ≡ Ok rows → HasRowsOfOne bytes rows
unfolding rows_in
rows-parts bytes rows h =
    let host_part = piece 64 2048 bytes in
    let file_part = piece 2112 24576 bytes in
    let made : List HostRow → List (Option Slot) → FoundRows = λ hosts slots. record { hosts = hosts; slots = slots } in
    let zeros = are_zeros (piece 26688 1984 bytes) in
    let host_rows = tested (hosts_checks 64 64 host_part) (hosts_of 64 host_part) in
    let file_rows = tested (rows_checks Version.One 256 2112 [] file_part) (slots_of 256 file_part) in
    let one = then-ok host_rows (λ hosts. file_rows >>= λ slots. if zeros then Ok (made hosts slots) else Err 26688) rows h in
    let two = then-ok file_rows (λ slots. if zeros then Ok (made one.0 slots) else Err 26688) rows one.2 in
    let three = if-ok zeros (made one.0 two.0) rows 26688 two.2 in
    let Holds : FoundRows → Type 0 = λ r. HasRowsOfOne bytes r in
    subst Holds three.1 (record {
      hosts = hold-from (hosts_checks 64 64 host_part) (hosts_of 64 host_part) one.0 one.1;
      hosts_are = tested-value (hosts_checks 64 64 host_part) (hosts_of 64 host_part) one.0 one.1;
      rows = hold-from (rows_checks Version.One 256 2112 [] file_part) (slots_of 256 file_part) two.0 two.1;
      rows_are = tested-value (rows_checks Version.One 256 2112 [] file_part) (slots_of 256 file_part) two.0 two.1;
      gap = three.0;
    })

reached-by : (b : Bool) (size blocks place : ℕ) (x : Unit {0}) → nat_le blocks (whole_blocks size) ≡ b → (if b then Ok tt else Err place) ≡ Ok x
    → blocks ≤ whole_blocks size
reached-by true size blocks place x is h = test-le blocks (whole_blocks size) is
reached-by false size blocks place x is h = cc

record HasOne (bytes : List ℕ) (found : FoundOne) : Type 0 where
  boots : Hold (boots_checks (piece 0 64 bytes))
  boots_are : boots_of (piece 0 64 bytes) ≡ found.boots
  rows : HasRowsOfOne bytes found.rows
  reaches : sum_by blocks_of found.rows.slots ≤ whole_blocks (length bytes)

one-parts : (bytes : List ℕ) (found : FoundOne) → image_one bytes ≡ Ok found → HasOne bytes found
unfolding image_one
one-parts bytes found h =
    let start = piece 0 64 bytes in
    let made : Boots → FoundRows → FoundOne = λ boots rows. record { boots = boots; rows = rows } in
    let one = then-ok (tested (boots_checks start) (boots_of start)) (λ boots. rows_in Version.One bytes >>= λ rows. reached (length bytes)
    (sum_by blocks_of rows.slots) >>= λ reaches. Ok (made boots rows)) found h in
    let two = then-ok (rows_in Version.One bytes) (λ rows. reached (length bytes) (sum_by blocks_of rows.slots) >>= λ reaches. Ok (made one.0 rows))
    found one.2 in
    let sum = sum_by blocks_of two.0.slots in
    let three = then-ok (reached (length bytes) sum) (λ reaches. Ok (made one.0 two.0)) found two.2 in
    let same = ok-is (made one.0 two.0) found (Ok (made one.0 two.0)) refl three.2 in
    let reaches = reached-by (nat_le sum (whole_blocks (length bytes))) (length bytes) sum (block_place (whole_blocks (length bytes))) three.0 refl three.1 in
    let Holds : FoundOne → Type 0 = λ f. HasOne bytes f in
    subst Holds same (record {
      boots = hold-from (boots_checks start) (boots_of start) one.0 one.1;
      boots_are = tested-value (boots_checks start) (boots_of start) one.0 one.1;
      rows = rows-parts bytes two.0 two.1;
      reaches = reaches;
    })

some-is : (a b : Result Found ℕ) → Some a ≡ Some b → a ≡ b
some-is a b h = cc

by-version : (bytes : List ℕ) (found : FoundOne) (version : Option Version) → in_versions version bytes ≡ Some (Ok (of_one found))
    → (version ≡ Some Version.One) × HasOne bytes found
by-version bytes found None h = cc
by-version bytes found (Some Version.Two) h = absurd (not-two (image_two (no_marks 16641) bytes) (some-is (image_two (no_marks 16641) bytes >>= λ f.
    Ok (of_two f)) (Ok (of_one found)) h))
  where
    not-two : (r : Result FoundTwo ℕ) → (r >>= λ f. Ok (of_two f)) ≡ Ok (of_one found) → ⊥
    not-two (Ok x) h = cc
    not-two (Err p) h = cc
by-version bytes found (Some Version.One) h = (refl, one-parts bytes found (by-one (image_one bytes) h))
  where
    by-one : (r : Result FoundOne ℕ) → Some (r >>= λ f. Ok (of_one f)) ≡ Some (Ok (of_one found)) → r ≡ Ok found
    by-one (Ok x) h = let same : x ≡ found = cc in ap Ok same
    by-one (Err p) h = cc

by-name : (b : Bool) (bytes : List ℕ) (found : FoundOne) (version : Option Version) → (if b then in_versions version bytes else None)
    ≡ Some (Ok (of_one found)) → (b ≡ true) × (version ≡ Some Version.One) × HasOne bytes found
by-name true bytes found version h = let rest = by-version bytes found version h in (refl, rest.0, rest.1)
by-name false bytes found version h = cc

each-of : (a b : Bool) → (a && b) ≡ true → (a ≡ true) × (b ≡ true)
each-of true b h = (refl, h)
each-of false b h = cc

pub parts-of-one : (bytes : List ℕ) (found : FoundOne) → image_in bytes ≡ Some (Ok (of_one found)) → HasPartsOfOne bytes found
unfolding image_in
parts-of-one bytes found h =
    let all = by-name (nat_le 40960 (length bytes) && has_image_name bytes) bytes found (version_of (slice_index_or bytes 7 0)) h in
    let both = each-of (nat_le 40960 (length bytes)) (has_image_name bytes) all.0 in
    let parts = all.2 in
    record {
      long = test-le 40960 (length bytes) both.0;
      name = both.1;
      version = all.1;
      boots = parts.boots;
      boots_are = parts.boots_are;
      rows = parts.rows;
      reaches = parts.reaches;
    }

-- ---- from the parts to an image

tested-as : {A : Type 0} (checks : List Check) (x y : A) → Hold checks → x ≡ y → tested checks x ≡ Ok y
tested-as checks x y hold same = hold-tested checks x hold ∙ ap Ok same

rows-join : (bytes : List ℕ) (rows : FoundRows) → HasRowsOfOne bytes rows → rows_in Version.One bytes ≡ Ok rows
unfolding rows_in
rows-join bytes rows p =
    let made : List HostRow → List (Option Slot) → FoundRows = λ h s. record { hosts = h; slots = s } in
    let host_rows = tested (hosts_checks 64 64 (piece 64 2048 bytes)) (hosts_of 64 (piece 64 2048 bytes)) in
    let file_rows = tested (rows_checks Version.One 256 2112 [] (piece 2112 24576 bytes)) (slots_of 256 (piece 2112 24576 bytes)) in
    let last : List HostRow → List (Option Slot) → Result FoundRows ℕ = λ h s. if are_zeros (piece 26688 1984 bytes) then Ok (made h s) else Err 26688 in
    then-goes host_rows rows.hosts (λ h. file_rows >>= λ s. last h s) (tested-as (hosts_checks 64 64 (piece 64 2048 bytes))
    (hosts_of 64 (piece 64 2048 bytes)) rows.hosts p.hosts p.hosts_are)
    ∙ then-goes file_rows rows.slots (λ s. last rows.hosts s) (tested-as (rows_checks Version.One 256 2112 [] (piece 2112 24576 bytes))
    (slots_of 256 (piece 2112 24576 bytes)) rows.slots p.rows p.rows_are)
    ∙ goes-if (are_zeros (piece 26688 1984 bytes)) (Ok (made rows.hosts rows.slots)) (Err 26688) p.gap

one-join : (bytes : List ℕ) (found : FoundOne) → HasPartsOfOne bytes found → image_one bytes ≡ Ok found
unfolding image_one
one-join bytes found p =
    let made : Boots → FoundRows → FoundOne = λ boots rows. record { boots = boots; rows = rows } in
    let first = tested (boots_checks (piece 0 64 bytes)) (boots_of (piece 0 64 bytes)) in
    let sum = sum_by blocks_of found.rows.slots in
    then-goes first found.boots (λ b. rows_in Version.One bytes >>= λ r. reached (length bytes) (sum_by blocks_of r.slots) >>= λ x. Ok (made b r))
    (tested-as (boots_checks (piece 0 64 bytes)) (boots_of (piece 0 64 bytes)) found.boots p.boots p.boots_are)
    ∙ then-goes (rows_in Version.One bytes) found.rows (λ r. reached (length bytes) (sum_by blocks_of r.slots) >>= λ x. Ok (made found.boots r))
    (rows-join bytes found.rows p.rows)
    ∙ then-goes (reached (length bytes) sum) tt (λ x. Ok (made found.boots found.rows)) (goes-if (nat_le sum (whole_blocks (length bytes))) (Ok tt)
    (Err (block_place (whole_blocks (length bytes)))) (le-true sum sum (whole_blocks (length bytes)) refl p.reaches))

pub image-of-one : (bytes : List ℕ) (found : FoundOne) → HasPartsOfOne bytes found → image_in bytes ≡ Some (Ok (of_one found))
unfolding image_in
image-of-one bytes found p =
    let both = and-two (nat_le 40960 (length bytes)) (has_image_name bytes) (ge-true (length bytes) (length bytes) 40960 refl p.long) p.name in
    goes-if (nat_le 40960 (length bytes) && has_image_name bytes) (in_versions (version_of (slice_index_or bytes 7 0)) bytes) None both
    ∙ ap (λ (v : Option Version). in_versions v bytes) p.version
    ∙ ap (λ (r : Result Found ℕ). Some r) (then-goes (image_one bytes) found (λ f. Ok (of_one f)) (one-join bytes found p))
