-- An image of version 1 is what its first bytes say.
use Rattle.std.proofs.Common.{◌≡◌, ◌≤◌, ◌&&◌, ℕ, Bool, true, false, List, [], ◌∷◌, Option, Some, None, Result, Ok, Err, length, if◌then◌else◌, refl}
use Rattle.std.proofs.Common.{sym, ap, ◌∙◌, inl, arith}
use Rattle.std.specs.Cmp.Lexicographic.{pointwise}
use Rattle.std.specs.Prelude.{nat_eq, nat_le, slice_index_or, sum_by}
use Rattle.nq_base.specs.declared.HostRow.{HostRow}
use Rattle.nq_plan.specs.Standing.{begins_as_image, image_area, stands_as}
use Rattle.nq_image.specs.Check.{tested}
use Rattle.nq_image.specs.Heads.{boots_checks, boots_of, version_of}
use Rattle.nq_image.specs.Hosts.{hosts_checks, hosts_of}
use Rattle.nq_image.specs.Image.{FoundOne, FoundRows, ◌>>=◌, image_one, reached, rows_in}
use Rattle.nq_image.specs.Kept.{opened, stands_for}
use Rattle.nq_image.specs.Layout.{are_zeros, piece}
use Rattle.nq_image.specs.Rows.{blocks_of, rows_checks, slots_of}
use Rattle.nq_image.specs.Whole.{Found, has_image_name, image_in, in_versions, of_one}
use Rattle.nq_image.specs.declared.Boots.{Boots}
use Rattle.nq_image.specs.declared.Slot.{Slot}
use Rattle.nq_image.specs.declared.Version.{Version}
use Rattle.nq_image.proofs.Imaging.{goes-if}
use Rattle.nq_image.proofs.Pieces.{piece-by-first, piece-of-first}
use Rattle.nq_disk.specs.Record.{blanked}
use Rattle.nq_disk.specs.Whole.{IsClosed}
use Rattle.nq_disk.proofs.Opening.{blanked-outside, length-blanked}
use Rattle.nq_store.specs.Head.{head_one, if_reached}
use Rattle.nq_store.proofs.Leaving.{blank-rows, both-begin, closed-found, stands-found}

abbrev blank : List ℕ → List ℕ
blank bytes = blanked 28672 12288 bytes

-- ---- the rows

abbrev rows-of-parts : (hosts rows gap : List ℕ) → Result FoundRows ℕ
rows-of-parts hosts rows gap =
    let made : List HostRow → List (Option Slot) → FoundRows = λ h s. record { hosts = h; slots = s } in
    tested (hosts_checks 64 64 hosts) (hosts_of 64 hosts) >>= λ h. tested (rows_checks Version.One 256 2112 [] rows) (slots_of 256 rows) >>= λ s.
    if are_zeros gap then Ok (made h s) else Err 26688

rows-same : (one two : List ℕ) → piece 64 2048 one ≡ piece 64 2048 two → piece 2112 24576 one ≡ piece 2112 24576 two → piece 26688 1984 one
    ≡ piece 26688 1984 two → rows_in Version.One one ≡ rows_in Version.One two
unfolding rows_in
rows-same one two hosts rows gap =
    ap (λ (p : List ℕ). rows-of-parts p (piece 2112 24576 one) (piece 26688 1984 one)) hosts
    ∙ ap (λ (p : List ℕ). rows-of-parts (piece 64 2048 two) p (piece 26688 1984 one)) rows
    ∙ ap (λ (p : List ℕ). rows-of-parts (piece 64 2048 two) (piece 2112 24576 two) p) gap

abbrev made : Boots → FoundRows → FoundOne
made boots rows = record { boots = boots; rows = rows }

abbrev one-of-parts : (front : List ℕ) → Result FoundRows ℕ → (size : ℕ) → Result FoundOne ℕ
one-of-parts front rows size =
    tested (boots_checks front) (boots_of front) >>= λ b. rows >>= λ r. reached size (sum_by blocks_of r.slots) >>= λ x. Ok (made b r)

then-reached : (boots : Result Boots ℕ) (rows : Result FoundRows ℕ) (size : ℕ) → (boots >>= λ b. rows >>= λ r. reached size (sum_by blocks_of r.slots)
    >>= λ x. Ok (made b r)) ≡ ((boots >>= λ b. rows >>= λ r. Ok (made b r)) >>= if_reached size)
then-reached (Ok b) (Ok r) size = refl
then-reached (Ok b) (Err p) size = refl
then-reached (Err p) rows size = refl

pub as-head : (bytes : List ℕ) → image_one bytes ≡ (head_one (piece 0 28672 bytes) >>= if_reached (length bytes))
unfolding image_one head_one
as-head bytes =
    let head = piece 0 28672 bytes in
    let front = piece-of-first 28672 0 64 bytes (omega arith) in
    let rows = rows-same head bytes (piece-of-first 28672 64 2048 bytes (omega arith)) (piece-of-first 28672 2112 24576 bytes (omega arith))
    (piece-of-first 28672 26688 1984 bytes (omega arith)) in
    ap (λ (p : List ℕ). one-of-parts p (rows_in Version.One bytes) (length bytes)) (sym front)
    ∙ ap (λ (r : Result FoundRows ℕ). one-of-parts (piece 0 64 head) r (length bytes)) (sym rows)
    ∙ then-reached (tested (boots_checks (piece 0 64 head)) (boots_of (piece 0 64 head))) (rows_in Version.One head) (length bytes)

one-same : (one two : List ℕ) → length one ≡ length two → piece 0 28672 one ≡ piece 0 28672 two → image_one one ≡ image_one two
unfolding image_one
one-same one two size same =
    let rows = rows-same one two (piece-by-first 28672 64 2048 one two (omega arith) same) (piece-by-first 28672 2112 24576 one two (omega arith)
    same) (piece-by-first 28672 26688 1984 one two (omega arith) same) in
    ap (λ (p : List ℕ). one-of-parts p (rows_in Version.One one) (length one)) (piece-by-first 28672 0 64 one two (omega arith) same)
    ∙ ap (λ (r : Result FoundRows ℕ). one-of-parts (piece 0 64 two) r (length one)) rows
    ∙ ap (λ (n : ℕ). one-of-parts (piece 0 64 two) (rows_in Version.One two) n) size

-- ---- what it stands for

is-one : version_of 49 ≡ Some Version.One
unfolding version_of
is-one = refl

abbrev found-of : Result FoundOne ℕ → Result Found ℕ
found-of r = r >>= λ f. Ok (of_one f)

image-is : (bytes : List ℕ) → begins_as_image bytes ≡ true → slice_index_or bytes 7 0 ≡ 49 → image_in bytes ≡ Some (found-of (image_one bytes))
unfolding image_in
image-is bytes begins one =
    goes-if (nat_le 40960 (length bytes) && has_image_name bytes) (in_versions (version_of (slice_index_or bytes 7 0)) bytes) None begins
    ∙ ap (λ (v : Option Version). in_versions v bytes) (ap version_of one ∙ is-one)

pub right-one : (bytes : List ℕ) (found : FoundOne) → begins_as_image bytes ≡ true → slice_index_or bytes 7 0 ≡ 49 → image_one bytes ≡ Ok found
    → image_in bytes ≡ Some (Ok (of_one found))
right-one bytes found begins one is = image-is bytes begins one ∙ ap (λ (r : Result FoundOne ℕ). Some (found-of r)) is

each-of : (a b : Bool) → (a && b) ≡ true → b ≡ true
each-of true b h = h
each-of false b h = cc

name-same : (one two : List ℕ) → 40960 ≤ length one → piece 0 28672 one ≡ piece 0 28672 two → begins_as_image two ≡ true → begins_as_image one ≡ true
name-same one two long same begins =
    both-begin one long (ap (λ (b : List ℕ). pointwise nat_eq b (78 ∷ 81 ∷ 78 ∷ 70 ∷ 83 ∷ 73 ∷ 77 ∷ [])) (piece-by-first 28672 0 7 one two
    (omega arith) same) ∙ each-of (nat_le 40960 (length two)) (has_image_name two) begins)

pub wrong-one : (bytes : List ℕ) (place : ℕ) → IsClosed image_area bytes → begins_as_image bytes ≡ true → slice_index_or bytes 7 0 ≡ 49
    → image_one bytes ≡ Err place → stands_as bytes ≡ Some (Err place)
unfolding opened
wrong-one bytes place closed begins one is =
    let long = closed.long in
    let size = length-blanked 28672 12288 0 bytes (omega (arith, long)) in
    let rows = blank-rows bytes (omega (arith, long)) in
    let eighth = blanked-outside 28672 12288 0 bytes 7 (inl (omega arith)) ∙ one in
    stands-found bytes (blank bytes) begins (closed-found bytes closed)
    ∙ ap (stands_for (blank bytes)) (image-is (blank bytes) (name-same (blank bytes) bytes (omega (arith, size, long)) rows begins) eighth
    ∙ ap (λ (r : Result FoundOne ℕ). Some (found-of r)) (one-same (blank bytes) bytes size rows ∙ is))
