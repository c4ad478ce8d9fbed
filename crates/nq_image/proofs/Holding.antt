-- What holds of the rows of an image in which no field is wrong.
use Rattle.std.proofs.Common.{◌≡◌, ◌≤◌, ◌<◌, ◌^◌, ◌+◌, ◌==◌, inl, inr, ℕ, zero, suc, Bool, true, false, ◌&&◌, List, [], ◌∷◌, ◌++◌, Option, Some, None}
use Rattle.std.proofs.Common.{Result, Ok, Err, take, drop, length, get_or, if◌then◌else◌, refl, arith}
use Rattle.std.specs.List.{All, list_any, sum_by}
use Rattle.std.specs.Prelude.{nat_lt, nat_le, not, slice_index_or}
use Rattle.std.proofs.lemmas.Bool.{cases_lt}
use Rattle.std.proofs.lemmas.Bool.Decides.{nat_tests}
use Rattle.std.proofs.lemmas.List.{get_or_past}
use Rattle.std.proofs.lemmas.List.Elements.{All-cons, All-nil, All-head, All-tail, All-take, All-drop}
use Rattle.nq_base.proofs.NameTests.{name_decides}
use Rattle.nq_base.specs.Name.{IsName, is_name}
use Rattle.nq_model.specs.protocol.Change.{IsHostWithin}
use Rattle.nq_image.specs.Bounds.{AreBytes}
use Rattle.nq_image.specs.Check.{Check, check, tested}
use Rattle.nq_image.specs.Hosts.{host_checks, host_of, hosts_checks, hosts_of}
use Rattle.nq_image.specs.Layout.{word_in, hyper_in, are_zeros}
use Rattle.nq_image.specs.Rows.{behind_name, blocks_of, is_named, is_shut, least_not_zeros, name_holds, name_in, row_checks, rows_checks, slot_of}
use Rattle.nq_image.specs.Rows.{slots_of, used_checks, used_slot}
use Rattle.nq_image.specs.Tables.{ids_checks, ids_of, is_id}
use Rattle.nq_image.specs.declared.rows.Slot.{Slot}
use Rattle.nq_image.specs.declared.rows.Version.{Version}

-- ---- tests

pub test-lt : (m n : ℕ) → nat_lt m n ≡ true → m < n
test-lt m n h = grind (arith, nat_tests)

pub test-le : (m n : ℕ) → nat_le m n ≡ true → m ≤ n
test-le m n h = grind (arith, nat_tests)

pub not-true : (b : Bool) → not b ≡ true → b ≡ false
not-true true h = cc
not-true false h = refl

pub each-three : (a b c : Bool) → (a && b && c) ≡ true → (a ≡ true) × (b ≡ true) × (c ≡ true)
each-three true true true h = (refl, refl, refl)
each-three true true false h = cc
each-three true false c h = cc
each-three false b c h = cc

-- ---- checks

abbrev pub Right : Check → Type 0
Right c = c.holds ≡ true

hold-step : {A : Type 0} (holds : Bool) (p : ℕ) (rest : Result A ℕ) (z : A) → (if holds then rest else Err p) ≡ Ok z → (holds ≡ true) × (rest ≡ Ok z)
hold-step true p rest z h = (refl, h)
hold-step false p rest z h = cc

-- where no field is wrong, each is right
pub all-right : {A : Type 0} (checks : List Check) (x z : A) → tested checks x ≡ Ok z → All Right checks
all-right [] x z h = All-nil Right
all-right (c ∷ checks) x z h =
    let s = hold-step c.holds c.place (tested checks x) z h in
    All-cons Right c checks s.0 (all-right checks x z s.1)

pub right-front : (front behind : List Check) → All Right (front ++ behind) → All Right front
right-front [] behind h = All-nil Right
right-front (c ∷ front) behind h =
    All-cons Right c front (All-head Right c (front ++ behind) h) (right-front front behind (All-tail Right c (front ++ behind) h))

pub right-behind : (front behind : List Check) → All Right (front ++ behind) → All Right behind
right-behind [] behind h = h
right-behind (c ∷ front) behind h = right-behind front behind (All-tail Right c (front ++ behind) h)

-- ---- hosts

pub byte-below : (bytes : List ℕ) (k : ℕ) → AreBytes bytes → get_or bytes k 0 < 256
byte-below bytes k all = elim (cases_lt k (length bytes)) [
  | inl lt ↦ all k 0 lt
  | inr le ↦ let past = get_or_past bytes k 0 le in omega (arith, past)
]

pub hyper-below : (place : ℕ) (bytes : List ℕ) → AreBytes bytes → hyper_in place bytes < 2 ^ 64
unfolding hyper_in
hyper-below place bytes all =
    let small = λ (k : ℕ). byte-below (drop place bytes) k (All-drop (λ b. b < 256) place bytes all) in
    omega (arith, small 0, small 1, small 2, small 3, small 4, small 5, small 6, small 7)

host-within : (place : ℕ) (row : List ℕ) → AreBytes row → All Right (host_checks place row) → IsHostWithin (host_of row)
unfolding host_of
host-within place row bytes h =
    let one = h 0 (check 0 true) (omega arith) in
    let two = h 2 (check 0 true) (omega arith) in
    record {
      inc = test-lt (word_in 0 row) 2147483648 one;
      seq = test-lt (hyper_in 8 row) 2305843009213693952 two;
      value = hyper-below 16 row bytes;
    }

pub hosts-within : (count place : ℕ) (rows : List ℕ) → AreBytes rows → All Right (hosts_checks count place rows) → All IsHostWithin (hosts_of count rows)
unfolding hosts_checks hosts_of
hosts-within zero place rows bytes h = All-nil IsHostWithin
hosts-within (suc count) place rows bytes h =
    let front = host_checks place (take 32 rows) in
    let behind = hosts_checks count (place + 32) (drop 32 rows) in
    All-cons IsHostWithin (host_of (take 32 rows)) (hosts_of count (drop 32 rows))
    (host-within place (take 32 rows) (All-take (λ b. b < 256) 32 rows bytes) (right-front front behind h))
    (hosts-within count (place + 32) (drop 32 rows) (All-drop (λ b. b < 256) 32 rows bytes) (right-behind front behind h))

pub length-hosts : (count : ℕ) (rows : List ℕ) → length (hosts_of count rows) ≡ count
unfolding hosts_of
length-hosts zero rows = refl
length-hosts (suc count) rows = let e = length-hosts count (drop 32 rows) in omega (arith, e)

-- ---- rows of files

-- a used row is as it has to be behind these rows
pub record IsSlotRight (version : Version) (before : List (Option Slot)) (slot : Slot) : Type 0 where
  pub not_shut : is_shut version before ≡ false
  pub name : IsName slot.name
  pub own : is_named slot.name before ≡ false
  pub some : 1 ≤ slot.blocks
  pub short : slot.blocks ≤ 1024
  pub few : sum_by blocks_of before + slot.blocks ≤ 16384
  pub rev : slot.rev < 2 ^ 61

abbrev pub IsRowRight : Version → List (Option Slot) → Option Slot → Type 0
IsRowRight version before None = Unit {0}
IsRowRight version before (Some slot) = IsSlotRight version before slot

-- so are these rows, one behind another
abbrev pub AreRowsRight : Version → (before slots : List (Option Slot)) → Type 0
AreRowsRight version before [] = Unit {0}
AreRowsRight version before (slot ∷ slots) = IsRowRight version before slot × AreRowsRight version (before ++ slot ∷ []) slots

used-right : (version : Version) (place : ℕ) (before : List (Option Slot)) (row : List ℕ) → is_shut version before ≡ false
    → All Right (used_checks version place before row) → IsSlotRight version before (used_slot row)
unfolding used_checks used_slot name_holds
used-right version place before row not_shut h =
    let name = each-three (is_name (name_in row)) (are_zeros (behind_name row)) (not (is_named (name_in row) before)) (h 1 (check 0 true) (omega arith)) in
    let count = each-three (nat_le 1 (word_in 68 row)) (nat_le (word_in 68 row) 1024) (nat_le (sum_by blocks_of before + word_in 68 row) 16384)
    (h 2 (check 0 true) (omega arith)) in
    record {
      not_shut = not_shut;
      name = (name_decides (name_in row)).0 name.0;
      own = not-true (is_named (name_in row) before) name.2;
      some = test-le 1 (word_in 68 row) count.0;
      short = test-le (word_in 68 row) 1024 count.1;
      few = test-le (sum_by blocks_of before + word_in 68 row) 16384 count.2;
      rev = test-lt (hyper_in 76 row) 2305843009213693952 (h 4 (check 0 true) (omega arith));
    }

row-by : (zeros shut : Bool) (version : Version) (place : ℕ) (before : List (Option Slot)) (row : List ℕ) → is_shut version before ≡ shut
    → All Right (if zeros then [] else if shut then check (least_not_zeros place row) false ∷ [] else used_checks version place before row)
    → IsRowRight version before (if zeros then None else Some (used_slot row))
row-by true shut version place before row is h = tt
row-by false true version place before row is h = let wrong : false ≡ true = h 0 (check 0 true) (omega arith) in cc
row-by false false version place before row is h = used-right version place before row is h

row-right : (version : Version) (place : ℕ) (before : List (Option Slot)) (row : List ℕ) → All Right (row_checks version place before row)
    → IsRowRight version before (slot_of row)
unfolding row_checks slot_of
row-right version place before row h = row-by (are_zeros row) (is_shut version before) version place before row refl h

pub rows-right : (version : Version) (count place : ℕ) (before : List (Option Slot)) (rows : List ℕ)
    → All Right (rows_checks version count place before rows) → AreRowsRight version before (slots_of count rows)
unfolding rows_checks slots_of
rows-right version zero place before rows h = tt
rows-right version (suc count) place before rows h =
    let front = row_checks version place before (take 96 rows) in
    let behind = rows_checks version count (place + 96) (before ++ slot_of (take 96 rows) ∷ []) (drop 96 rows) in (
      row-right version place before (take 96 rows) (right-front front behind h),
      rows-right version count (place + 96) (before ++ slot_of (take 96 rows) ∷ []) (drop 96 rows) (right-behind front behind h),
    )

pub length-slots : (count : ℕ) (rows : List ℕ) → length (slots_of count rows) ≡ count
unfolding slots_of
length-slots zero rows = refl
length-slots (suc count) rows = let e = length-slots count (drop 96 rows) in omega (arith, e)

-- ---- ids

-- the id of a row is as it has to be behind these ids
abbrev pub IsIdRight : (next : ℕ) (known : List ℕ) → Option Slot → (id : ℕ) → Type 0
IsIdRight next known None id = Unit {0}
IsIdRight next known (Some slot) id = (1 ≤ id) × (id < next) × (list_any (λ k. k == id) known ≡ false)

abbrev pub AreIdsRight : (next : ℕ) (known : List ℕ) → List (Option Slot) → (ids : List ℕ) → Type 0
AreIdsRight next known [] ids = Unit {0}
AreIdsRight next known (slot ∷ slots) ids =
    IsIdRight next known slot (slice_index_or ids 0 0) × AreIdsRight next (known ++ slice_index_or ids 0 0 ∷ []) slots (drop 1 ids)

id-right : (next : ℕ) (known : List ℕ) (slot : Option Slot) (id : ℕ) → is_id next known slot id ≡ true → IsIdRight next known slot id
unfolding is_id
id-right next known None id h = tt
id-right next known (Some slot) id h =
    let three = each-three (nat_le 1 id) (nat_lt id next) (not (list_any (λ k. k == id) known)) h in
    (test-le 1 id three.0, test-lt id next three.1, not-true (list_any (λ k. k == id) known) three.2)

pub ids-right : (next place : ℕ) (known : List ℕ) (slots : List (Option Slot)) (rest : List ℕ) → All Right (ids_checks next place known slots rest)
    → AreIdsRight next known slots (ids_of slots rest)
unfolding ids_checks ids_of
ids-right next place known [] rest h = tt
ids-right next place known (slot ∷ slots) rest h =
    let behind = ids_checks next (place + 4) (known ++ word_in 0 rest ∷ []) slots (drop 4 rest) in
    let first = check place (is_id next known slot (word_in 0 rest)) in (
      id-right next known slot (word_in 0 rest) (All-head Right first behind h),
      ids-right next (place + 4) (known ++ word_in 0 rest ∷ []) slots (drop 4 rest) (All-tail Right first behind h),
    )
