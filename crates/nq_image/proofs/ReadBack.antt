-- Numbers and zeros are read back, and hosts' rows.
use Rattle.std.proofs.Common.{◌≡◌, ◌≤◌, ◌<◌, ◌^◌, ◌+◌, ◌*◌, ◌==◌, ◌&&◌, ℕ, zero, suc, Bool, true, false, List, [], ◌∷◌, ◌++◌, Result, Ok, Err, Option}
use Rattle.std.proofs.Common.{Some, take, drop, get_or, length, if◌then◌else◌, refl, sym, ap, subst, ◌∙◌, arith, length-append}
use Rattle.std.specs.List.{All}
use Rattle.std.specs.Prelude.{nat_lt, nat_le, is_some, unwrap_or}
use Rattle.std.specs.Int.{w32, from_be_bytes, to_be_bytes}
use Rattle.std.proofs.lemmas.Bool.Decides.{nat_tests}
use Rattle.std.proofs.lemmas.List.{take_at, drop_at, get_or_past, length-replicate}
use Rattle.std.proofs.lemmas.List.Elements.{All-head, All-tail}
use Rattle.std.proofs.lemmas.Nat.{from_be_bytes-to_be_bytes_4, from_be_bytes-to_be_bytes_8}
use Rattle.nq_base.specs.declared.HostRow.{HostRow}
use Rattle.nq_base.specs.declared.Verdict.{Verdict}
use Rattle.nq_model.specs.protocol.Change.{IsHostWithin}
use Rattle.nq_image.specs.Check.{Check, tested}
use Rattle.nq_image.specs.Hosts.{host_checks, host_of, hosts_checks, hosts_of, verdict_of}
use Rattle.nq_image.specs.Layout.{piece, word_in, hyper_in, are_zeros}
use Rattle.nq_image.specs.Writing.{host_bytes, hosts_bytes, number_of, zeros_of}

-- ---- fields that are right

abbrev pub Hold : List Check → Type 0
Hold [] = Unit {0}
Hold (c ∷ checks) = (c.holds ≡ true) × Hold checks

pub hold-append : (front behind : List Check) → Hold front → Hold behind → Hold (front ++ behind)
hold-append [] behind f b = b
hold-append (c ∷ front) behind f b = (f.0, hold-append front behind f.1 b)

held-step : {A : Type 0} (holds : Bool) (p : ℕ) (x : A) (rest : Result A ℕ) → holds ≡ true → rest ≡ Ok x → (if holds then rest else Err p) ≡ Ok x
held-step true p x rest h same = same
held-step false p x rest h same = cc

pub hold-tested : {A : Type 0} (checks : List Check) (x : A) → Hold checks → tested checks x ≡ Ok x
hold-tested [] x h = refl
hold-tested (c ∷ checks) x h = held-step c.holds c.place x (tested checks x) h.0 (hold-tested checks x h.1)

pub hold-if-not : (b : Bool) (xs ys : List Check) → b ≡ false → Hold ys → Hold (if b then xs else ys)
hold-if-not true xs ys e h = cc
hold-if-not false xs ys e h = h

pub hold-if : (b : Bool) (xs ys : List Check) → b ≡ true → Hold xs → Hold (if b then xs else ys)
hold-if true xs ys e h = h
hold-if false xs ys e h = cc

pub subst-two : (P : List ℕ → List ℕ → Type 0) (a b c d : List ℕ) → a ≡ b → c ≡ d → P b d → P a c
subst-two P a b c d e f p = subst (λ (x : List ℕ). P x c) (sym e) (subst (λ (y : List ℕ). P b y) (sym f) p)

-- ---- tests

pub lt-true : (w m n : ℕ) → w ≡ m → m < n → nat_lt w n ≡ true
lt-true w m n e h = grind (arith, nat_tests)

pub le-true : (w m n : ℕ) → w ≡ m → m ≤ n → nat_le w n ≡ true
le-true w m n e h = grind (arith, nat_tests)

pub ge-true : (w m n : ℕ) → w ≡ m → n ≤ m → nat_le n w ≡ true
ge-true w m n e h = grind (arith, nat_tests)

pub and-two : (a b : Bool) → a ≡ true → b ≡ true → (a && b) ≡ true
and-two true b e f = f
and-two false b e f = cc

pub and-three : (a b c : Bool) → a ≡ true → b ≡ true → c ≡ true → (a && b && c) ≡ true
and-three a b c e f g = and-two (a && b) c (and-two a b e f) g

pub le-both : (a b m n : ℕ) → a ≡ m → b ≡ n → m ≤ n → nat_le a b ≡ true
le-both a b m n e f h = grind (arith, nat_tests)

-- ---- parts of bytes

pub piece-there : (place size : ℕ) (front part behind bytes : List ℕ) → bytes ≡ front ++ (part ++ behind) → length front ≡ place → length part ≡ size
    → piece place size bytes ≡ part
unfolding piece
piece-there place size front part behind bytes is at long =
    ap (λ (b : List ℕ). take size (drop place b)) is
    ∙ ap (λ (b : List ℕ). take size b) (drop_at front (part ++ behind) place at)
    ∙ take_at part behind size long

-- ---- numbers and zeros

pub zeros-are : (n : ℕ) → are_zeros (zeros_of n) ≡ true
unfolding zeros_of
zeros-are zero = refl
zeros-are (suc n) = zeros-are n

pub length-zeros : (n : ℕ) → length (zeros_of n) ≡ n
unfolding zeros_of
length-zeros n = length-replicate n 0

each-two : (a b : Bool) → (a && b) ≡ true → (a ≡ true) × (b ≡ true)
each-two true b h = (refl, h)
each-two false b h = cc

is-zero : (n : ℕ) → (n == 0) ≡ true → n ≡ 0
is-zero n h = grind (arith, nat_tests)

zeros-at : (xs : List ℕ) (k : ℕ) → are_zeros xs ≡ true → get_or xs k 0 ≡ 0
zeros-at [] k h = get_or_past [] k 0 (omega arith)
zeros-at (x ∷ xs) zero h = is-zero x (each-two (x == 0) (are_zeros xs) h).0
zeros-at (x ∷ xs) (suc k) h = zeros-at xs k (each-two (x == 0) (are_zeros xs) h).1

zeros-word : (xs : List ℕ) → are_zeros xs ≡ true → from_be_bytes w32 xs ≡ 0
zeros-word xs h = omega (arith, zeros-at xs 0 h, zeros-at xs 1 h, zeros-at xs 2 h, zeros-at xs 3 h)

-- a number that is not 0 has a byte that is not
pub not-zeros : (n : ℕ) (rest : List ℕ) → n < 2 ^ 32 → 1 ≤ n → are_zeros (to_be_bytes w32 n ++ rest) ≡ false
not-zeros n rest lt some = decide (are_zeros (to_be_bytes w32 n ++ rest)) refl
  where
    decide : (b : Bool) → are_zeros (to_be_bytes w32 n ++ rest) ≡ b → b ≡ false
    decide false e = refl
    decide true e =
        let back : from_be_bytes w32 (to_be_bytes w32 n ++ rest) ≡ n = from_be_bytes-to_be_bytes_4 n lt in
        let z = sym back ∙ zeros-word (to_be_bytes w32 n ++ rest) e in
        absurd (omega (arith, z, some))

-- ---- rows of hosts

verdict-back : (v : Verdict) → verdict_of (number_of v) ≡ Some v
unfolding verdict_of
verdict-back Verdict.Done = refl
verdict-back Verdict.Fenced = refl
verdict-back Verdict.Exist = refl
verdict-back Verdict.NoSpace = refl
verdict-back Verdict.Invalid = refl
verdict-back Verdict.Stale = refl
verdict-back Verdict.TryLater = refl

small-number : (v : Verdict) → number_of v < 2 ^ 32
small-number Verdict.Done = omega arith
small-number Verdict.Fenced = omega arith
small-number Verdict.Exist = omega arith
small-number Verdict.NoSpace = omega arith
small-number Verdict.Invalid = omega arith
small-number Verdict.Stale = omega arith
small-number Verdict.TryLater = omega arith

-- the fields of a row are read back
record IsHostBack (row : HostRow) : Type 0 where
  inc : word_in 0 (host_bytes row) ≡ row.inc
  verdict : verdict_of (word_in 4 (host_bytes row)) ≡ Some row.verdict
  seq : hyper_in 8 (host_bytes row) ≡ row.seq
  value : hyper_in 16 (host_bytes row) ≡ row.value
  zeros : are_zeros (piece 24 8 (host_bytes row)) ≡ true

host-back : (row : HostRow) → IsHostWithin row → IsHostBack row
unfolding host_bytes word_in hyper_in piece
host-back row within =
    let inc_fits = within.inc in
    let seq_fits = within.seq in
    record {
      inc = from_be_bytes-to_be_bytes_4 row.inc (omega arith);
      verdict = ap verdict_of (from_be_bytes-to_be_bytes_4 (number_of row.verdict) (small-number row.verdict)) ∙ verdict-back row.verdict;
      seq = from_be_bytes-to_be_bytes_8 row.seq (omega arith);
      value = from_be_bytes-to_be_bytes_8 row.value within.value;
      zeros = refl;
    }

pub length-host : (row : HostRow) → length (host_bytes row) ≡ 32
unfolding host_bytes
length-host row = refl

pub host-holds : (place : ℕ) (row : HostRow) → IsHostWithin row → Hold (host_checks place (host_bytes row))
host-holds place row within =
    let back = host-back row within in (
      lt-true (word_in 0 (host_bytes row)) row.inc 2147483648 back.inc within.inc,
      (
        ap (λ (v : Option Verdict). is_some v) back.verdict,
        (
          lt-true (hyper_in 8 (host_bytes row)) row.seq 2305843009213693952 back.seq within.seq,
          (back.zeros, tt),
        ),
      ),
    )

abbrev host-with : (inc seq value : ℕ) → Option Verdict → HostRow
host-with inc seq value verdict = record { inc = inc; seq = seq; verdict = unwrap_or verdict Verdict.Done; value = value }

same-host : (row : HostRow) (inc seq value : ℕ) (verdict : Option Verdict) → inc ≡ row.inc → seq ≡ row.seq → value ≡ row.value → verdict
    ≡ Some row.verdict → host-with inc seq value verdict ≡ row
same-host row inc seq value verdict a b c d =
    ap (λ (x : ℕ). host-with x seq value verdict) a
    ∙ ap (λ (x : ℕ). host-with row.inc x value verdict) b
    ∙ ap (λ (x : ℕ). host-with row.inc row.seq x verdict) c
    ∙ ap (λ (x : Option Verdict). host-with row.inc row.seq row.value x) d

pub host-is : (row : HostRow) → IsHostWithin row → host_of (host_bytes row) ≡ row
unfolding host_of
host-is row within =
    let back = host-back row within in
    same-host row (word_in 0 (host_bytes row)) (hyper_in 8 (host_bytes row)) (hyper_in 16 (host_bytes row)) (verdict_of (word_in 4 (host_bytes row)))
    back.inc back.seq back.value back.verdict

pub hosts-hold : (place : ℕ) (rows : List HostRow) → All IsHostWithin rows → Hold (hosts_checks (length rows) place (hosts_bytes rows))
unfolding hosts_checks hosts_bytes
hosts-hold place [] all = tt
hosts-hold place (row ∷ rows) all =
    let bytes = host_bytes row ++ hosts_bytes rows in
    let P : List ℕ → List ℕ → Type 0 = λ t d. Hold (host_checks place t ++ hosts_checks (length rows) (place + 32) d) in
    subst-two P (take 32 bytes) (host_bytes row) (drop 32 bytes) (hosts_bytes rows)
    (take_at (host_bytes row) (hosts_bytes rows) 32 (length-host row))
    (drop_at (host_bytes row) (hosts_bytes rows) 32 (length-host row))
    (hold-append (host_checks place (host_bytes row)) (hosts_checks (length rows) (place + 32) (hosts_bytes rows))
    (host-holds place row (All-head IsHostWithin row rows all))
    (hosts-hold (place + 32) rows (All-tail IsHostWithin row rows all)))

pub hosts-are : (rows : List HostRow) → All IsHostWithin rows → hosts_of (length rows) (hosts_bytes rows) ≡ rows
unfolding hosts_of hosts_bytes
hosts-are [] all = refl
hosts-are (row ∷ rows) all =
    let bytes = host_bytes row ++ hosts_bytes rows in
    let P : List ℕ → List ℕ → Type 0 = λ t d. host_of t ∷ hosts_of (length rows) d ≡ row ∷ rows in
    subst-two P (take 32 bytes) (host_bytes row) (drop 32 bytes) (hosts_bytes rows)
    (take_at (host_bytes row) (hosts_bytes rows) 32 (length-host row))
    (drop_at (host_bytes row) (hosts_bytes rows) 32 (length-host row))
    (ap (λ (r : HostRow). r ∷ hosts_of (length rows) (hosts_bytes rows)) (host-is row (All-head IsHostWithin row rows all))
    ∙ ap (λ (l : List HostRow). row ∷ l) (hosts-are rows (All-tail IsHostWithin row rows all)))

pub length-hosts_bytes : (rows : List HostRow) → length (hosts_bytes rows) ≡ 32 * length rows
unfolding hosts_bytes
length-hosts_bytes [] = refl
length-hosts_bytes (row ∷ rows) =
    let a = length-host row in
    let b = length-hosts_bytes rows in
    omega (arith, a, b, length-append (host_bytes row) (hosts_bytes rows))
