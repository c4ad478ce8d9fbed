-- The rows of the hosts in an image.
use Rattle.std.specs.Prelude.{ℕ, ◌+◌, ◌==◌, List, [], ◌∷◌, ◌++◌, Option, Some, None, take, drop, nat_lt, is_some, unwrap_or, zero, suc, if◌then◌else◌}
use Rattle.nq_base.specs.declared.HostRow.{HostRow}
use Rattle.nq_base.specs.declared.Verdict.{Verdict}
use Rattle.nq_image.specs.Check.{Check, check}
use Rattle.nq_image.specs.Layout.{piece, word_in, hyper_in, are_zeros}

-- the verdict of a number
unfoldable pub verdict_of : ℕ → Option Verdict
verdict_of n =
    if n == 0 then Some Verdict.Done
    else if n == 1 then Some Verdict.Fenced
    else if n == 2 then Some Verdict.Exist
    else if n == 3 then Some Verdict.NoSpace
    else if n == 4 then Some Verdict.Invalid
    else if n == 5 then Some Verdict.Stale
    else if n == 6 then Some Verdict.TryLater
    else None

-- what a host's row has to be: its incarnation is below 2^31, its verdict is one, its sequence is below 2^61, and its last
-- eight bytes are zeros. Its value may be any
abbrev pub host_checks : (place : ℕ) (row : List ℕ) → List Check
host_checks place row =
    check place (nat_lt (word_in 0 row) 2147483648)
    ∷ check (place + 4) (is_some (verdict_of (word_in 4 row)))
    ∷ check (place + 8) (nat_lt (hyper_in 8 row) 2305843009213693952)
    ∷ check (place + 24) (are_zeros (piece 24 8 row))
    ∷ []

-- the host row that stands in these bytes
unfoldable pub host_of : (row : List ℕ) → HostRow
host_of row = record {
  inc = word_in 0 row;
  seq = hyper_in 8 row;
  verdict = unwrap_or (verdict_of (word_in 4 row)) Verdict.Done;
  value = hyper_in 16 row;
}

-- what so many rows have to be, of which the first stands at a place
unfoldable pub hosts_checks : (count place : ℕ) (rows : List ℕ) → List Check
hosts_checks zero place rows = []
hosts_checks (suc count) place rows = host_checks place (take 32 rows) ++ hosts_checks count (place + 32) (drop 32 rows)

-- the host rows that stand there
unfoldable pub hosts_of : (count : ℕ) (rows : List ℕ) → List HostRow
hosts_of zero rows = []
hosts_of (suc count) rows = host_of (take 32 rows) ∷ hosts_of count (drop 32 rows)
