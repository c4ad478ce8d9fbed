-- What the test of skew keeps for each host.
use Rattle.std.specs.Prelude.{ℕ, ◌+◌, ◌≤◌, List, [], ◌∷◌, Option, Some, None, nat_lt, if◌then◌else◌, slice_get, unwrap_or, zero, suc}
use Rattle.nq_base.specs.declared.SkewBroken.{SkewBroken}

-- For one host: of the parts of the history that end now and in which the server's clock ticks at least one, two or
-- three times more often than the host's, the fewest ticks of the host's clock. None where each such part has more of
-- them than the window.
pub record Counts : Type 0 where
  pub one_more : Option ℕ
  pub two_more : Option ℕ
  pub three_more : Option ℕ

-- the window, and the counts by host
pub record SkewCounts : Type 0 where
  pub window : ℕ
  pub hosts : List Counts

-- before any event no part is such
abbrev pub no_counts : Counts
no_counts = record { one_more = None; two_more = None; three_more = None }

-- after a tick of the server's clock
abbrev pub after_server_tick : Counts → Counts
after_server_tick c = record { one_more = Some 0; two_more = c.one_more; three_more = c.two_more }

-- one tick of the host's clock more, within the window
abbrev pub one_on : (window : ℕ) → Option ℕ → Option ℕ
one_on window None = None
one_on window (Some count) = if nat_lt count window then Some (count + 1) else None

-- after a tick of the host's clock
abbrev pub after_host_tick : (window : ℕ) → Counts → Counts
after_host_tick window c = record {
  one_more = one_on window c.two_more;
  two_more = one_on window c.three_more;
  three_more = None;
}

-- after a tick of the clock of the host at a place
abbrev pub host_ticked : (window place : ℕ) → List Counts → List Counts
host_ticked window place [] = []
host_ticked window zero (c ∷ hosts) = after_host_tick window c ∷ hosts
host_ticked window (suc place) (c ∷ hosts) = c ∷ host_ticked window place hosts

-- what is broken where a part has the server's clock three ticks ahead within so many ticks of the host's, and ticks
-- once more
abbrev pub broken_by : (host : ℕ) → Option ℕ → Option SkewBroken → Option SkewBroken
broken_by host None higher = higher
broken_by host (Some ticks) higher = Some (record { host = host; server = ticks + 4; client = ticks })

-- the same of the lowest host, where the first of them has this number
abbrev pub first_broken : (host : ℕ) → List Counts → Option SkewBroken
first_broken host [] = None
first_broken host (c ∷ hosts) = broken_by host c.three_more (first_broken (host + 1) hosts)

-- the count that stands at a place
abbrev pub count_at : List (Option ℕ) → ℕ → Option ℕ
count_at counts place = unwrap_or (slice_get counts place) None

-- the counts of three places
abbrev pub counts_of : List (Option ℕ) → Counts
counts_of counts = record { one_more = count_at counts 0; two_more = count_at counts 1; three_more = count_at counts 2 }

-- no count is above this
abbrev pub AreAtMost : ℕ → List (Option ℕ) → Type 0
AreAtMost most [] = Unit {0}
AreAtMost most (None ∷ counts) = AreAtMost most counts
AreAtMost most (Some count ∷ counts) = (count ≤ most) × AreAtMost most counts
