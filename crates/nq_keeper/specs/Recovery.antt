-- A boot that recovers.
use Rattle.std.specs.Prelude.{ℕ, ◌+◌, ◌≤◌, max}
use Rattle.nq_model.specs.protocol.Profile.{shortest_term, longest_term, write_slack}

-- a longest term is one that a server can be told to grant
pub record IsTerm (longest : ℕ) : Type 0 where
  pub long : shortest_term ≤ longest
  pub short : longest ≤ longest_term

-- a boot that recovers: its number, the boot that served last, its own longest term, the time until which it recovers at
-- least, and when a write was last heard
pub record Recovery : Type 0 where
  pub boot : ℕ
  pub opened : ℕ
  pub longest : ℕ
  pub until : ℕ
  pub heard : ℕ

-- a write was heard now: the recovery goes on for the write slack at least
unfoldable pub after_write : Recovery → (now : ℕ) → Recovery
after_write r now = record r { until = max r.until (now + write_slack); heard = now }
