-- The line of an offer.
use Rattle.std.specs.Prelude.{ℕ, ◌-◌, List, Option, Some, None, codes, nat_lt, if◌then◌else◌}
use Rattle.nq_script.specs.Reading.{after}
use Rattle.nq_script.specs.WordsReading.{number_of}

-- the host that a word writes, below so many hosts
abbrev pub host_of : (hosts : ℕ) → Option (List ℕ) → Option ℕ
host_of hosts None = None
host_of hosts (Some word) = if nat_lt 0 hosts then number_of (hosts - 1) word else None

-- the host of a line that has `stage`, a blank, and the host
unfoldable pub stage_line : (hosts : ℕ) → List ℕ → Option ℕ
stage_line hosts line = host_of hosts (after (codes "stage ") line)
