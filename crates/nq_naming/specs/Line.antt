-- The lines of lists and of finds.
use Rattle.nq_base.specs.Steps.{◌>>=◌}
use Rattle.std.specs.Prelude.{ℕ, ◌-◌, List, [], Option, Some, None, codes, nat_lt, if◌then◌else◌}
use Rattle.std.specs.Str.{bytes_eq}
use Rattle.nq_script.specs.Reading.{after}
use Rattle.nq_script.specs.WordsReading.{cut, name_of, number_of}

-- the host that a word writes, below so many hosts
abbrev pub host_of : (hosts : ℕ) → (word : List ℕ) → Option ℕ
host_of hosts word = if nat_lt 0 hosts then number_of (hosts - 1) word else None

-- the prefix that a word writes: `/` is the empty one, and the bytes of a name are one
abbrev pub prefix_of : (word : List ℕ) → Option (List ℕ)
prefix_of word = if bytes_eq word (codes "/") then Some [] else name_of word

-- a host and what a word behind it writes, of a line that begins so
unfoldable pub of_host : {A : Type 0} → (front : List ℕ) → (written : List ℕ → Option A) → (hosts : ℕ) → List ℕ → Option (ℕ × A)
of_host front written hosts line = do
  rest ← after front line
  parts ← cut 32 rest
  host ← host_of hosts parts.0
  value ← written parts.1
  Some (host, value)

-- the host and the directory of a line that has `list`, a blank, the host, a blank, and the prefix
abbrev pub list_line : (hosts : ℕ) → List ℕ → Option (ℕ × List ℕ)
list_line hosts line = of_host (codes "list ") prefix_of hosts line

-- the host and the name of a line that has `find`, a blank, the host, a blank, and the name
abbrev pub find_line : (hosts : ℕ) → List ℕ → Option (ℕ × List ℕ)
find_line hosts line = of_host (codes "find ") name_of hosts line
