-- The head of a schedule.
use Rattle.std.specs.Prelude.{◌≡◌, ℕ, ◌≤◌, ◌==◌, List, [], ◌∷◌, ◌++◌, length, map, codes, if◌then◌else◌}
use Rattle.std.specs.Fmt.{decimal}
use Rattle.std.specs.List.{AllByRecursion, sum_by}
use Rattle.nq_base.specs.Name.{AreDistinct, IsName}
use Rattle.nq_script.specs.Text.{IsVersion, spaced}
use Rattle.nq_script.specs.declared.heads.Head.{Head}

-- a file that a head may have: its name, and 1 to 1024 blocks
abbrev pub IsFile : List ℕ × ℕ → Type 0
IsFile f = IsName f.0 × (1 ≤ f.1) × (f.1 ≤ 1024)

-- how many blocks the files have together
abbrev pub blocks_of : List (List ℕ × ℕ) → ℕ
blocks_of files = sum_by (λ f. f.1) files

-- files that a head may have: at most 256 of distinct names, with at most 16,384 blocks together
pub record FitFiles (files : List (List ℕ × ℕ)) : Type 0 where
  pub each : AllByRecursion IsFile files
  pub few_files : length files ≤ 256
  pub few_blocks : blocks_of files ≤ 16384
  pub distinct : AreDistinct files

-- the most ticks of a term in a version
abbrev pub most_term : (version : ℕ) → ℕ
most_term version = if version == 1 then 60 else 600

-- a longest term that a version may have
abbrev pub IsLongest : (version longest : ℕ) → Type 0
IsLongest version longest = (5 ≤ longest) × (longest ≤ 600) × (version ≡ 1 → longest ≡ 60)

-- The version, the number of hosts, the term and the longest term that a head may have: 1 to 64 hosts, and terms of 5 to
-- 600 ticks; in version 1 the longest term is 60, and the term is not longer.
pub record AreSettings (version hosts term longest : ℕ) : Type 0 where
  pub known : IsVersion version
  pub some_hosts : 1 ≤ hosts
  pub few_hosts : hosts ≤ 64
  pub long_term : 5 ≤ term
  pub short_term : term ≤ most_term version
  pub fit_longest : IsLongest version longest

-- a head that has a spelling: its settings may be, and its files fit
pub record FitsHead (head : Head) : Type 0 where
  pub settings : AreSettings head.version head.hosts head.term head.longest
  pub files : FitFiles head.files

-- the line of a file
abbrev pub file_line : List ℕ × ℕ → List ℕ
file_line f = spaced (codes "file" ∷ f.0 ∷ decimal f.1 ∷ [])

-- the first line
abbrev pub version_line : ℕ → List ℕ
version_line version = spaced (codes "nqnfs-schedule" ∷ decimal version ∷ [])

-- the line that says how many hosts there are
abbrev pub hosts_line : ℕ → List ℕ
hosts_line hosts = spaced (codes "hosts" ∷ decimal hosts ∷ [])

-- the line that says for which term clients ask
abbrev pub term_line : ℕ → List ℕ
term_line term = spaced (codes "term" ∷ decimal term ∷ [])

-- the line that says which term is the longest that a server is booted with
abbrev pub longest_line : ℕ → List ℕ
longest_line longest = spaced (codes "longest" ∷ decimal longest ∷ [])

-- version 2 has that line
abbrev pub longest_lines : (version longest : ℕ) → List (List ℕ)
longest_lines version longest = if version == 1 then [] else longest_line longest ∷ []

-- the lines above those of the files
abbrev pub settings_lines : (version hosts term longest : ℕ) → List (List ℕ)
settings_lines version hosts term longest = version_line version ∷ hosts_line hosts ∷ term_line term ∷ longest_lines version longest

-- the number of the line behind these
abbrev pub first_file : (version : ℕ) → ℕ
first_file version = if version == 1 then 4 else 5

-- the lines of the files, and `begin`
abbrev pub file_lines : List (List ℕ × ℕ) → List (List ℕ)
file_lines files = map file_line files ++ codes "begin" ∷ []

-- the lines of a head, from the first one to `begin`
abbrev pub head_lines : Head → List (List ℕ)
head_lines head = settings_lines head.version head.hosts head.term head.longest ++ file_lines head.files
