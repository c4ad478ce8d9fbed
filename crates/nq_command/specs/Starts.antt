-- The starts of a host, as a file tells them and as the machine's clock numbers them.
use Rattle.std.specs.Fmt.{decimal}
use Rattle.std.specs.Prelude.{ℕ, ◌+◌, ◌-◌, ◌&&◌, nat_lt, List, [], ◌∷◌, ◌++◌, Option, Some, None, if◌then◌else◌}
use Rattle.nq_base.specs.Steps.{◌>>=◌}
use Rattle.nq_script.specs.WordsReading.{cut, number_of}

-- the text that tells a start
abbrev pub start_line : (start : ℕ) → List ℕ
start_line start = decimal start ++ 10 ∷ []

-- the seconds from the start of 1970 to that of 2020 (UTC)
abbrev pub first_day : ℕ
first_day = 1577836800

-- a start that is at least this one: how many seconds it is since 2020, by those since 1970, where that is greater. An incarnation from
-- 2 ^ 31 on does not attach, so seconds from then on are not looked at
unfoldable pub risen : (start seconds : ℕ) → ℕ
risen start seconds =
    if nat_lt start (seconds - first_day) && nat_lt (seconds - first_day) 2147483648 then seconds - first_day else start

-- the start that digits tell, which stand alone in their line, if it is not the last one that attaches
abbrev pub start_told : (digits rest : List ℕ) → Option ℕ
start_told digits [] = number_of 2147483646 digits
start_told digits (more ∷ rest) = None

-- the start that a text tells; None where the text tells none, or that was the last one
abbrev pub last_start : List ℕ → Option ℕ
last_start text = cut 10 text >>= λ parts. start_told parts.0 parts.1

-- the start behind the one that a text tells, at so many seconds since 1970
abbrev pub next_start : (text : List ℕ) → (seconds : ℕ) → Option ℕ
next_start text seconds = last_start text >>= λ last. Some (risen (1 + last) seconds)
