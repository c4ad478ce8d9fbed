-- Which asks are carried out: each whose number is above all before it.
use Rattle.std.specs.Prelude.{ℕ, ◌<◌, List, [], ◌∷◌, nat_lt, if◌then◌else◌}

-- the last number behind an ask
abbrev pub last_behind : (last number : ℕ) → ℕ
last_behind last number = if nat_lt last number then number else last

-- the numbers of a list that are carried out behind a last one
unfoldable pub carried : (last : ℕ) → List ℕ → List ℕ
carried last [] = []
carried last (number ∷ numbers) =
    if nat_lt last number then number ∷ carried number numbers else carried last numbers

-- numbers that rise from above a last one, so that none stands there twice
abbrev pub AreAbove : (last : ℕ) → List ℕ → Type 0
AreAbove last [] = Unit {0}
AreAbove last (number ∷ numbers) = (last < number) × AreAbove number numbers
