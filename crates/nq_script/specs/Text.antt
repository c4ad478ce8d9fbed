-- Words and lines.
use Rattle.std.specs.Prelude.{◌≡◌, ◌≢◌, ◌⊎◌, ℕ, List, [], ◌∷◌, ◌++◌}
use Rattle.std.specs.List.{AllByRecursion}

-- there are two versions of the text
abbrev pub IsVersion : ℕ → Type 0
IsVersion version = (version ≡ 1) ⊎ (version ≡ 2)

-- words with one blank between two of them, step by step; the same as `joined` (`spaced-joined`)
abbrev pub spaced : List (List ℕ) → List ℕ
spaced [] = []
spaced (word ∷ []) = word
spaced (word ∷ next ∷ words) = word ++ 32 ∷ spaced (next ∷ words)

-- the byte stands nowhere in the text
abbrev pub Lacks : (byte : ℕ) → List ℕ → Type 0
Lacks byte text = AllByRecursion (λ b. b ≢ byte) text

-- lines, each with a line feed at its end
abbrev pub text_of : List (List ℕ) → List ℕ
text_of [] = []
text_of (line ∷ lines) = line ++ 10 ∷ text_of lines
