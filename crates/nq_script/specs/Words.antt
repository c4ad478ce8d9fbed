-- Lines of words.
use Rattle.std.specs.Prelude.{ℕ, List, [], ◌∷◌, ◌++◌}
use Rattle.std.specs.List.{flat_map}

-- a word with the blank before it
abbrev pub spaced : List ℕ → List ℕ
spaced word = 32 ∷ word

-- words with one blank between two
unfoldable pub joined : List (List ℕ) → List ℕ
joined [] = []
joined (word ∷ words) = word ++ flat_map spaced words

-- a line: its words and the line feed
unfoldable pub line : List (List ℕ) → List ℕ
line words = joined words ++ 10 ∷ []
