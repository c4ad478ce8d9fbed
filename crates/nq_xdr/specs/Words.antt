-- A word that is repeated among bytes.
use Rattle.std.specs.Prelude.{ℕ, List, [], ◌++◌, zero, suc}

-- a word, so many times over
abbrev pub repeats : ℕ → List ℕ → List ℕ
repeats zero word = []
repeats (suc times) word = word ++ repeats times word

-- a word, 64 times over
unfoldable pub many : List ℕ → List ℕ
many word = repeats 64 word
