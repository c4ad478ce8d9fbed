-- What is wrong with the words behind a program's name, in words that name the wrong one.
use Rattle.std.specs.Fmt.{decimal}
use Rattle.std.specs.Prelude.{ℕ, List, ◌++◌, codes}
use Rattle.nq_words.specs.declared.wrongs.Bounds.{Bounds}
use Rattle.nq_words.specs.declared.wrongs.Wrong.{Wrong}

-- the value behind an option is missing
abbrev pub no_value : (flag : List ℕ) → List ℕ
no_value flag = flag ++ codes ": the word behind it is missing"

-- a least and a greatest number
abbrev pub bounds_words : Bounds → List ℕ
bounds_words bounds = codes "from " ++ (decimal bounds.least ++ (codes " to " ++ decimal bounds.most))

-- a word is no number within bounds
abbrev pub no_number : (word : List ℕ) → Bounds → List ℕ
no_number word bounds = word ++ (codes ": a number " ++ (bounds_words bounds ++ codes " is wanted"))

-- what is wrong, in words
abbrev pub wrong_words : Wrong → List ℕ
wrong_words (Wrong.Flag word) = word.now ++ codes ": no such option"
wrong_words (Wrong.Extra word) = word.now ++ codes ": a word too many"
wrong_words (Wrong.Word word) = word.now ++ codes ": no such word"
wrong_words (Wrong.NoValue word) = no_value word.now
wrong_words (Wrong.Missing word) = word.now ++ codes " is missing"
wrong_words (Wrong.NoNumber word bounds) = no_number word.now bounds
