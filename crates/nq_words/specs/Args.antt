-- How the words behind a program's name are read, from the left.
use Rattle.std.specs.Prelude.{◌≡◌, ℕ, ◌==◌, Bool, false, nat_lt, List, [], ◌∷◌, Option, Some, None, if◌then◌else◌, codes, bytes_eq}
use Rattle.nq_base.specs.Steps.{◌>>=◌}
use Rattle.nq_script.specs.WordsReading.{number_of}
use Rattle.nq_words.specs.Wrongs.{no_number, no_value}
use Rattle.nq_words.specs.declared.args.Next.{Next}
use Rattle.nq_words.specs.declared.args.Sort.{Sort}

-- whether a word begins as options do, with `-`
abbrev pub begins_option : (word : List ℕ) → Bool
begins_option [] = false
begins_option (first ∷ rest) = first == 45

-- what a word is
unfoldable pub sort_of : (word : List ℕ) → Sort
sort_of word =
    if bytes_eq word (codes "--help") then Sort.Help
    else if bytes_eq word (codes "--version") then Sort.Version
    else if begins_option word then Sort.Flag
    else Sort.Plain

-- what is told of a word
abbrev pub Says : Next → (word : List ℕ) → Type 0
Says Next.End word = ⊥
Says Next.Help word = word ≡ codes "--help"
Says Next.Version word = word ≡ codes "--version"
Says (Next.Flag told) word = (told.now ≡ word) × (sort_of word ≡ Sort.Flag)
Says (Next.Plain told) word = (told.now ≡ word) × (sort_of word ≡ Sort.Plain)

-- it is told that no word is left
abbrev pub IsEnd : Next → Type 0
IsEnd Next.End = Unit {0}
IsEnd other = ⊥

-- what is told of words, and which are left behind it
abbrev pub Reads : Next → (words left : List (List ℕ)) → Type 0
Reads next [] left = IsEnd next × (left ≡ [])
Reads next (word ∷ words) left = Says next word × (left ≡ words)

-- the value in front, and the words behind it; None where none is in front, or one that begins as options do
unfoldable pub value_at : List (List ℕ) → Option (List ℕ × List (List ℕ))
value_at [] = None
value_at (word ∷ words) = if begins_option word then None else Some (word, words)

-- the number from a least to a greatest one that a word writes in decimal, without a sign or a needless zero
unfoldable pub ranged_of : (least most : ℕ) → (word : List ℕ) → Option ℕ
ranged_of least most word = do
  value ← number_of most word
  if nat_lt value least then None else Some value

-- the number in front, and the words behind it
unfoldable pub number_at : (least most : ℕ) → List (List ℕ) → Option (ℕ × List (List ℕ))
number_at least most words = do
  value ← value_at words
  number ← ranged_of least most value.0
  Some (number, value.1)

-- what is wrong where the value behind an option, if there is one, is no such number
abbrev pub value_wrong : (flag : List ℕ) → (least most : ℕ) → Option (List ℕ × List (List ℕ)) → List ℕ
value_wrong flag least most None = no_value flag
value_wrong flag least most (Some value) = no_number value.0 (record { least = least; most = most })

-- what is wrong where no such number is in front
abbrev pub number_wrong : (flag : List ℕ) → (least most : ℕ) → List (List ℕ) → List ℕ
number_wrong flag least most words = value_wrong flag least most (value_at words)
