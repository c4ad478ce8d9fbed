-- The first line of a text that is no journal's.
use Rattle.std.specs.Prelude.{◌≡◌, ◌≢◌, ℕ, ◌+◌, List, [], ◌∷◌, ◌++◌, length, All}
use Rattle.std.specs.List.{flat_map}
use Rattle.nq_base.specs.declared.Entry.{Entry}
use Rattle.nq_journal.specs.Text.{IsText}

-- some bytes without a line feed
abbrev pub IsUnbroken : List ℕ → Type 0
IsUnbroken bytes = All (λ b. b ≢ 10) bytes

-- a line with its line feed
abbrev pub ended : List ℕ → List ℕ
ended bytes = bytes ++ 10 ∷ []

-- these bytes are so many whole lines
pub record AreLines (count : ℕ) (bytes : List ℕ) : Type 0 where
  pub lines : List (List ℕ)
  pub counted : length lines ≡ count
  pub unbroken : All IsUnbroken lines
  pub whole : bytes ≡ flat_map ended lines

-- a journal's text
pub record IsJournal (bytes : List ℕ) : Type 0 where
  pub version : ℕ
  pub entries : List Entry
  pub text : IsText version entries bytes

-- some journal's text begins with these bytes
pub record Begins (bytes : List ℕ) : Type 0 where
  pub more : List ℕ
  pub journal : IsJournal (bytes ++ more)

-- The text is no journal's, and this is its first faulty line: a journal's text begins with the lines before it, and
-- none begins with these and with this line, where it is a whole one.
pub record IsFaultyAt (number : ℕ) (bytes : List ℕ) : Type 0 where
  pub count : ℕ
  pub numbered : number ≡ count + 1
  pub front : List ℕ
  pub rest : List ℕ
  pub split : bytes ≡ front ++ rest
  pub before : AreLines count front
  pub begins : Begins front
  pub wrong : (line after : List ℕ) → IsUnbroken line → rest ≡ ended line ++ after → ¬ Begins (front ++ ended line)
  pub no_journal : ¬ IsJournal bytes
