-- The text of an address book.
use Rattle.std.specs.Prelude.{◌≡◌, ◌+◌, ◌-◌, ◌^◌, ℕ, List, [], ◌∷◌, ◌++◌, Result, Ok, Err, length, min}
use Rattle.std.specs.List.{AllByRecursion}
use Rattle.nq_book.specs.Lines.{TakesLine}
use Rattle.nq_book.specs.declared.texts.BadLine.{BadLine}
use Rattle.nq_script.specs.Text.{Lacks}
use Rattle.nq_udp.specs.Book.{Listed, empty_book}

-- lines, each with its end, and what stands behind them
abbrev pub lines_then : (lines : List (List ℕ)) → (behind : List ℕ) → List ℕ
lines_then [] behind = behind
lines_then (line ∷ lines) behind = line ++ 10 ∷ lines_then lines behind

-- lines were taken in, one behind another
abbrev pub Follows : List (List ℕ) → (book book' : Listed) → Type 0
Follows [] book book' = book' ≡ book
Follows (line ∷ lines) book book' = (between : Listed) × (TakesLine (Ok tt) line book between × Follows lines between book')

-- a text is lines, the last of which may have no end, and taking all of them in makes this book
pub record ReadsOn (text : List ℕ) (book book' : Listed) : Type 0 where
  pub lines : List (List ℕ)
  pub last : List ℕ
  pub between : Listed
  pub whole : text ≡ lines_then lines last
  pub unbroken : AllByRecursion (Lacks 10) lines × Lacks 10 last
  pub follows : Follows lines book between
  pub ends : TakesLine (Ok tt) last between book'

-- a text begins with lines that can be taken in, and behind them stands one that cannot; they are counted from a number on
pub record StopsOn (text : List ℕ) (book : Listed) (number : ℕ) (bad : BadLine) : Type 0 where
  pub lines : List (List ℕ)
  pub line : List ℕ
  pub behind : List ℕ
  pub between : Listed
  pub left : Listed
  pub whole : text ≡ lines_then lines (line ++ behind)
  pub unbroken : AllByRecursion (Lacks 10) lines × Lacks 10 line
  pub follows : Follows lines book between
  pub wrong : TakesLine (Err bad.why) line between left
  pub named : bad.number ≡ min (number + length lines) (2 ^ 32 - 1)

-- what a text is to whoever reads a book: all its lines make the book, or this is the first line that cannot be taken in
abbrev pub ReadsBook : List ℕ → Result Listed BadLine → Type 0
ReadsBook text (Ok book) = ReadsOn text empty_book book
ReadsBook text (Err bad) = StopsOn text empty_book 1 bad
