-- Reading a line from the left: a value and what stands behind it, or nothing where it is not spelled there.
use Rattle.std.specs.Prelude.{◌≡◌, ℕ, ◌+◌, ◌-◌, ◌*◌, ◌^◌, ◌==◌, Bool, true, false, not, ◌&&◌, ◌||◌, List, [], ◌∷◌, ◌++◌, length, slice_index, Option}
use Rattle.std.specs.Prelude.{Some, None, nat_lt, nat_le, if◌then◌else◌}
use Rattle.nq_base.specs.Name.{is_name}
use Rattle.nq_base.specs.Steps.{◌>>=◌}
use Rattle.nq_base.specs.declared.Tag.{Tag}
use Rattle.nq_base.specs.declared.Who.{Who}

-- a value, if it passes a test
abbrev pub only_if : {A : Type 0} → Bool → A → Option A
only_if test x = if test then Some x else None

-- bytes more in front of the first part
abbrev pub with_front : List ℕ → Option (List ℕ × List ℕ) → Option (List ℕ × List ℕ)
with_front front None = None
with_front front (Some parts) = Some (front ++ parts.0, parts.1)

-- what stands before the first byte of this kind, and what stands behind it
unfoldable pub cut : (stop : ℕ) → List ℕ → Option (List ℕ × List ℕ)
cut stop [] = None
cut stop (b ∷ bytes) = if b == stop then Some ([], bytes) else with_front (b ∷ []) (cut stop bytes)

-- a byte more in front of the first word
abbrev pub with_first : ℕ → List (List ℕ) → List (List ℕ)
with_first b [] = (b ∷ []) ∷ []
with_first b (word ∷ words) = (b ∷ word) ∷ words

-- the words of a line, which stand between its blanks
unfoldable pub words_of : List ℕ → List (List ℕ)
words_of [] = [] ∷ []
words_of (b ∷ bytes) = if b == 32 then [] ∷ words_of bytes else with_first b (words_of bytes)

-- the words of a line that are left, if any of it is
abbrev pub words_left : Option (List ℕ) → List (List ℕ)
words_left None = []
words_left (Some line) = words_of line

-- a decimal digit
abbrev pub is_digit : ℕ → Bool
is_digit b = nat_le 48 b && nat_lt b 58

-- the number that a digit more makes, if it is below 2^64
unfoldable pub with_digit : ℕ → ℕ → Option ℕ
with_digit n b = only_if (is_digit b && nat_lt (n * 10 + (b - 48)) (2 ^ 64)) (n * 10 + (b - 48))

-- the number that goes on with these digits, if it is below 2^64
unfoldable pub digits_after : ℕ → List ℕ → Option ℕ
digits_after n [] = Some n
digits_after n (b ∷ bytes) = with_digit n b >>= λ more. digits_after more bytes

-- a word that can be a number's: it is not empty and has no needless zero in front
abbrev pub is_plain : List ℕ → Bool
is_plain word = not (length word == 0) && ((length word == 1) || not (slice_index word 0 == 48))

-- a number below 2^64
unfoldable pub u64_of : List ℕ → Option ℕ
u64_of word = if is_plain word then digits_after 0 word else None

-- a number below 2^32
unfoldable pub u32_of : List ℕ → Option ℕ
u32_of word = u64_of word >>= λ n. only_if (nat_lt n (2 ^ 32)) n

-- a number up to a greatest one
unfoldable pub number_of : (most : ℕ) → (word : List ℕ) → Option ℕ
number_of most word = u64_of word >>= λ n. only_if (nat_le n most) n

-- a name
unfoldable pub name_of : List ℕ → Option (List ℕ)
name_of word = only_if (is_name word) word

-- the first word
abbrev pub word_at : List (List ℕ) → Option (List ℕ × List (List ℕ))
word_at [] = None
word_at (word ∷ words) = Some (word, words)

-- a number below 2^64 in front
unfoldable pub u64_at : List (List ℕ) → Option (ℕ × List (List ℕ))
u64_at words = do
  word ← word_at words
  n ← u64_of word.0
  Some (n, word.1)

-- a number below 2^32 in front
unfoldable pub u32_at : List (List ℕ) → Option (ℕ × List (List ℕ))
u32_at words = do
  word ← word_at words
  n ← u32_of word.0
  Some (n, word.1)

-- a name in front
unfoldable pub name_at : List (List ℕ) → Option (List ℕ × List (List ℕ))
name_at words = do
  word ← word_at words
  name ← name_of word.0
  Some (name, word.1)

-- an incarnation in front
unfoldable pub who_at : List (List ℕ) → Option (Who × List (List ℕ))
who_at words = do
  host ← u32_at words
  inc ← u32_at host.1
  Some (record { host = host.0; inc = inc.0 }, inc.1)

-- a file and a block
unfoldable pub place_at : List (List ℕ) → Option ((ℕ × ℕ) × List (List ℕ))
place_at words = do
  file ← u32_at words
  block ← u32_at file.1
  Some ((file.0, block.0), block.1)

-- whether no word is left
abbrev pub is_done : List (List ℕ) → Bool
is_done [] = true
is_done (word ∷ words) = false

-- a tag in front
unfoldable pub tag_at : List (List ℕ) → Option (Tag × List (List ℕ))
tag_at words = do
  boot ← u32_at words
  number ← u64_at boot.1
  Some (record { boot = boot.0; number = number.0 }, number.1)

-- A call gave what reading gives, seen by view, and left these words; or it gave nothing, and reading gives nothing.
abbrev pub Takes : {X Y : Type 0} → (X → Y) → Option X → List (List ℕ) → Option (Y × List (List ℕ)) → Type 0
Takes view None left read = read ≡ None
Takes view (Some x) left read = read ≡ Some (view x, left)
