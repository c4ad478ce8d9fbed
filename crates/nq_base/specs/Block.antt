use Rattle.std.specs.Prelude.{ℕ, List, [], ◌∷◌, ◌++◌, ◌+◌, ◌*◌, ◌/◌, ◌%◌, zero, suc}

-- the four bytes of a number, the highest first (RFC 1014 section 3.2)
abbrev pub word : ℕ → List ℕ
word v = v / 16777216 ∷ v / 65536 % 256 ∷ v / 256 % 256 ∷ v % 256 ∷ []

-- a word, so many times over
abbrev pub repeated : ℕ → ℕ → List ℕ
repeated zero v = []
repeated (suc times) v = word v ++ repeated times v

-- a block that is filled with a number: its word, 1024 times over
unfoldable pub filled : ℕ → List ℕ
filled v = repeated 1024 v

-- a block as it is before any write
unfoldable pub zeros : List ℕ
zeros = filled 0

-- the value of a block: the number in its first four bytes
abbrev pub value_of : List ℕ → ℕ
value_of (a ∷ b ∷ c ∷ d ∷ rest) = a * 16777216 + b * 65536 + c * 256 + d
value_of short = 0
