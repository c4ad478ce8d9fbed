-- The items of XDR as bytes, by RFC 1014: each item is a multiple of four bytes, and has one spelling.
use Rattle.std.specs.Prelude.{ℕ, ◌+◌, ◌-◌, ◌%◌, Bool, true, false, List, ◌++◌, length, replicate}
use Rattle.std.specs.Int.{w32, w64, to_be_bytes}

-- an unsigned integer: four bytes, the highest first (section 3.2)
unfoldable pub word : ℕ → List ℕ
word n = to_be_bytes w32 n

-- an unsigned hyper integer: eight bytes, the highest first (section 3.5)
unfoldable pub hyper : ℕ → List ℕ
hyper n = to_be_bytes w64 n

-- the number of a boolean (section 3.4)
abbrev pub truth : Bool → ℕ
truth false = 0
truth true = 1

-- a boolean: the word 0 or 1 (section 3.4)
unfoldable pub boolean : Bool → List ℕ
boolean b = word (truth b)

-- how many residual bytes bring n bytes to a multiple of four (section 3.9)
abbrev pub residual : ℕ → ℕ
residual n = (4 - n % 4) % 4

-- the residual bytes after n bytes, all of them zero
unfoldable pub padding : ℕ → List ℕ
padding n = replicate (residual n) 0

-- variable-length opaque data: its length, its bytes, and the residual bytes (section 3.9)
unfoldable pub opaque : List ℕ → List ℕ
opaque body = word (length body) ++ (body ++ padding (length body))

-- how many bytes the opaque data of n bytes takes
abbrev pub opaque_len : ℕ → ℕ
opaque_len n = 4 + n + residual n
