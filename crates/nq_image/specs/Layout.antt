-- Where the parts of an image stand. All numbers are big-endian.
use Rattle.std.specs.Prelude.{ℕ, ◌+◌, ◌*◌, ◌-◌, ◌/◌, ◌==◌, Bool, List, take, drop}
use Rattle.std.specs.Int.{w32, w64, from_be_bytes}
use Rattle.std.specs.List.{list_all}

-- where a physical block begins
abbrev pub block_place : (block : ℕ) → ℕ
block_place block = 40960 + 4096 * block

-- so many bytes from a place on
unfoldable pub piece : (place size : ℕ) → List ℕ → List ℕ
piece place size bytes = take size (drop place bytes)

-- the number in the four bytes at a place
unfoldable pub word_in : (place : ℕ) → List ℕ → ℕ
word_in place bytes = from_be_bytes w32 (drop place bytes)

-- the number in the eight bytes at a place
unfoldable pub hyper_in : (place : ℕ) → List ℕ → ℕ
hyper_in place bytes = from_be_bytes w64 (drop place bytes)

-- whether bytes are all zeros
abbrev pub are_zeros : List ℕ → Bool
are_zeros bytes = list_all (λ byte. byte == 0) bytes

-- how many blocks a disk of so many bytes holds whole
unfoldable pub whole_blocks : (size : ℕ) → ℕ
whole_blocks size = (size - 40960) / 4096
