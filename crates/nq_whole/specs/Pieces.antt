-- Bytes in blocks.
use Rattle.std.specs.Prelude.{ℕ, ◌-◌, ◌*◌, List, [], ◌++◌, zero, suc, length, take, drop, replicate}

-- the bytes from a place on, as many as a block has, with zeros behind the last
unfoldable pub piece_of : (place : ℕ) → List ℕ → List ℕ
piece_of place bytes =
    take 4096 (drop (4096 * place) bytes) ++ replicate (4096 - length (take 4096 (drop (4096 * place) bytes))) 0

-- the first pieces, one behind the other
abbrev pub joined_pieces : (count : ℕ) → List ℕ → List ℕ
joined_pieces zero bytes = []
joined_pieces (suc count) bytes = joined_pieces count bytes ++ piece_of count bytes
