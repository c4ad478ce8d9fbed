-- The block under the name of a whole file: its head, which tells which file has the bytes, and how many there are.
use Rattle.std.specs.Prelude.{ℕ, List, ◌++◌, Option, Some, None, take, drop, replicate, codes}
use Rattle.std.specs.Prelude.{bytes_eq, nat_le, if◌then◌else◌, ◌&&◌}
use Rattle.nq_base.specs.Block.{value_of, word}
use Rattle.nq_whole.specs.declared.heads.FileHead.{FileHead}

-- the most bytes of a file: those of 1024 blocks
abbrev pub most_bytes : ℕ
most_bytes = 4194304

-- the first bytes of the block of a head: the number of the file, the number of bytes, and a mark
abbrev pub front_of_head : FileHead → List ℕ
front_of_head head = word head.file ++ (word head.size ++ codes "whole file")

-- the block of a head: these bytes, with zeros behind them
unfoldable pub block_of : FileHead → List ℕ
block_of head = front_of_head head ++ replicate 4078 0

-- the head that a block tells: the mark stands in it, and the number of bytes is one that a file can have
unfoldable pub head_in : (block : List ℕ) → Option FileHead
head_in block =
    if bytes_eq (take 10 (drop 8 block)) (codes "whole file") && nat_le (value_of (drop 4 block)) most_bytes
    then Some (record { file = value_of block; size = value_of (drop 4 block) })
    else None
