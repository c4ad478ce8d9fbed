-- What a block holds, as bytes.
use Rattle.std.specs.Prelude.{ℕ, List}
use Rattle.nq_base.specs.declared.blocks.Seen.{Seen}
use Rattle.nq_base.specs.Block.{filled}

-- the bytes that are seen: a word 1024 times over, or the bytes themselves
abbrev pub seen_bytes : Seen → List ℕ
seen_bytes (Seen.Filled v) = filled v
seen_bytes (Seen.Bytes bytes) = bytes.now
