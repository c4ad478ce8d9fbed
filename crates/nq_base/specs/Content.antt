-- What a block keeps, as bytes.
use Rattle.std.specs.Prelude.{ℕ, List, ◌≡◌, ◌≢◌, length}
use Rattle.nq_base.specs.declared.blocks.Content.{Content}
use Rattle.nq_base.specs.Block.{filled}

-- the bytes of what is kept: a word 1024 times over, or the bytes themselves
abbrev pub content_bytes : Content → List ℕ
content_bytes (Content.Filled v) = filled v
content_bytes (Content.Bytes bytes) = bytes.value

-- bytes are kept only where there are 4096 of them that repeat no word
abbrev pub IsKeptLight : Content → Type 0
IsKeptLight (Content.Filled v) = Unit {0}
IsKeptLight (Content.Bytes bytes) = (length bytes.value ≡ 4096) × ((v : ℕ) → bytes.value ≢ filled v)
