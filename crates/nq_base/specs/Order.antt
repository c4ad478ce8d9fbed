-- The orders of tags, of the kinds of lease and of the keys of rows.

use Rattle.std.specs.Prelude.{ℕ, ◌≡◌, ◌<◌, ◌⊎◌}
use Rattle.nq_base.specs.declared.tags.Tag.{Tag}
use Rattle.nq_base.specs.declared.tags.Mode.{Mode}
use Rattle.nq_base.specs.declared.tags.Mode.TheVariants.{NonCaching, Reading, Writing}
use Rattle.nq_base.specs.declared.kept.RowKey.{RowKey}

-- a tag was drawn before another: in an earlier boot, or in the same boot with a lower number
abbrev pub IsDrawnBefore : Tag → Tag → Type 0
IsDrawnBefore a b = (a.boot < b.boot) ⊎ ((a.boot ≡ b.boot) × (a.number < b.number))

-- how much a lease allows: a non-caching lease the least, a writing lease the most
abbrev pub strength : Mode → ℕ
strength NonCaching = 0
strength Reading = 1
strength Writing = 2

-- a row stands before another: its file is lower, or the file is the same and its host is lower
abbrev pub StandsBefore : RowKey → RowKey → Type 0
StandsBefore a b = (a.file < b.file) ⊎ ((a.file ≡ b.file) × (a.host < b.host))
