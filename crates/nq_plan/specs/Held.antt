-- What a store has in memory of its image: all but the redo record and the bodies.
use Rattle.std.specs.Prelude.{◌≡◌, ◌<◌, ◌≤◌, ℕ, Bool, List, length, slice_index}
use Rattle.nq_image.specs.Image.{no_marks}
use Rattle.nq_image.specs.Standing.{Standing, Stands, blocks_in, marks_with}

-- where everything stands, and for each physical block whether a file has it
pub record HeldTables : Type 0 where
  pub standing : Standing
  pub marks : List Bool

-- there is a row for each host, a row for each file that there can be, and a mark for each physical block; the tables begin at a
-- block that there is
pub record AreSized (standing : Standing) (marks : List Bool) : Type 0 where
  pub tables : standing.tables ≤ 16384
  pub hosts : length standing.hosts ≡ 64
  pub rows : length standing.rows ≡ 256
  pub all_marks : length marks ≡ 16641

-- what is in memory of an image stands there, and the marks are those of the blocks that files have
pub record IsHeldOf (bytes : List ℕ) (held : HeldTables) : Type 0 where
  pub stands : Stands bytes held.standing
  pub marks : held.marks ≡ marks_with (no_marks 16641) (blocks_in held.standing.rows)

-- blocks that a table can have: at most 1024, each one that there is
pub record AreBlocks (blocks : List ℕ) : Type 0 where
  pub short : length blocks ≤ 1024
  pub near : (k : ℕ) → slice_index blocks k < 16641
