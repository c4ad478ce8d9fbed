-- A change that is written to an image: when it can be, and what the image is then.
use Rattle.std.specs.Prelude.{◌≡◌, ℕ, List, [], ◌∷◌, Option, Some, None, All, drop}
use Rattle.nq_base.specs.Block.{zeros}
use Rattle.nq_base.specs.declared.Change.{Change}
use Rattle.nq_disk.specs.Bytes.{written}
use Rattle.nq_image.specs.Kept.{body_in}
use Rattle.nq_image.specs.Layout.{block_place}
use Rattle.nq_image.specs.Standing.{kept_at}
use Rattle.nq_model.specs.protocol.Change.{Fits, IsChangeWithin, applied}
use Rattle.nq_plan.specs.Held.{HeldTables, IsHeldOf}
use Rattle.nq_plan.specs.Placing.{IsPlacedFor}
use Rattle.nq_plan.specs.Settling.{settled}
use Rattle.nq_plan.specs.declared.placing.Placed.{Placed}

-- the blocks that a file gets by a change
abbrev pub new_blocks : Option Placed → List ℕ
new_blocks None = []
new_blocks (Some placed) = drop placed.stay placed.file.blocks

-- a block has zeros, and the disk holds it whole
abbrev pub HasZeros : (bytes : List ℕ) → (block : ℕ) → Type 0
HasZeros bytes block = body_in bytes block ≡ zeros

-- a disk after zeros were written over these blocks, in order
abbrev pub zeroed : (blocks : List ℕ) → List ℕ → List ℕ
zeroed [] bytes = bytes
zeroed (block ∷ blocks) bytes = zeroed blocks (written (block_place block) zeros bytes)

-- a change can be written to an image of which everything but the bodies is held: it can be kept, its file comes to stand somewhere, and
-- the blocks that the file gets have zeros
pub record CanBeWritten (bytes : List ℕ) (held : HeldTables) (change : Change) (placed : Option Placed) : Type 0 where
  pub is_held : IsHeldOf bytes held
  pub fits : Fits (kept_at bytes held.standing) change
  pub within : IsChangeWithin (kept_at bytes held.standing) change
  pub is_placed : IsPlacedFor held change.file placed
  pub zeros : All (HasZeros bytes) (new_blocks placed)

-- the new bytes are an image of the changed state, and what is held of it are the tables after the change
pub record IsWritten (old new : List ℕ) (held : HeldTables) (change : Change) (placed : Option Placed) : Type 0 where
  pub is_held : IsHeldOf new (settled held change placed)
  pub kept : kept_at new (settled held change placed).standing ≡ applied (kept_at old held.standing) change
