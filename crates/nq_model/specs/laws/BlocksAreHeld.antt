-- The server keeps in each block what the journal says.
use Rattle.std.specs.Prelude.{◌≡◌, ◌≤◌, ℕ, List, Some, slice_get}
use Rattle.nq_base.specs.Block.{value_of}
use Rattle.nq_model.specs.laws.Bounds.{InEveryRun}
use Rattle.nq_model.specs.protocol.Kept.{File, blocks_of, find_file}
use Rattle.nq_model.specs.laws.Synchronized.{held_value, last_length}
use Rattle.nq_model.specs.protocol.World.{World, run}

-- each block that the server keeps has the value of the last write on it that went through or was stored and that no later
-- Z cut off, or 0 where there is none. Beyond a file's length nothing is held, and its length is the one of the last Z on
-- it
pub record KeptBlocksAreHeld (w : World) : Type 0 where
  pub values : (id : ℕ) (f : File) (block : ℕ) (body : List ℕ) → find_file id w.server.kept.files ≡ Some f → slice_get f.bodies block ≡ Some body
      → value_of body ≡ held_value w.journal id block
  pub past : (id : ℕ) (f : File) (block : ℕ) → find_file id w.server.kept.files ≡ Some f → blocks_of f ≤ block → held_value w.journal id block ≡ 0
  pub lengths : (id : ℕ) (f : File) (blocks : ℕ) → find_file id w.server.kept.files ≡ Some f → last_length w.journal id ≡ Some blocks → blocks_of f ≡ blocks

-- this holds after every schedule within skew, however often the server crashed
abbrev pub KeptBlocksAreHeldInEveryRun : Type 0
KeptBlocksAreHeldInEveryRun = InEveryRun (λ head events. KeptBlocksAreHeld (run head events))
