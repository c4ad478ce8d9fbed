-- What is kept of the blocks that were read of a keeper.
use Rattle.std.specs.Prelude.{◌≡◌, ◌≤◌, ℕ, All, List, Option, Some, length}
use Rattle.std.specs.Option.{ForSome}
use Rattle.nq_keeper.specs.Keeping.{body_at}
use Rattle.nq_model.specs.protocol.Kept.{Kept, find_file}
use Rattle.nq_service.specs.declared.recent.pieces.Piece.{Piece}

-- these bytes are the body of a block of a file, where a keeper tells what it keeps
abbrev pub IsBody : (told : Option Kept) → (file block : ℕ) → (body : List ℕ) → Type 0
IsBody told file block body = ForSome told (λ kept. Some body ≡ body_at block (find_file file kept.files))

-- each of these pieces is the body of its block
abbrev pub AreBodies : (told : Option Kept) → List Piece → Type 0
AreBodies told pieces = All (λ piece. IsBody told piece.file piece.block piece.body) pieces

-- how many blocks are kept of a keeper at most
abbrev pub most_pieces : ℕ
most_pieces = 64

-- What is kept of a keeper's blocks: each piece is the body of its block, and there are not more than so many. The second refuses a keeper
-- whose copies grow with all that is read
pub record AreRecent (told : Option Kept) (pieces : List Piece) : Type 0 where
  pub bodies : AreBodies told pieces
  pub few : length pieces ≤ most_pieces
