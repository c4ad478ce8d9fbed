-- What the file of a row has.
use Rattle.std.proofs.Common.{◌≡◌, ℕ, List, refl}
use Rattle.nq_base.specs.declared.FileRow.{FileRow}
use Rattle.nq_model.specs.protocol.Change.{file_of}
use Rattle.nq_model.specs.protocol.Kept.{blocks_of}
use Rattle.nq_model.proofs.FreshFits.{resized-length}

pub made-id : (row : FileRow) (bodies : List (List ℕ)) → (file_of row bodies).id ≡ row.id
unfolding file_of
made-id row bodies = refl

pub made-name : (row : FileRow) (bodies : List (List ℕ)) → (file_of row bodies).name ≡ row.name
unfolding file_of
made-name row bodies = refl

pub made-blocks : (row : FileRow) (bodies : List (List ℕ)) → blocks_of (file_of row bodies) ≡ row.blocks
unfolding file_of
made-blocks row bodies = resized-length row.blocks bodies
