-- What is read of a block.
use Rattle.std.specs.Prelude.{ℕ, List, Option, Some, None, slice_get}
use Rattle.nq_keeper.specs.declared.requests.reading.ReadOut.{ReadOut}
use Rattle.nq_model.specs.protocol.Change.{row_of}
use Rattle.nq_model.specs.protocol.Kept.{File}

-- what a read of a file's block answers: its row and the body, or that the file has no such block
abbrev pub read_in : File → (body : Option (List ℕ)) → ReadOut
read_in file None = ReadOut.Invalid
read_in file (Some body) = ReadOut.Got (row_of file) body

-- what a read answers: the row and the body, or why there is nothing to read
abbrev pub read_out : (block : ℕ) → Option File → ReadOut
read_out block None = ReadOut.Stale
read_out block (Some file) = read_in file (slice_get file.bodies block)
