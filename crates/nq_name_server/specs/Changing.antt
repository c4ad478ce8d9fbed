-- What a request changes before what is kept is read.
use Rattle.std.specs.Prelude.{Option, Some, None}
use Rattle.nq_model.specs.protocol.Kept.{Kept, find_file}
use Rattle.nq_name_server.specs.Outside.{Changes, changes_of}
use Rattle.nq_name_server.specs.declared.change.MayChange.{MayChange}

-- what changes where this is kept
abbrev pub changed_by : Kept → MayChange → Option Changes
changed_by kept MayChange.Nothing = None
changed_by kept (MayChange.Directory c) = Some c
changed_by kept (MayChange.OfFile who file) = changes_of who (find_file file kept.files)
