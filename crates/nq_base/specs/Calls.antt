-- Calls as journals and schedules tell them.
use Rattle.nq_base.specs.Block.{value_of}
use Rattle.nq_base.specs.declared.calls.Call.{Call}
use Rattle.nq_base.specs.declared.entries.Told.{Told}

-- a call as a journal tells it: a body by its value
abbrev pub told : Call → Told
told (Call.Create name blocks) = Told.Create name blocks
told (Call.Lookup name) = Told.Lookup name
told (Call.Attr file) = Told.Attr file
told (Call.Read file block) = Told.Read file block
told (Call.Fetch file block) = Told.Fetch file block
told (Call.Write file block body) = Told.Write file block (value_of body)
told (Call.Put file block body) = Told.Put file block (value_of body)
told (Call.Sync file) = Told.Sync file
told (Call.Resize file blocks) = Told.Resize file blocks
told (Call.Remove file) = Told.Remove file
