-- What is kept of calls.
use Rattle.nq_base.specs.declared.entries.Told.{Told}
use Rattle.nq_base.specs.declared.kept_calls.CallWords.{CallWords}

-- what a call that is kept tells
abbrev pub told_of : CallWords → Told
told_of (CallWords.Named told) = told.value
told_of (CallWords.Attr file) = Told.Attr file
told_of (CallWords.Read file block) = Told.Read file block
told_of (CallWords.Fetch file block) = Told.Fetch file block
told_of (CallWords.Write file block value) = Told.Write file block value
told_of (CallWords.Put file block value) = Told.Put file block value
told_of (CallWords.Sync file) = Told.Sync file
told_of (CallWords.Resize file blocks) = Told.Resize file blocks
told_of (CallWords.Remove file) = Told.Remove file
