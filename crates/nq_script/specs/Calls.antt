-- The words of a call. A call has a block, of which words tell the value, so a call and what is told of it are two types.
use Rattle.std.specs.Prelude.{◌≡◌, ℕ, ◌<◌, ◌^◌, List}
use Rattle.nq_base.specs.Block.{filled}
use Rattle.nq_base.specs.Name.{IsName}
use Rattle.nq_base.specs.declared.Call.{Call}
use Rattle.nq_base.specs.declared.Told.{Told}
use Rattle.nq_script.specs.Text.{spaced}
use Rattle.nq_script.specs.Forms.{told_words}
use Rattle.nq_base.specs.Calls.{told}

-- a body that a word can tell: a block filled with a number below 2 ^ 32
abbrev pub IsFilled : (body : List ℕ) → Type 0
IsFilled body = (value : ℕ) × (value < 2 ^ 32) × (body ≡ filled value)

-- a call whose body, if it has one, a number fills
abbrev pub IsFilledCall : Call → Type 0
IsFilledCall (Call.Write file block body) = IsFilled body
IsFilledCall (Call.Put file block body) = IsFilled body
IsFilledCall other = Unit {0}

-- the words of a call; a body is told by its value
abbrev pub call_words : Call → List (List ℕ)
call_words call = told_words (told call)

-- a call that a version can tell: its body is a filled block, and only version 2 has resizes and removals
abbrev pub HasCall : (version : ℕ) → Call → Type 0
HasCall version (Call.Write file block body) = IsFilled body
HasCall version (Call.Put file block body) = IsFilled body
HasCall version (Call.Resize file blocks) = version ≡ 2
HasCall version (Call.Remove file) = version ≡ 2
HasCall version other = Unit {0}

-- a call whose names are names and whose numbers are below 2 ^ 32
abbrev pub FitsCall : Call → Type 0
FitsCall (Call.Create name blocks) = IsName name × (blocks < 2 ^ 32)
FitsCall (Call.Lookup name) = IsName name
FitsCall (Call.Attr file) = file < 2 ^ 32
FitsCall (Call.Read file block) = (file < 2 ^ 32) × (block < 2 ^ 32)
FitsCall (Call.Fetch file block) = (file < 2 ^ 32) × (block < 2 ^ 32)
FitsCall (Call.Write file block body) = (file < 2 ^ 32) × (block < 2 ^ 32)
FitsCall (Call.Put file block body) = (file < 2 ^ 32) × (block < 2 ^ 32)
FitsCall (Call.Sync file) = file < 2 ^ 32
FitsCall (Call.Resize file blocks) = (file < 2 ^ 32) × (blocks < 2 ^ 32)
FitsCall (Call.Remove file) = file < 2 ^ 32

-- the words that spell a call
abbrev pub SpellsCall : (version : ℕ) → Call → List ℕ → Type 0
SpellsCall version call text = HasCall version call × FitsCall call × (text ≡ spaced (call_words call))

-- the call that is told, with its body
abbrev pub call_of : Told → Call
call_of (Told.Create name blocks) = Call.Create name blocks
call_of (Told.Lookup name) = Call.Lookup name
call_of (Told.Attr file) = Call.Attr file
call_of (Told.Read file block) = Call.Read file block
call_of (Told.Fetch file block) = Call.Fetch file block
call_of (Told.Write file block value) = Call.Write file block (filled value)
call_of (Told.Put file block value) = Call.Put file block (filled value)
call_of (Told.Sync file) = Call.Sync file
call_of (Told.Resize file blocks) = Call.Resize file blocks
call_of (Told.Remove file) = Call.Remove file
