-- The words of calls and of answers, as schedules, journals and a client's lines have them.
use Rattle.std.specs.Prelude.{◌≡◌, ℕ, ◌<◌, ◌^◌, List, [], ◌∷◌, ◌++◌, map, All, codes}
use Rattle.std.specs.Fmt.{decimal}
use Rattle.nq_base.specs.Name.{IsName}
use Rattle.nq_base.specs.declared.Said.{Said}
use Rattle.nq_base.specs.declared.Span.{Span}
use Rattle.nq_base.specs.declared.Told.{Told}
use Rattle.nq_base.specs.declared.Who.{Who}
use Rattle.nq_script.specs.Words.{joined}

-- the words of a call
abbrev pub told_words : Told → List (List ℕ)
told_words (Told.Create name blocks) = codes "create" ∷ name ∷ decimal blocks ∷ []
told_words (Told.Lookup name) = codes "lookup" ∷ name ∷ []
told_words (Told.Attr file) = codes "attr" ∷ decimal file ∷ []
told_words (Told.Read file block) = codes "read" ∷ decimal file ∷ decimal block ∷ []
told_words (Told.Fetch file block) = codes "fetch" ∷ decimal file ∷ decimal block ∷ []
told_words (Told.Write file block value) = codes "write" ∷ decimal file ∷ decimal block ∷ decimal value ∷ []
told_words (Told.Put file block value) = codes "put" ∷ decimal file ∷ decimal block ∷ decimal value ∷ []
told_words (Told.Sync file) = codes "sync" ∷ decimal file ∷ []
told_words (Told.Resize file blocks) = codes "resize" ∷ decimal file ∷ decimal blocks ∷ []
told_words (Told.Remove file) = codes "remove" ∷ decimal file ∷ []

-- a call that a version has: only version 2 changes the length of files and removes them
abbrev pub HasTold : (version : ℕ) → Told → Type 0
HasTold version (Told.Resize file blocks) = version ≡ 2
HasTold version (Told.Remove file) = version ≡ 2
HasTold version other = Unit {0}

-- a call whose names are names and whose numbers are below 2^32
abbrev pub FitsTold : Told → Type 0
FitsTold (Told.Create name blocks) = IsName name × (blocks < 2 ^ 32)
FitsTold (Told.Lookup name) = IsName name
FitsTold (Told.Attr file) = file < 2 ^ 32
FitsTold (Told.Read file block) = (file < 2 ^ 32) × (block < 2 ^ 32)
FitsTold (Told.Fetch file block) = (file < 2 ^ 32) × (block < 2 ^ 32)
FitsTold (Told.Write file block value) = (file < 2 ^ 32) × (block < 2 ^ 32) × (value < 2 ^ 32)
FitsTold (Told.Put file block value) = (file < 2 ^ 32) × (block < 2 ^ 32) × (value < 2 ^ 32)
FitsTold (Told.Sync file) = file < 2 ^ 32
FitsTold (Told.Resize file blocks) = (file < 2 ^ 32) × (blocks < 2 ^ 32)
FitsTold (Told.Remove file) = file < 2 ^ 32

-- the text that spells a call in a version
abbrev pub SpellsTold : (version : ℕ) → Told → List ℕ → Type 0
SpellsTold version told text = HasTold version told × FitsTold told × (text ≡ joined (told_words told))

-- the word of a span: the block, the first write and the last
unfoldable pub span_word : Span → List ℕ
span_word span = decimal span.block ++ codes ":" ++ decimal span.first ++ codes "-" ++ decimal span.last

-- the words of an answer
abbrev pub said_words : Said → List (List ℕ)
said_words Said.Ok = codes "ok" ∷ []
said_words (Said.OkValue value) = codes "ok" ∷ decimal value ∷ []
said_words (Said.OkBy value packet) = codes "ok" ∷ decimal value ∷ codes "by" ∷ decimal packet ∷ []
said_words (Said.Lost spans) = codes "lost" ∷ map span_word spans.items
said_words Said.Busy = codes "busy" ∷ []
said_words Said.Stale = codes "stale" ∷ []
said_words Said.NoEntry = codes "noentry" ∷ []
said_words Said.Exists = codes "exists" ∷ []
said_words Said.NoSpace = codes "nospace" ∷ []
said_words Said.Range = codes "range" ∷ []
said_words Said.DirtyFull = codes "dirtyfull" ∷ []

-- an incarnation whose numbers are below 2^32
abbrev pub FitsWho : Who → Type 0
FitsWho who = (who.host < 2 ^ 32) × (who.inc < 2 ^ 32)

-- a span whose block is below 2^32 and whose writes are below 2^64
abbrev pub FitsSpan : Span → Type 0
FitsSpan span = (span.block < 2 ^ 32) × (span.first < 2 ^ 64) × (span.last < 2 ^ 64)

-- an answer whose values are below 2^32 and whose packet is below 2^64
abbrev pub FitsSaid : Said → Type 0
FitsSaid (Said.OkValue value) = value < 2 ^ 32
FitsSaid (Said.OkBy value packet) = (value < 2 ^ 32) × (packet < 2 ^ 64)
FitsSaid (Said.Lost spans) = All FitsSpan spans.items
FitsSaid other = Unit {0}
