-- Getting a whole file: what is asked next, and what an answer makes of it.
use Rattle.std.specs.Prelude.{◌≡◌, ℕ, ◌+◌, ◌*◌, Bool, true, false, List, [], ◌∷◌, ◌++◌, Option, Some, None, ⊤, length, take, nat_le, nat_lt, if◌then◌else◌}
use Rattle.nq_base.specs.declared.Answer.{Answer}
use Rattle.nq_base.specs.declared.Call.{Call}
use Rattle.nq_whole.specs.Pieces.{joined_pieces, piece_of}
use Rattle.nq_whole.specs.Answers.{body_in, file_in, is_gone}
use Rattle.nq_whole.specs.Heads.{head_in}
use Rattle.nq_whole.specs.declared.getting.GettingSays.{GettingSays}
use Rattle.nq_whole.specs.declared.getting.Stage.{Stage}
use Rattle.nq_whole.specs.declared.heads.FileHead.{FileHead}

-- where getting a file stands, and the bytes that came so far
pub record Gets : Type 0 where
  pub name : List ℕ
  pub stage : Stage
  pub bytes : List ℕ

-- what is asked at a stage: the file of the name, its head under a lease, the pieces of the file that the head tells. No piece is asked
-- under a lease, since nobody changes that file
abbrev pub asked_at : (name : List ℕ) → Stage → Call
asked_at name Stage.Finding = Call.Lookup name
asked_at name (Stage.Heading file) = Call.Read file 0
asked_at name (Stage.Reading head place) = Call.Fetch head.file place
asked_at name (Stage.Whole head) = Call.Attr head.file

-- what getting says, and where it stands then
pub record GetStep : Type 0 where
  pub said : GettingSays
  pub gets : Gets

-- it begins anew
abbrev pub anew : Gets → GetStep
anew g = record { said = GettingSays.Anew; gets = record { name = g.name; stage = Stage.Finding; bytes = [] } }

-- it ends without the file, and stands as before
abbrev pub ended : GettingSays → Gets → GetStep
ended said g = record { said = said; gets = g }

-- so many pieces have come: it is done where they have all the bytes, and else it goes on
unfoldable pub reached : FileHead → (place : ℕ) → (bytes name : List ℕ) → GetStep
reached head place bytes name =
    if nat_le head.size (4096 * place)
    then record { said = GettingSays.Done; gets = record { name = name; stage = Stage.Whole head; bytes = take head.size bytes } }
    else record { said = GettingSays.Goes; gets = record { name = name; stage = Stage.Reading head place; bytes = bytes } }

-- behind the file of the name
abbrev pub found : Option ℕ → Gets → GetStep
found (Some file) g = record { said = GettingSays.Goes; gets = record { name = g.name; stage = Stage.Heading file; bytes = [] } }
found None g = ended GettingSays.Refused g

-- behind the head, if the block tells one
abbrev pub told : Option FileHead → Gets → GetStep
told (Some head) g = reached head 0 [] g.name
told None g = ended GettingSays.NotWhole g

-- behind an answer that brings no block
abbrev pub missed : Bool → Gets → GetStep
missed true g = anew g
missed false g = ended GettingSays.Refused g

-- behind the first block of the file of the name
abbrev pub headed : Option (List ℕ) → Answer → Gets → GetStep
headed (Some body) answer g = told (head_in body) g
headed None answer g = missed (is_gone answer) g

-- behind a piece that came. No file has more than 1024
abbrev pub added : (body : List ℕ) → FileHead → (place : ℕ) → Gets → GetStep
added body head place g =
    if nat_lt place 1024 then reached head (place + 1) (g.bytes ++ body) g.name else ended GettingSays.NotWhole g

-- behind the answer to a piece
abbrev pub read_on : Option (List ℕ) → Answer → FileHead → (place : ℕ) → Gets → GetStep
read_on (Some body) answer head place g = added body head place g
read_on None answer head place g = missed (is_gone answer) g

-- what an answer makes of getting at a stage
abbrev pub get_at : Stage → Answer → Gets → GetStep
get_at Stage.Finding answer g = found (file_in answer) g
get_at (Stage.Heading file) answer g = headed (body_in answer) answer g
get_at (Stage.Reading head place) answer g = read_on (body_in answer) answer head place g
get_at (Stage.Whole head) answer g = ended GettingSays.Done g

-- a step of getting, by what it said: where memory was wanting it stands as before
abbrev pub Takes : GettingSays → GetStep → (old new : Gets) → Type 0
Takes GettingSays.Memory step old new = new ≡ old
Takes said step old new = step ≡ record { said = said; gets = new }

-- an answer was taken
abbrev pub Gives : GettingSays → Answer → (old new : Gets) → Type 0
Gives said answer old new = Takes said (get_at old.stage answer old) old new

-- ---- what is got

-- a file has these bytes, as many as its head tells
pub record IsStored (stored : ℕ → Option (List ℕ)) (head : FileHead) (bytes : List ℕ) : Type 0 where
  pub has : stored head.file ≡ Some bytes
  pub size : length bytes ≡ head.size

-- a block of a file is the piece there of what was stored as that file
abbrev pub IsPiece : (stored : ℕ → Option (List ℕ)) → (file place : ℕ) → (body : List ℕ) → Type 0
IsPiece stored file place body = (bytes : List ℕ) → stored file ≡ Some bytes → body ≡ piece_of place bytes

-- a first block that tells a head tells a file that was stored, to its last byte
abbrev pub TellsStored : (stored : ℕ → Option (List ℕ)) → (body : List ℕ) → Type 0
TellsStored stored body = (head : FileHead) → head_in body ≡ Some head → (bytes : List ℕ) × IsStored stored head bytes

-- what holds of a block that is brought at a stage, where each head is written behind all the bytes that it tells, into a file that nobody
-- changes
abbrev pub IsLawfulAt : (stored : ℕ → Option (List ℕ)) → Stage → Option (List ℕ) → Type 0
IsLawfulAt stored (Stage.Heading file) (Some body) = TellsStored stored body
IsLawfulAt stored (Stage.Reading head place) (Some body) = IsPiece stored head.file place body
IsLawfulAt stored stage body = ⊤

-- the bytes so far are the first pieces of one file that was stored; at the end they are that file
abbrev pub HasPartAt : (stored : ℕ → Option (List ℕ)) → Stage → (bytes : List ℕ) → Type 0
HasPartAt stored (Stage.Reading head place) bytes = (file : List ℕ) × IsStored stored head file × (bytes ≡ joined_pieces place file)
HasPartAt stored (Stage.Whole head) bytes = IsStored stored head bytes
HasPartAt stored stage bytes = ⊤

-- a lawful answer keeps what came so far part of one stored file
abbrev pub KeepsPart : Answer → (old new : Gets) → Type 0
KeepsPart answer old new =
    (stored : ℕ → Option (List ℕ)) → IsLawfulAt stored old.stage (body_in answer) → HasPartAt stored old.stage old.bytes
    → HasPartAt stored new.stage new.bytes

-- getting begins
abbrev pub begun : (name : List ℕ) → Gets
begun name = record { name = name; stage = Stage.Finding; bytes = [] }

-- getting behind answers that came one after another
abbrev pub gets_after : List Answer → Gets → Gets
gets_after [] g = g
gets_after (answer ∷ answers) g = gets_after answers (get_at g.stage answer g).gets

-- each answer is lawful where it comes
abbrev pub AreLawful : (stored : ℕ → Option (List ℕ)) → List Answer → Gets → Type 0
AreLawful stored [] g = ⊤
AreLawful stored (answer ∷ answers) g =
    IsLawfulAt stored g.stage (body_in answer) × AreLawful stored answers (get_at g.stage answer g).gets
