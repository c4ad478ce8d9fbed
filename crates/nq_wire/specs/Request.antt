-- The arguments of the procedures as bytes: one spelling for each request that has one.
use Rattle.std.specs.Prelude.{◌≡◌, Bool, true, false, ℕ, ◌+◌, ◌^◌, ◌<◌, List, [], ◌++◌, length, Option, Some, None, IfSome}
use Rattle.nq_base.specs.Name.{IsName}
use Rattle.nq_base.specs.declared.PushBase.{PushBase}
use Rattle.nq_base.specs.declared.Request.{Request}
use Rattle.nq_base.specs.declared.Request.TheVariants.{Null, Attach, Lookup, Create, GetAttr, Read, Write, GetLease, Vacated, Evicted, Resize, Remove}
use Rattle.nq_xdr.specs.Item.{word, hyper, opaque, opaque_len}
use Rattle.nq_wire.specs.declared.procedure.Procedure.{Procedure}
use Rattle.nq_wire.specs.declared.procedure.Procedure.TheVariants as procedure
use Rattle.nq_wire.specs.Procedure.{number_of}
use Rattle.nq_wire.specs.Parts.{head, tag_bytes, want_bytes, base_bytes, optional, optional_len, IsWho, IsTag, IsWant, IsPushBase, IsWanted}

-- the procedure that a request calls
abbrev pub procedure_of : Request → Procedure
procedure_of Null = procedure.Null
procedure_of (Attach who) = procedure.Attach
procedure_of (Lookup who name) = procedure.Lookup
procedure_of (Create who seq name blocks) = procedure.Create
procedure_of (GetAttr who file) = procedure.GetAttr
procedure_of (Read who call file block want) = procedure.Read
procedure_of (Write who seq file block first last push body) = procedure.Write
procedure_of (GetLease who file want) = procedure.GetLease
procedure_of (Vacated who file tag) = procedure.Vacated
procedure_of (Evicted who file tag) = procedure.Evicted
procedure_of (Resize who seq call file blocks) = procedure.Resize
procedure_of (Remove who seq call file) = procedure.Remove

-- the arguments of a request
unfoldable pub arguments : Request → List ℕ
arguments Null = []
arguments (Attach who) = head who
arguments (Lookup who name) = head who ++ opaque name
arguments (Create who seq name blocks) = head who ++ hyper seq ++ opaque name ++ word blocks
arguments (GetAttr who file) = head who ++ word file
arguments (Read who call file block want) = head who ++ hyper call ++ word file ++ word block ++ optional want_bytes want
arguments (Write who seq file block first last push body) =
    head who ++ hyper seq ++ word file ++ word block ++ hyper first ++ hyper last ++ optional base_bytes push ++ opaque body
arguments (GetLease who file want) = head who ++ word file ++ want_bytes want
arguments (Vacated who file tag) = head who ++ word file ++ tag_bytes tag
arguments (Evicted who file tag) = head who ++ word file ++ tag_bytes tag
arguments (Resize who seq call file blocks) = head who ++ hyper seq ++ hyper call ++ word file ++ word blocks
arguments (Remove who seq call file) = head who ++ hyper seq ++ hyper call ++ word file

-- whether a request reads or writes a block
abbrev pub is_of_block : Request → Bool
is_of_block (Read who call file block want) = true
is_of_block (Write who seq file block first last push body) = true
is_of_block other = false

-- whether a request makes a file, gives it another length, or takes it away
abbrev pub is_of_length : Request → Bool
is_of_length (Create who seq name blocks) = true
is_of_length (Resize who seq call file blocks) = true
is_of_length (Remove who seq call file) = true
is_of_length other = false

-- how many bytes they take
abbrev pub arguments_len : Request → ℕ
arguments_len Null = 0
arguments_len (Attach who) = 8
arguments_len (Lookup who name) = 8 + opaque_len (length name)
arguments_len (Create who seq name blocks) = 20 + opaque_len (length name)
arguments_len (GetAttr who file) = 12
arguments_len (Read who call file block want) = 24 + optional_len 8 want
arguments_len (Write who seq file block first last push body) = 4140 + optional_len 12 push
arguments_len (GetLease who file want) = 20
arguments_len (Vacated who file tag) = 24
arguments_len (Evicted who file tag) = 24
arguments_len (Resize who seq call file blocks) = 32
arguments_len (Remove who seq call file) = 28

-- What every value of the type is: its numbers are words and hyper integers, its name is a name, and its
-- body a block of 4096 bytes.
abbrev pub IsRequest : Request → Type 0
IsRequest Null = Unit {0}
IsRequest (Attach who) = IsWho who
IsRequest (Lookup who name) = IsWho who × IsName name
IsRequest (Create who seq name blocks) = IsWho who × (seq < 2 ^ 64) × IsName name × (blocks < 2 ^ 32)
IsRequest (GetAttr who file) = IsWho who × (file < 2 ^ 32)
IsRequest (Read who call file block want) = IsWho who × (call < 2 ^ 64) × (file < 2 ^ 32) × (block < 2 ^ 32) × IfSome want IsWant
IsRequest (Write who seq file block first last push body) =
    IsWho who × (seq < 2 ^ 64) × (file < 2 ^ 32) × (block < 2 ^ 32) × (first < 2 ^ 64) × (last < 2 ^ 64) × IfSome push IsPushBase × (length body ≡ 4096)
IsRequest (GetLease who file want) = IsWho who × (file < 2 ^ 32) × IsWant want
IsRequest (Vacated who file tag) = IsWho who × (file < 2 ^ 32) × IsTag tag
IsRequest (Evicted who file tag) = IsWho who × (file < 2 ^ 32) × IsTag tag
IsRequest (Resize who seq call file blocks) = IsWho who × (seq < 2 ^ 64) × (call < 2 ^ 64) × (file < 2 ^ 32) × (blocks < 2 ^ 32)
IsRequest (Remove who seq call file) = IsWho who × (seq < 2 ^ 64) × (call < 2 ^ 64) × (file < 2 ^ 32)

-- a WRITE without its optional part goes through, and is one write
abbrev pub IsOneWrite : ℕ → ℕ → Option PushBase → Type 0
IsOneWrite first last None = first ≡ last
IsOneWrite first last (Some push) = Unit {0}

-- Which requests have a spelling: a lease that is wanted is for reading or for writing, and a WRITE that
-- goes through has one write number.
abbrev pub HasSpelling : Request → Type 0
HasSpelling (Read who call file block want) = IfSome want (λ w. IsWanted w.mode)
HasSpelling (Write who seq file block first last push body) = IsOneWrite first last push
HasSpelling (GetLease who file want) = IsWanted want.mode
HasSpelling _ = Unit {0}

-- the bytes are the arguments by which the procedure of this number is called for this request
pub record IsArguments (procedure : ℕ) (request : Request) (bytes : List ℕ) : Type 0 where
  pub procedure_is : number_of (procedure_of request) ≡ procedure
  pub value_fits : IsRequest request
  pub has_spelling : HasSpelling request
  pub bytes_are : bytes ≡ arguments request
