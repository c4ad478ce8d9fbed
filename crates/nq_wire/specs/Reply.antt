-- The results of the procedures as bytes: one spelling for each reply.
use Rattle.std.specs.Prelude.{◌≡◌, ℕ, ◌+◌, ◌^◌, ◌<◌, List, [], ◌++◌, length, IfSome}
use Rattle.nq_base.specs.declared.Reply.{Reply}
use Rattle.nq_base.specs.declared.Reply.TheVariants.{Null, Attach, Lookup, Create, GetAttr, Read, Write, GetLease, Resize, Remove, Refused}
use Rattle.nq_xdr.specs.Item.{word, hyper, opaque}
use Rattle.nq_wire.specs.declared.procedure.Procedure.{Procedure}
use Rattle.nq_wire.specs.declared.procedure.Procedure.TheVariants as procedure
use Rattle.nq_wire.specs.Procedure.{number_of}
use Rattle.nq_wire.specs.Status.{status_number}
use Rattle.nq_wire.specs.Parts.{grant_bytes, optional, optional_len, IsGrant}

-- the incarnation that asked, and the status OK
unfoldable pub ok : ℕ → List ℕ
ok inc = word inc ++ word 0

-- the results of a reply
unfoldable pub results : Reply → List ℕ
results Null = []
results (Attach inc) = ok inc
results (Lookup inc file blocks) = ok inc ++ word file ++ word blocks
results (Create inc file) = ok inc ++ word file
results (GetAttr inc blocks rev) = ok inc ++ word blocks ++ hyper rev
results (Read inc rev body grant) = ok inc ++ hyper rev ++ opaque body ++ optional grant_bytes grant
results (Write inc rev) = ok inc ++ hyper rev
results (GetLease inc grant) = ok inc ++ optional grant_bytes grant
results (Resize inc rev) = ok inc ++ hyper rev
results (Remove inc) = ok inc
results (Refused inc status) = word inc ++ word (status_number status)

-- how many bytes they take
abbrev pub results_len : Reply → ℕ
results_len Null = 0
results_len (Attach inc) = 8
results_len (Lookup inc file blocks) = 16
results_len (Create inc file) = 12
results_len (GetAttr inc blocks rev) = 20
results_len (Read inc rev body grant) = 4116 + optional_len 44 grant
results_len (Write inc rev) = 16
results_len (GetLease inc grant) = 8 + optional_len 44 grant
results_len (Resize inc rev) = 16
results_len (Remove inc) = 8
results_len (Refused inc status) = 8

-- What every value of the type is: its numbers are words and hyper integers, and its body a block of
-- 4096 bytes.
abbrev pub IsReply : Reply → Type 0
IsReply Null = Unit {0}
IsReply (Attach inc) = inc < 2 ^ 32
IsReply (Lookup inc file blocks) = (inc < 2 ^ 32) × (file < 2 ^ 32) × (blocks < 2 ^ 32)
IsReply (Create inc file) = (inc < 2 ^ 32) × (file < 2 ^ 32)
IsReply (GetAttr inc blocks rev) = (inc < 2 ^ 32) × (blocks < 2 ^ 32) × (rev < 2 ^ 64)
IsReply (Read inc rev body grant) = (inc < 2 ^ 32) × (rev < 2 ^ 64) × (length body ≡ 4096) × IfSome grant IsGrant
IsReply (Write inc rev) = (inc < 2 ^ 32) × (rev < 2 ^ 64)
IsReply (GetLease inc grant) = (inc < 2 ^ 32) × IfSome grant IsGrant
IsReply (Resize inc rev) = (inc < 2 ^ 32) × (rev < 2 ^ 64)
IsReply (Remove inc) = inc < 2 ^ 32
IsReply (Refused inc status) = inc < 2 ^ 32

-- a refusal answers every procedure but NULL, VACATED and EVICTED
abbrev pub IsRefusable : Procedure → Type 0
IsRefusable procedure.Null = ⊥
IsRefusable procedure.Vacated = ⊥
IsRefusable procedure.Evicted = ⊥
IsRefusable _ = Unit {0}

-- which procedures a reply answers; none answers VACATED or EVICTED
abbrev pub Answers : Reply → Procedure → Type 0
Answers Null p = p ≡ procedure.Null
Answers (Attach inc) p = p ≡ procedure.Attach
Answers (Lookup inc file blocks) p = p ≡ procedure.Lookup
Answers (Create inc file) p = p ≡ procedure.Create
Answers (GetAttr inc blocks rev) p = p ≡ procedure.GetAttr
Answers (Read inc rev body grant) p = p ≡ procedure.Read
Answers (Write inc rev) p = p ≡ procedure.Write
Answers (GetLease inc grant) p = p ≡ procedure.GetLease
Answers (Resize inc rev) p = p ≡ procedure.Resize
Answers (Remove inc) p = p ≡ procedure.Remove
Answers (Refused inc status) p = IsRefusable p

-- the bytes are the results by which the procedure of this number answers this reply
pub record IsResults (number : ℕ) (reply : Reply) (bytes : List ℕ) : Type 0 where
  pub procedure : Procedure
  pub procedure_is : number_of procedure ≡ number
  pub answers : Answers reply procedure
  pub value_fits : IsReply reply
  pub bytes_are : bytes ≡ results reply
