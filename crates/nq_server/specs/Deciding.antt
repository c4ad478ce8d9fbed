-- Requests that are decided once, as the server carries them out.
use Rattle.std.specs.Prelude.{◌≡◌, ◌≤◌, ℕ, Bool, true, false, List, [], ◌∷◌, Option, Some, None, length}
use Rattle.nq_base.specs.Block.{filled, value_of}
use Rattle.nq_base.specs.declared.Decided.{Decided}
use Rattle.nq_base.specs.declared.Decided.TheVariants.{Fresh, Again, Old, OldIncarnation, NotAttached, OutOfBounds}
use Rattle.nq_base.specs.declared.Entry.{Entry}
use Rattle.nq_base.specs.declared.Refusal.{Refusal}
use Rattle.nq_base.specs.declared.Reply.{Reply as Answer}
use Rattle.nq_base.specs.declared.Request.{Request}
use Rattle.nq_base.specs.declared.Request.TheVariants.{Attach, Write, Resize, Remove}
use Rattle.nq_base.specs.declared.Row.{Row}
use Rattle.nq_base.specs.declared.Verdict.{Verdict}
use Rattle.nq_base.specs.declared.Who.{Who}
use Rattle.nq_keeper.specs.Recovery.{Recovery, after_write}
use Rattle.nq_base.specs.Entries.{EntryList}
use Rattle.nq_model.specs.protocol.Change.{row_of_found}
use Rattle.nq_model.specs.protocol.Decided.{Aside, aside, decided_answer, kept_length, later_aside, file_to_change}
use Rattle.nq_model.specs.protocol.Kept.{Kept, find_file}
use Rattle.nq_model.specs.protocol.Message.{Packet}
use Rattle.nq_model.specs.protocol.Server.{Server, ServerStep}
use Rattle.nq_model.specs.protocol.Table.{find_row, put_row, drop_host, drop_rows_of}
use Rattle.nq_server.specs.declared.deciding.Ready.{Ready}
use Rattle.nq_server.specs.declared.received.Reason.{Reason}
use Rattle.nq_server.specs.declared.received.EventTaken.{EventTaken}
use Rattle.nq_server.specs.Leasing.{MakesBeside}
use Rattle.nq_server.specs.State.{Beside}
use Rattle.nq_server.specs.Stepping.{Enters, Sends, outcome_of}
use Rattle.nq_wire.specs.Outbox.{Datagrams}

-- the file whose kept length a journal tells of, where the request is done
abbrev pub file_to_tell : Request → Option ℕ
file_to_tell (Resize who seq q file blocks) = Some file
file_to_tell (Remove who seq q file) = Some file
file_to_tell other = None

-- the kept length of a file, if there is one
abbrev pub length_in : Kept → Option ℕ → ℕ
length_in kept None = 0
length_in kept (Some file) = kept_length (row_of_found (find_file file kept.files))

-- the reply to a request that was decided so: none where a later incarnation is attached, or what would be kept is out of bounds
abbrev pub answer_to : Who → Request → Decided → Option Answer
answer_to who r (Fresh verdict value) = Some (decided_answer who.inc verdict value r)
answer_to who r (Again verdict value) = Some (decided_answer who.inc verdict value r)
answer_to who r Old = Some (Answer.Refused who.inc Refusal.Old)
answer_to who r OldIncarnation = None
answer_to who r NotAttached = Some (Answer.Refused who.inc Refusal.NotAttached)
answer_to who r OutOfBounds = None

-- why a request that was decided so is dropped, where it is
abbrev pub dropped_for : Decided → Reason
dropped_for OutOfBounds = Reason.OutOfBounds
dropped_for other = Reason.OldIncarnation

-- what is done aside was done to what is held beside the kept state, and told
pub record DoesAside (aside : Aside) (held after : Beside) (log log' : EntryList) : Type 0 where
  pub table : after.table ≡ aside.table
  pub phase : after.phase ≡ aside.phase
  pub notice : after.notice ≡ aside.notice
  pub longest : after.longest ≡ held.longest
  pub time : after.time ≡ held.time
  pub entries : Enters aside.entries log log'

-- the rows after a write of the holder of one of them was heard
abbrev pub heard_rows : (now : ℕ) → Option Row → List Row → List Row
heard_rows now None rows = rows
heard_rows now (Some row) rows = put_row (record row { heard = now }) rows

-- whether a request was put off just now
abbrev pub is_later : Verdict → Bool
is_later Verdict.TryLater = true
is_later other = false

abbrev pub is_put_off : Decided → Bool
is_put_off (Fresh verdict value) = is_later verdict
is_put_off other = false

-- what is sent where a request is put off, before the refusal
abbrev pub warnings : Server → Who → Request → List Packet
warnings s who r = (later_aside s s.phase who (file_to_change r)).sends

-- and where it may be
abbrev pub warnings_if : Bool → List Packet → List Packet
warnings_if true packets = packets
warnings_if false packets = []

-- all was made ready before a request of this number is decided, with room for its reply and its entry
pub record IsReady (xid : ℕ) (ready : Ready) (out out' : Datagrams) (log log' : EntryList) : Type 0 where
  pub before : ready.len ≡ length out.datagrams
  pub within : ready.len ≤ length out'.datagrams
  pub number : ready.begun.xid ≡ xid
  pub room : 16 ≤ ready.begun.room
  pub datagram : 1 ≤ out'.spare
  pub line : 1 ≤ log'.spare
  pub entries : log'.entries ≡ log.entries

-- the notices are there that are due where the request is put off, and the number that is next after them
pub record Warns (s : Server) (who : Who) (r : Request) (notice : ℕ) (out out' : Datagrams) : Type 0 where
  pub told : Sends (warnings s who r) out out'
  pub counted : notice ≡ (later_aside s s.phase who (file_to_change r)).notice

-- the rows after a request was done while serving
abbrev pub rows_serving : Who → Request → (now : ℕ) → List Row → List Row
rows_serving who (Attach w) now rows = drop_host who.host rows
rows_serving who (Write w seq file block first last (Some base) body) now rows = heard_rows now (find_row file who.host rows) rows
rows_serving who (Remove w seq q file) now rows = drop_rows_of file rows
rows_serving who other now rows = rows

-- an entry, if there is one
abbrev pub entries_of : Option Entry → List Entry
entries_of None = []
entries_of (Some entry) = entry ∷ []

-- its entries, where its file had this length
abbrev pub entries_serving : Who → Request → (length now : ℕ) → List Entry
entries_serving who (Write w seq file block first last None body) length now =
    Entry.W who file block first (value_of body) true ∷ []
entries_serving who (Write w seq file block first last (Some base) body) length now =
    Entry.S who file block first last now ∷ []
entries_serving who (Resize w seq q file blocks) length now = Entry.Z who q file length blocks ∷ []
entries_serving who (Remove w seq q file) length now = Entry.Z who q file length 0 ∷ []
entries_serving who other length now = []

-- the recovery after a request was done
abbrev pub recovery_after : Request → (now : ℕ) → Recovery → Recovery
recovery_after (Write w seq file block first last push body) now recovery = after_write recovery now
recovery_after other now recovery = recovery

-- its entries
abbrev pub entries_recovering : Who → Request → (now : ℕ) → List Entry
entries_recovering who (Write w seq file block first last push body) now = Entry.S who file block first last now ∷ []
entries_recovering who other now = []

-- a request of which the body is handed on: the block that repeats its value stands in its place
abbrev pub as_told : Request → Request
as_told (Write who seq file block first last push body) = Write who seq file block first last push (filled (value_of body))
as_told other = other

-- a request that was decided is answered so
pub record Concludes (step : ServerStep) (how : EventTaken) (after : Beside) (out out' : Datagrams) (log log' : EntryList) : Type 0 where
  pub outcome : step.outcome ≡ outcome_of how
  pub makes : MakesBeside step after out out' log log'

-- what is due aside was done where the request is fresh, and else nothing
abbrev pub DoesIfFresh : Server → Who → Request → Decided → (held after : Beside) (log log' : EntryList) → Type 0
DoesIfFresh s who r (Fresh verdict value) held after log log' = DoesAside (aside s who r verdict) held after log log'
DoesIfFresh s who r other held after log log' = (after ≡ held) × (log'.entries ≡ log.entries)
