-- What is answered ok is kept (RFC 1813, FILE_SYNC).
use Rattle.std.specs.Prelude.{◌≡◌, ◌⊎◌, ℕ, List, [], ◌∷◌, Option, Some, None, Bool, false, ◌&&◌, ◌||◌, ◌==◌, if◌then◌else◌, ⊤}
use Rattle.nq_base.specs.declared.Entry.{Entry}
use Rattle.nq_base.specs.declared.Entry.TheVariants.{W, L, Z, A}
use Rattle.nq_base.specs.declared.Said.TheVariants.{Ok, OkValue, OkBy}
use Rattle.nq_base.specs.declared.Told.{Told}
use Rattle.nq_base.specs.declared.Told.TheVariants.{Put, Sync, Resize, Remove}
use Rattle.nq_base.specs.declared.Who.{Who}
use Rattle.nq_model.specs.laws.Journal.{Each, Exists, Throughout, Somewhere, IsOpen, call_of, IsWriteBy, IsThrough, IsStored, Loses, since_cut, last_value}
use Rattle.nq_model.specs.laws.JournalTest.{is_write_on, is_through, is_stored}
use Rattle.nq_model.specs.laws.Reported.{loss_told, Names}

-- ---- a put

-- the entry is the write of call q, and it is through, or an S before the answer covers it
abbrev pub IsPutKept : (answered : List Entry) (who : Who) (q : ℕ) (write : Entry) (before : List Entry) → Type 0
IsPutKept answered who q write before = IsWriteBy who write × IsOpen before who q × (IsThrough write ⊎ IsStored answered write)

-- ---- a sync, a resize, a removal

-- the entry is a delayed write of an incarnation on a file
abbrev pub IsDelayedOn : (who : Who) (file : ℕ) → Entry → Type 0
IsDelayedOn who file (W by f block number value false) = (by ≡ who) × (f ≡ file)
IsDelayedOn who file other = ⊥

-- the entry is an L that covers the write, and an A before the answer names it
abbrev pub IsNamedLoss : (whole answered : List Entry) (write : Entry) → Entry → Type 0
IsNamedLoss whole answered write (L who file block first last) =
    Loses (L who file block first last) write × Exists (Names whole who (loss_told file block first last)) answered
IsNamedLoss whole answered write other = ⊥

-- an S among the `stores` covers the write, or an L that an A before the answer names
abbrev pub IsStoredOrTold : (whole stores answered : List Entry) (write : Entry) → Type 0
IsStoredOrTold whole stores answered write = IsStored stores write ⊎ Exists (IsNamedLoss whole answered write) whole

-- so it is with each delayed write of the incarnation on the file before the answer
abbrev pub AreStoredOrTold : (whole stores answered : List Entry) (who : Who) (file : ℕ) → Type 0
AreStoredOrTold whole stores answered who file =
    Each (λ write. IsDelayedOn who file write → IsStoredOrTold whole stores answered write) answered

-- the entry is the Z of call q, and each delayed write of the incarnation on the file before the answer is covered by an S
-- before the Z, or by an L that an A before the answer names
abbrev pub IsSettledResize : (whole answered : List Entry) (who : Who) (q file : ℕ) → Entry → (before : List Entry) → Type 0
IsSettledResize whole answered who q file (Z by n f from to) before =
    (by ≡ who) × (n ≡ q) × AreStoredOrTold whole before answered who file
IsSettledResize whole answered who q file other before = ⊥

-- ---- the law

-- what an ok says. To a `put`: its write is through, or an S before the answer covers it. To a `sync`: each delayed write of
-- the incarnation on the file before the answer is covered by an S, or by an L that an A before the answer names. To a
-- `resize` or `remove`: its Z stands before the answer, and each such write is covered by an S before that Z, or by an L so
-- named
abbrev pub IsKept : (whole before : List Entry) (who : Who) (q : ℕ) → Option Told → Type 0
IsKept whole before who q (Some (Put file block value)) = Somewhere (IsPutKept before who q) before
IsKept whole before who q (Some (Sync file)) = AreStoredOrTold whole whole before who file
IsKept whole before who q (Some (Resize file blocks)) = Somewhere (IsSettledResize whole before who q file) before
IsKept whole before who q (Some (Remove file)) = Somewhere (IsSettledResize whole before who q file) before
IsKept whole before who q other = ⊤

-- what is asked of an A that says ok
abbrev pub IsKeptAt : (whole : List Entry) → Entry → (before : List Entry) → Type 0
IsKeptAt whole (A who q Ok) before = IsKept whole before who q (call_of whole who q)
IsKeptAt whole (A who q (OkValue value)) before = IsKept whole before who q (call_of whole who q)
IsKeptAt whole (A who q (OkBy value packet)) before = IsKept whole before who q (call_of whole who q)
IsKeptAt whole other before = ⊤

-- a journal is synchronized: each ok that it tells is kept
abbrev pub IsSynchronized : (journal : List Entry) → Type 0
IsSynchronized journal = Throughout (IsKeptAt journal) journal

-- ---- what the server holds by a journal

-- whether a write of a block counts at the server: it is through, or an S covers it
abbrev pub is_held : (journal : List Entry) (file block : ℕ) (write : Entry) → Bool
is_held journal file block write = is_write_on file block write && (is_through write || is_stored journal write)

-- the value that the server holds of a block: that of the last write on it that is through or stored and that no Z after it
-- cuts, or 0 where there is none
abbrev pub held_value : (journal : List Entry) (file block : ℕ) → ℕ
held_value journal file block = last_value (is_held journal file block) (since_cut journal file block)

-- the length of a file that the last Z on it says, where there is one
abbrev pub last_length : List Entry → (file : ℕ) → Option ℕ
last_length [] file = None
last_length (Z who q f from to ∷ before) file = if f == file then Some to else last_length before file
last_length (other ∷ before) file = last_length before file
