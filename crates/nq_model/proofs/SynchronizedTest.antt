-- The tests of synchronized journals and of reads of their call are right.
use Rattle.std.proofs.Common.{ℕ, false, List}
use Rattle.std.specs.Prelude.{Option, Some, not, ◌||◌}
use Rattle.nq_base.specs.declared.Entry.{Entry}
use Rattle.nq_base.specs.declared.Entry.TheVariants.{W, R, L, Z, A}
use Rattle.nq_base.specs.declared.Said.TheVariants.{Ok, OkValue, OkBy}
use Rattle.nq_base.specs.declared.Told.{Told}
use Rattle.nq_base.specs.declared.Told.TheVariants.{Read, Fetch, Put, Sync, Resize, Remove}
use Rattle.nq_base.specs.declared.Who.{Who}
use Rattle.nq_model.specs.laws.Journal.{call_of}
use Rattle.nq_model.specs.laws.OfTheirCall.{Reads, IsOfItsCall, AreOfTheirCall}
use Rattle.nq_model.specs.laws.OfTheirCallTest.{reads, is_of_its_call, are_of_their_call}
use Rattle.nq_model.specs.laws.Synchronized.{IsPutKept, IsDelayedOn, IsNamedLoss, IsStoredOrTold, IsSettledResize, IsKept, IsKeptAt, IsSynchronized}
use Rattle.nq_model.specs.laws.SynchronizedTest.{is_put_kept, is_delayed_on, is_named_loss, is_stored_or_told, is_settled_resize, is_kept, is_kept_at}
use Rattle.nq_model.specs.laws.SynchronizedTest.{is_synchronized}
use Rattle.nq_model.specs.laws.Reported.{loss_told}
use Rattle.nq_model.specs.laws.Tests.{Tells, TellsLaw}
use Rattle.nq_model.proofs.Telling.{yes, no, tells_and, tells_3, tells_or, tells_implies, tells_same}
use Rattle.nq_model.proofs.JournalTests.{tells_each, tells_exists, tells_throughout, tells_somewhere, tells_who, tells_open, tells_write_by}
use Rattle.nq_model.proofs.JournalTests.{tells_through, tells_stored, tells_loses, tells_counted}
use Rattle.nq_model.proofs.LossTests.{tells_names}

-- ---- synchronized

tells_put_kept : (answered : List Entry) (who : Who) (q : ℕ) (write : Entry) (before : List Entry) → Tells (is_put_kept answered who q write before)
    (IsPutKept answered who q write before)
tells_put_kept answered who q write before = tells_3 (tells_write_by who write) (tells_open before who q) (tells_or (tells_through write)
    (tells_stored answered write))

tells_delayed_on : (who : Who) (file : ℕ) (entry : Entry) → Tells (is_delayed_on who file entry) (IsDelayedOn who file entry)
tells_delayed_on who file (W by f block number value false) = tells_and tells_who tells_same
tells_delayed_on who file other = no

tells_named_loss : (whole answered : List Entry) (write entry : Entry) → Tells (is_named_loss whole answered write entry) (IsNamedLoss whole answered
    write entry)
tells_named_loss whole answered write (L who file block first last) =
    tells_and (tells_loses (L who file block first last) write) (tells_exists (tells_names whole who (loss_told file block first last)) answered)
tells_named_loss whole answered write other = no

tells_stored_or_told : (whole stores answered : List Entry) (who : Who) (file : ℕ) (write : Entry) → Tells (not (is_delayed_on who file write)
    || is_stored_or_told whole stores answered write) (IsDelayedOn who file write → IsStoredOrTold whole stores answered write)
tells_stored_or_told whole stores answered who file write =
    tells_implies (tells_delayed_on who file write) (tells_or (tells_stored stores write) (tells_exists (tells_named_loss whole answered write) whole))

tells_settled_resize : (whole answered : List Entry) (who : Who) (q file : ℕ) (entry : Entry) (before : List Entry)
    → Tells (is_settled_resize whole answered who q file entry before) (IsSettledResize whole answered who q file entry before)
tells_settled_resize whole answered who q file (Z by n f from to) before = tells_3 tells_who tells_same
    (tells_each (tells_stored_or_told whole before answered who file) answered)
tells_settled_resize whole answered who q file other before = no

tells_kept : (whole before : List Entry) (who : Who) (q : ℕ) (call : Option Told) → Tells (is_kept whole before who q call) (IsKept whole before who q call)
tells_kept whole before who q (Some (Put file block value)) = tells_somewhere (tells_put_kept before who q) before
tells_kept whole before who q (Some (Sync file)) = tells_each (tells_stored_or_told whole whole before who file) before
tells_kept whole before who q (Some (Resize file blocks)) = tells_somewhere (tells_settled_resize whole before who q file) before
tells_kept whole before who q (Some (Remove file)) = tells_somewhere (tells_settled_resize whole before who q file) before
tells_kept whole before who q other = yes

tells_kept_at : (whole : List Entry) (entry : Entry) (before : List Entry) → Tells (is_kept_at whole entry before) (IsKeptAt whole entry before)
tells_kept_at whole (A who q Ok) before = tells_kept whole before who q (call_of whole who q)
tells_kept_at whole (A who q (OkValue value)) before = tells_kept whole before who q (call_of whole who q)
tells_kept_at whole (A who q (OkBy value packet)) before = tells_kept whole before who q (call_of whole who q)
tells_kept_at whole other before = yes

pub tells_synchronized : TellsLaw is_synchronized IsSynchronized
tells_synchronized journal = tells_throughout (tells_kept_at journal) journal

-- ---- reads of their call

tells_reads : (file block : ℕ) (call : Option Told) → Tells (reads file block call) (Reads file block call)
tells_reads file block (Some (Read f b)) = tells_and tells_same tells_same
tells_reads file block (Some (Fetch f b)) = tells_and tells_same tells_same
tells_reads file block other = no

tells_of_its_call : (whole : List Entry) (entry : Entry) → Tells (is_of_its_call whole entry) (IsOfItsCall whole entry)
tells_of_its_call whole (R who q file block value served) = tells_implies (tells_counted whole (R who q file block value served))
    (tells_reads file block (call_of whole who q))
tells_of_its_call whole other = yes

pub tells_of_their_call : TellsLaw are_of_their_call AreOfTheirCall
tells_of_their_call journal = tells_each (tells_of_its_call journal) journal
