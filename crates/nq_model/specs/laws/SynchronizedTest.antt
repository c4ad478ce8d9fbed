-- The tests of synchronized journals: each is true exactly where its fact holds.
use Rattle.std.specs.Prelude.{ℕ, List, Option, Some, Bool, true, false, not, ◌&&◌, ◌||◌, ◌==◌}
use Rattle.nq_base.specs.declared.Entry.{Entry}
use Rattle.nq_base.specs.declared.Entry.TheVariants.{W, L, Z, A}
use Rattle.nq_base.specs.declared.Said.TheVariants.{Ok, OkValue, OkBy}
use Rattle.nq_base.specs.declared.Told.{Told}
use Rattle.nq_base.specs.declared.Told.TheVariants.{Put, Sync, Resize, Remove}
use Rattle.nq_base.specs.declared.Who.{Who}
use Rattle.nq_model.specs.laws.Journal.{call_of}
use Rattle.nq_model.specs.laws.JournalTest.{each, exists, throughout, somewhere, is_open, is_write_by, is_through, is_stored, loss_covers}
use Rattle.nq_model.specs.laws.Reported.{loss_told}
use Rattle.nq_model.specs.laws.ReportedTest.{names}
use Rattle.nq_model.specs.protocol.Table.{same_who}

abbrev pub is_put_kept : (answered : List Entry) (who : Who) (q : ℕ) (write : Entry) (before : List Entry) → Bool
is_put_kept answered who q write before = is_write_by who write && is_open before who q && (is_through write || is_stored answered write)

abbrev pub is_delayed_on : (who : Who) (file : ℕ) → Entry → Bool
is_delayed_on who file (W by f block number value false) = same_who by who && (f == file)
is_delayed_on who file other = false

abbrev pub is_named_loss : (whole answered : List Entry) (write : Entry) → Entry → Bool
is_named_loss whole answered write (L who file block first last) =
    loss_covers (L who file block first last) write && exists (names whole who (loss_told file block first last)) answered
is_named_loss whole answered write other = false

abbrev pub is_stored_or_told : (whole stores answered : List Entry) (write : Entry) → Bool
is_stored_or_told whole stores answered write = is_stored stores write || exists (is_named_loss whole answered write) whole

abbrev pub are_stored_or_told : (whole stores answered : List Entry) (who : Who) (file : ℕ) → Bool
are_stored_or_told whole stores answered who file =
    each (λ write. not (is_delayed_on who file write) || is_stored_or_told whole stores answered write) answered

abbrev pub is_settled_resize : (whole answered : List Entry) (who : Who) (q file : ℕ) → Entry → (before : List Entry) → Bool
is_settled_resize whole answered who q file (Z by n f from to) before =
    same_who by who && (n == q) && are_stored_or_told whole before answered who file
is_settled_resize whole answered who q file other before = false

abbrev pub is_kept : (whole before : List Entry) (who : Who) (q : ℕ) → Option Told → Bool
is_kept whole before who q (Some (Put file block value)) = somewhere (is_put_kept before who q) before
is_kept whole before who q (Some (Sync file)) = are_stored_or_told whole whole before who file
is_kept whole before who q (Some (Resize file blocks)) = somewhere (is_settled_resize whole before who q file) before
is_kept whole before who q (Some (Remove file)) = somewhere (is_settled_resize whole before who q file) before
is_kept whole before who q other = true

abbrev pub is_kept_at : (whole : List Entry) → Entry → (before : List Entry) → Bool
is_kept_at whole (A who q Ok) before = is_kept whole before who q (call_of whole who q)
is_kept_at whole (A who q (OkValue value)) before = is_kept whole before who q (call_of whole who q)
is_kept_at whole (A who q (OkBy value packet)) before = is_kept whole before who q (call_of whole who q)
is_kept_at whole other before = true

abbrev pub is_synchronized : (journal : List Entry) → Bool
is_synchronized journal = throughout (is_kept_at journal) journal
