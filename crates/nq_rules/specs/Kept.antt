-- Which answers that say ok are kept.
use Rattle.std.specs.Prelude.{ℕ, List, Option, Some, Bool, true, false, ◌&&◌, ◌||◌}
use Rattle.nq_base.specs.declared.Entry.{Entry}
use Rattle.nq_base.specs.declared.Entry.TheVariants.{W, A}
use Rattle.nq_base.specs.declared.Said.TheVariants.{Ok, OkValue, OkBy}
use Rattle.nq_base.specs.declared.Told.{Told}
use Rattle.nq_base.specs.declared.Told.TheVariants.{Put, Sync, Resize, Remove}
use Rattle.nq_base.specs.declared.Who.{Who}
use Rattle.nq_model.specs.laws.Journal.{call_of}
use Rattle.nq_model.specs.laws.JournalTest.{each, is_open, is_stored, is_through, somewhere}
use Rattle.nq_model.specs.laws.OrderedTest.{is_no_other, writes}
use Rattle.nq_model.specs.laws.SynchronizedTest.{are_stored_or_told, is_settled_resize}
use Rattle.nq_model.specs.protocol.Table.{same_who}

-- whether the entry is the write of a call: the call alone is open of its incarnation's, and asks for that write
abbrev pub is_write_of_call : (who : Who) (q : ℕ) → Entry → (before : List Entry) → Bool
is_write_of_call who q (W by file block number value through) before =
    same_who by who && is_open before who q && each (is_no_other before who q) before && writes file block value (call_of before who q)
is_write_of_call who q other before = false

-- whether the entry is the write of a `put` that was answered, and is through, or an S before the answer covers it
abbrev pub is_put_kept : (answered : List Entry) (who : Who) (q : ℕ) (write : Entry) (before : List Entry) → Bool
is_put_kept answered who q write before = is_write_of_call who q write before && (is_through write || is_stored answered write)

-- what an ok says to a `put`, a `sync`, a `resize` or a `remove`
abbrev pub is_kept : (whole before : List Entry) (who : Who) (q : ℕ) → Option Told → Bool
is_kept whole before who q (Some (Put file block value)) = somewhere (is_put_kept before who q) before
is_kept whole before who q (Some (Sync file)) = are_stored_or_told whole whole before who file
is_kept whole before who q (Some (Resize file blocks)) = somewhere (is_settled_resize whole before who q file) before
is_kept whole before who q (Some (Remove file)) = somewhere (is_settled_resize whole before who q file) before
is_kept whole before who q other = true

-- what is asked of an A that says ok, with a value or without
abbrev pub is_kept_at : (whole : List Entry) → Entry → (before : List Entry) → Bool
is_kept_at whole (A who q Ok) before = is_kept whole before who q (call_of whole who q)
is_kept_at whole (A who q (OkValue value)) before = is_kept whole before who q (call_of whole who q)
is_kept_at whole (A who q (OkBy value packet)) before = is_kept whole before who q (call_of whole who q)
is_kept_at whole other before = true
