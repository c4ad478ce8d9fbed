-- The tests of legal journals: each is true exactly where its fact holds.
use Rattle.std.specs.Prelude.{ℕ, List, Option, Some, Bool, true, false, not, ◌&&◌, ◌||◌, ◌==◌}
use Rattle.nq_base.specs.declared.Entry.{Entry}
use Rattle.nq_base.specs.declared.Entry.TheVariants.{R, A}
use Rattle.nq_base.specs.declared.Said.{Said}
use Rattle.nq_base.specs.declared.Said.TheVariants.{OkValue, OkBy}
use Rattle.nq_base.specs.declared.Told.{Told}
use Rattle.nq_base.specs.declared.Told.TheVariants.{Read, Fetch}
use Rattle.nq_base.specs.declared.Who.{Who}
use Rattle.nq_model.specs.laws.Journal.{call_of}
use Rattle.nq_model.specs.laws.JournalTest.{exists, at_most_one, throughout, is_read_by, is_counted}
use Rattle.nq_model.specs.laws.StandsTest.{standing_value}
use Rattle.nq_model.specs.protocol.Table.{same_who}

abbrev pub is_reading : Option Told → Bool
is_reading (Some (Read file block)) = true
is_reading (Some (Fetch file block)) = true
is_reading other = false

abbrev pub gives_value : (value : ℕ) → Said → Bool
gives_value value (OkValue v) = v == value
gives_value value (OkBy v packet) = v == value
gives_value value other = false

abbrev pub is_answer_with : (who : Who) (q value : ℕ) → Entry → Bool
is_answer_with who q value (A by n said) = same_who by who && (n == q) && gives_value value said
is_answer_with who q value other = false

abbrev pub is_counted_by : (whole : List Entry) (who : Who) (q : ℕ) (entry : Entry) → Bool
is_counted_by whole who q entry = is_read_by who q entry && is_counted whole entry

abbrev pub is_counted_with : (whole : List Entry) (who : Who) (q value : ℕ) → Entry → Bool
is_counted_with whole who q value (R by n file block v served) = (v == value) && is_counted_by whole who q (R by n file block v served)
is_counted_with whole who q value other = false

abbrev pub is_legal_read : (whole before : List Entry) (who : Who) (q file block value : ℕ) → Bool
is_legal_read whole before who q file block value =
    (value == standing_value whole before who file block) && is_reading (call_of whole who q) && exists (is_answer_with who q value) whole

abbrev pub is_legal_answer : (whole : List Entry) (who : Who) (q value : ℕ) → Bool
is_legal_answer whole who q value = exists (is_counted_with whole who q value) whole && at_most_one (is_counted_by whole who q) whole

abbrev pub is_legal_at : (whole : List Entry) → Entry → (before : List Entry) → Bool
is_legal_at whole (R who q file block value served) before = not (is_counted whole (R who q file block value served)) || is_legal_read whole before
    who q file block value
is_legal_at whole (A who q (OkValue value)) before = not (is_reading (call_of whole who q)) || is_legal_answer whole who q value
is_legal_at whole (A who q (OkBy value packet)) before = not (is_reading (call_of whole who q)) || is_legal_answer whole who q value
is_legal_at whole other before = true

abbrev pub is_legal : (journal : List Entry) → Bool
is_legal journal = throughout (is_legal_at journal) journal
