-- Which reads, and which answers to them, are legal.
-- Of two counted reads of one call the later is at fault where its value is another, and the A that says the first one's is not.
use Rattle.std.specs.Prelude.{ℕ, List, Bool, true, not, ◌||◌, ◌==◌}
use Rattle.nq_base.specs.declared.Entry.{Entry}
use Rattle.nq_base.specs.declared.Entry.TheVariants.{R, A}
use Rattle.nq_base.specs.declared.Said.TheVariants.{OkValue, OkBy}
use Rattle.nq_base.specs.declared.Who.{Who}
use Rattle.nq_model.specs.laws.Journal.{call_of}
use Rattle.nq_model.specs.laws.JournalTest.{is_counted, number_of}
use Rattle.nq_model.specs.laws.LegalTest.{is_counted_with, is_legal_read, is_reading}

-- exactly one counted read is of this call and value
unfoldable pub is_legal_answer : (whole : List Entry) (who : Who) (q value : ℕ) → Bool
is_legal_answer whole who q value = number_of (is_counted_with whole who q value) whole == 1

-- what is asked of a counted read, and of an A that says ok with a value to a `read` or `fetch`
abbrev pub is_legal_at : (whole : List Entry) → Entry → (before : List Entry) → Bool
is_legal_at whole (R who q file block value served) before =
    not (is_counted whole (R who q file block value served)) || is_legal_read whole before who q file block value
is_legal_at whole (A who q (OkValue value)) before = not (is_reading (call_of whole who q)) || is_legal_answer whole who q value
is_legal_at whole (A who q (OkBy value packet)) before = not (is_reading (call_of whole who q)) || is_legal_answer whole who q value
is_legal_at whole other before = true
