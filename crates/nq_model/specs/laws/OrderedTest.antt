-- The tests of ordered journals: each is true exactly where its fact holds.
use Rattle.std.specs.Prelude.{ℕ, List, [], ◌∷◌, Option, Some, None, Bool, true, false, not, ◌&&◌, ◌||◌, ◌==◌, nat_lt, if◌then◌else◌}
use Rattle.nq_base.specs.declared.Entry.{Entry}
use Rattle.nq_base.specs.declared.Entry.TheVariants.{C, W, R, Z, A}
use Rattle.nq_base.specs.declared.Said.TheVariants.{Busy}
use Rattle.nq_base.specs.declared.Told.{Told}
use Rattle.nq_base.specs.declared.Told.TheVariants.{Write, Put, Resize, Remove}
use Rattle.nq_base.specs.declared.Who.{Who}
use Rattle.nq_model.specs.laws.Journal.{call_of}
use Rattle.nq_model.specs.laws.JournalTest.{each, exists, throughout, at_each_place, is_call, is_answer, is_open, is_counted}
use Rattle.nq_model.specs.laws.LegalTest.{is_counted_by}
use Rattle.nq_model.specs.protocol.Table.{same_who}

abbrev pub is_call_below : (who : Who) (q : ℕ) → Entry → Bool
is_call_below who q (C by n told) = not (same_who by who) || nat_lt n q
is_call_below who q other = true

abbrev pub is_open_call : (before : List Entry) (who : Who) → Entry → Bool
is_open_call before who (C by q told) = same_who by who && is_open before who q
is_open_call before who other = false

abbrev pub has_open : (before : List Entry) (who : Who) → Bool
has_open before who = exists (is_open_call before who) before

abbrev pub is_busy_next : (who : Who) (q : ℕ) → List Entry → Bool
is_busy_next who q (A by n Busy ∷ after) = same_who by who && (n == q)
is_busy_next who q other = false

abbrev pub is_call_in_order : (after before : List Entry) (who : Who) (q : ℕ) → Bool
is_call_in_order after before who q =
    each (is_call_below who q) before && (not (has_open before who) || (exists (is_answer who q) before || is_busy_next who q after))

abbrev pub writes : (file block value : ℕ) → Option Told → Bool
writes file block value (Some (Write f b v)) = (f == file) && (b == block) && (v == value)
writes file block value (Some (Put f b v)) = (f == file) && (b == block) && (v == value)
writes file block value other = false

abbrev pub is_before_call : (who : Who) (q : ℕ) → Entry → (before : List Entry) → Bool
is_before_call who q (W by file block number value through) before = not (same_who by who) || not (exists (is_call who q) before)
is_before_call who q other before = true

abbrev pub is_numbered : (who : Who) (number : ℕ) → Entry → Bool
is_numbered who number (W by file block n value through) = same_who by who && (n == number)
is_numbered who number other = false

-- where the entry is a C of the incarnation whose call is open at a place, it is call q
abbrev pub is_no_other : (before : List Entry) (who : Who) (q : ℕ) → Entry → Bool
is_no_other before who q (C by n told) = not (is_open_call before who (C by n told)) || (n == q)
is_no_other before who q other = true

-- the number of the latest call of an incarnation that is open at a place, looked for among these entries
abbrev pub open_call : (before : List Entry) (who : Who) → List Entry → Option ℕ
open_call before who [] = None
open_call before who (C by q told ∷ entries) = if is_open_call before who (C by q told) then Some q else open_call before who entries
open_call before who (other ∷ entries) = open_call before who entries

abbrev pub is_write_of : (before : List Entry) (who : Who) (file block number value : ℕ) → Option ℕ → Bool
is_write_of before who file block number value None = false
is_write_of before who file block number value (Some q) =
    each (is_no_other before who q) before && writes file block value (call_of before who q) && throughout (is_before_call who q) before
    && not (exists (is_numbered who number) before)

abbrev pub is_write_in_order : (before : List Entry) (who : Who) (file block number value : ℕ) → Bool
is_write_in_order before who file block number value = is_write_of before who file block number value (open_call before who before)

abbrev pub call_resizes : (file to : ℕ) → Option Told → Bool
call_resizes file to (Some (Resize f blocks)) = (f == file) && (blocks == to)
call_resizes file to (Some (Remove f)) = (f == file) && (to == 0)
call_resizes file to other = false

abbrev pub is_resize_by : (who : Who) (q : ℕ) → Entry → Bool
is_resize_by who q (Z by n file from to) = same_who by who && (n == q)
is_resize_by who q other = false

abbrev pub is_resize_in_order : (before : List Entry) (who : Who) (q file to : ℕ) → Bool
is_resize_in_order before who q file to = is_open before who q && call_resizes file to (call_of before who q) && not (exists (is_resize_by who q) before)

abbrev pub is_read_in_order : (whole before : List Entry) (who : Who) (q : ℕ) → Bool
is_read_in_order whole before who q = is_open before who q && not (exists (is_counted_by whole who q) before)

abbrev pub is_in_order : (whole after : List Entry) → Entry → (before : List Entry) → Bool
is_in_order whole after (C who q told) before = is_call_in_order after before who q
is_in_order whole after (W who file block number value through) before = is_write_in_order before who file block number value
is_in_order whole after (Z who q file from to) before = is_resize_in_order before who q file to
is_in_order whole after (R who q file block value served) before = not (is_counted whole (R who q file block value served)) || is_read_in_order whole
    before who q
is_in_order whole after (A who q said) before = not (exists (is_answer who q) before)
is_in_order whole after other before = true

abbrev pub is_ordered : (journal : List Entry) → Bool
is_ordered journal = at_each_place (is_in_order journal) [] journal
