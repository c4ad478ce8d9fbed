-- The tests of losses that are reported: each is true exactly where its fact holds.
use Rattle.std.specs.Prelude.{ℕ, List, [], ◌∷◌, Option, Bool, true, false, not, ◌&&◌, ◌||◌, ◌==◌}
use Rattle.nq_base.specs.declared.Entry.{Entry}
use Rattle.nq_base.specs.declared.Entry.TheVariants.{C, L, A}
use Rattle.nq_base.specs.declared.Loss.{Loss}
use Rattle.nq_base.specs.declared.Said.TheVariants.{Lost, Busy}
use Rattle.nq_base.specs.declared.Span.{Span}
use Rattle.nq_base.specs.declared.Told.{Told}
use Rattle.nq_base.specs.declared.Told.TheVariants.{Write, Put, Sync, Resize, Remove}
use Rattle.nq_base.specs.declared.Who.{Who}
use Rattle.nq_model.specs.laws.Journal.{call_of}
use Rattle.nq_model.specs.laws.JournalTest.{exists, at_each_place, is_answer, speaks_of}
use Rattle.nq_model.specs.protocol.Table.{same_who}
use Rattle.nq_model.specs.laws.Reported.{loss_told}

abbrev pub is_name_of : (loss : Loss) (span : Span) → Bool
is_name_of loss span = (span.block == loss.block) && (span.first == loss.first) && (span.last == loss.last)

abbrev pub names : (whole : List Entry) (who : Who) (loss : Loss) → Entry → Bool
names whole who loss (A by q (Lost spans)) = same_who by who && speaks_of loss.file (call_of whole by q) && exists (is_name_of loss) spans.items
names whole who loss other = false

abbrev pub is_reporting : (file : ℕ) → Told → Bool
is_reporting file (Write f block value) = f == file
is_reporting file (Put f block value) = f == file
is_reporting file (Sync f) = f == file
is_reporting file (Resize f blocks) = f == file
is_reporting file (Remove f) = f == file
is_reporting file other = false

abbrev pub is_busy_answer : (who : Who) (q : ℕ) → Entry → Bool
is_busy_answer who q (A by n Busy) = same_who by who && (n == q)
is_busy_answer who q other = false

abbrev pub must_report : (whole : List Entry) (who : Who) (file : ℕ) → Entry → Bool
must_report whole who file (C by q told) = same_who by who && is_reporting file told && not (exists (is_busy_answer who q) whole)
must_report whole who file other = false

abbrev pub is_named_next : (whole : List Entry) (who : Who) (loss : Loss) → Entry → List Entry → Bool
is_named_next whole who loss (C by q told) (next ∷ after) = is_answer by q next && names whole who loss next
is_named_next whole who loss call after = false

abbrev pub first_that : (must : Entry → Bool) (does : Entry → (after : List Entry) → Bool) (needless : Entry → Bool) → List Entry → Bool
first_that must does needless [] = true
first_that must does needless (entry ∷ after) =
    (not (must entry) || does entry after) && (must entry || (needless entry || first_that must does needless after))

abbrev pub is_reported_in : (whole : List Entry) (who : Who) (loss : Loss) (after : List Entry) → Bool
is_reported_in whole who loss after =
    first_that (must_report whole who loss.file) (is_named_next whole who loss) (names whole who loss) after

abbrev pub is_unnamed : (whole before : List Entry) (who : Who) (call : Option Told) (span : Span) → Entry → Bool
is_unnamed whole before who call span (L by file block first last) =
    same_who by who && speaks_of file call && is_name_of (loss_told file block first last) span
    && not (exists (names whole who (loss_told file block first last)) before)
is_unnamed whole before who call span other = false

abbrev pub is_same_span : (a b : Span) → Bool
is_same_span a b = (a.block == b.block) && (a.first == b.first) && (a.last == b.last)

abbrev pub name_losses : (whole before : List Entry) (who : Who) (call : Option Told) → List Span → Bool
name_losses whole before who call [] = true
name_losses whole before who call (span ∷ spans) = exists (is_unnamed whole before who call span) before && not (exists (is_same_span span) spans)
    && name_losses whole before who call spans

abbrev pub is_reported_at : (whole after : List Entry) → Entry → (before : List Entry) → Bool
is_reported_at whole after (L who file block first last) before = is_reported_in whole who (loss_told file block first last) after
is_reported_at whole after (A who q (Lost spans)) before = name_losses whole before who (call_of whole who q) spans.items
is_reported_at whole after other before = true

abbrev pub is_reported : (journal : List Entry) → Bool
is_reported journal = at_each_place (is_reported_at journal) [] journal
