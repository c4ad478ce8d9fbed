-- The tests of what becomes of delayed writes are right: accounted, excused, reported.
use Rattle.std.proofs.Common.{◌≤◌, ◌+◌, ℕ, List, [], ◌∷◌}
use Rattle.std.specs.Prelude.{Option, Some, None, IsSomeAnd}
use Rattle.nq_base.specs.declared.Entry.{Entry}
use Rattle.nq_base.specs.declared.Entry.TheVariants.{C, S, L, F, O, X, A}
use Rattle.nq_base.specs.declared.Loss.{Loss}
use Rattle.nq_base.specs.declared.Said.TheVariants.{Lost, Busy}
use Rattle.nq_base.specs.declared.Span.{Span}
use Rattle.nq_base.specs.declared.Told.{Told}
use Rattle.nq_base.specs.declared.Told.TheVariants.{Write, Put, Sync, Resize, Remove}
use Rattle.nq_base.specs.declared.Who.{Who}
use Rattle.nq_model.specs.protocol.Profile.{skew, write_slack}
use Rattle.nq_model.specs.laws.Journal.{call_of}
use Rattle.nq_model.specs.laws.Fate.{IsFirstToCover, IsAccountedAt, IsAccounted}
use Rattle.nq_model.specs.laws.FateTest.{is_first_to_cover, is_accounted_at, is_accounted}
use Rattle.nq_model.specs.laws.CutOff.{Given, last_grant, IsStoreOver, IsLateEnd, IsLongWait, IsLateOpening, Ends, EndsFirst, IsCutOff, IsExcused}
use Rattle.nq_model.specs.laws.CutOffTest.{is_store_over, has_passed, is_late_end, is_long_wait, is_late_opening, ends, ends_first, is_cut_off, is_excused}
use Rattle.nq_model.specs.laws.Reported.{loss_told, IsNameOf, Names, IsReporting, IsBusyAnswer, MustReport, IsNamedNext, IsReportedIn, IsUnnamed}
use Rattle.nq_model.specs.laws.Reported.{IsSameSpan, NameLosses, IsReportedAt, IsReported}
use Rattle.nq_model.specs.laws.ReportedTest.{is_name_of, names, is_reporting, is_busy_answer, must_report, is_named_next, is_reported_in, is_unnamed}
use Rattle.nq_model.specs.laws.ReportedTest.{is_same_span, name_losses, is_reported_at, is_reported}
use Rattle.nq_model.specs.laws.Tests.{Tells, TellsLaw}
use Rattle.nq_model.proofs.Endings.{EndsIn, ends-first, ends-in}
use Rattle.nq_model.proofs.Telling.{yes, no, tells_alike, tells_and, tells_3, tells_4, tells_or, tells_not, tells_implies, tells_same, tells_le}
use Rattle.nq_model.proofs.JournalTests.{tells_each, tells_exists, tells_throughout, tells_at_each_place, tells_who, tells_answer, tells_covers}
use Rattle.nq_model.proofs.JournalTests.{tells_loses, tells_speaks_of}
use Rattle.nq_model.proofs.OrderedTest.{tells_unless}

-- ---- accounted

tells_first_to_cover : (before : List Entry) (entry write : Entry) → Tells (is_first_to_cover before entry write) (IsFirstToCover before entry write)
tells_first_to_cover before entry write = tells_implies (tells_covers entry write) (tells_not (tells_exists (λ other. tells_covers other write) before))

tells_accounted_at : (whole : List Entry) (entry : Entry) (before : List Entry) → Tells (is_accounted_at whole entry before) (IsAccountedAt whole entry before)
tells_accounted_at whole (S who file block first last now) before = tells_each (tells_first_to_cover before (S who file block first last now)) whole
tells_accounted_at whole (L who file block first last) before =
    tells_and (tells_each (tells_first_to_cover before (L who file block first last)) whole) (tells_exists (tells_covers (L who file block first last)) whole)
tells_accounted_at whole other before = yes

pub tells_accounted : TellsLaw is_accounted IsAccounted
tells_accounted journal = tells_throughout (tells_accounted_at journal) journal

-- ---- excused

tells_store_over : (who : Who) (file now : ℕ) (entry : Entry) → Tells (is_store_over who file now entry) (IsStoreOver who file now entry)
tells_store_over who file now (S by f block first last time) = tells_implies tells_who (tells_implies tells_same tells_le)
tells_store_over who file now other = yes

tells_passed : (now : ℕ) (grant : Option Given) → Tells (has_passed now grant) (IsSomeAnd grant (λ given. given.time + given.term + skew + write_slack ≤ now))
tells_passed now None = no
tells_passed now (Some grant) = tells_le

tells_late_end : (before : List Entry) (who : Who) (file until heard now : ℕ) → Tells (is_late_end before who file until heard now)
    (IsLateEnd before who file until heard now)
tells_late_end before who file until heard now =
    tells_alike
    (λ h. record { heard_over = h.0; until_over = h.1; grant_over = h.2; stores_over = h.3 })
    (λ h. (h.heard_over, h.until_over, h.grant_over, h.stores_over))
    (tells_4 tells_le tells_le (tells_passed now (last_grant before who file)) (tells_each (tells_store_over who file now) before))

tells_long_wait : (boot now : ℕ) (grant : Option Given) (entry : Entry) → Tells (is_long_wait boot now grant entry) (IsLongWait boot now grant entry)
tells_long_wait boot now (Some grant) (X b time longest) = tells_3 tells_same tells_le tells_le
tells_long_wait boot now grant other = no

tells_late_opening : (before : List Entry) (who : Who) (file boot now : ℕ) → Tells (is_late_opening before who file boot now)
    (IsLateOpening before who file boot now)
tells_late_opening before who file boot now =
    tells_alike
    (λ h. record { waited = h.0; stores_over = h.1 })
    (λ h. (h.waited, h.stores_over))
    (tells_and (tells_exists (tells_long_wait boot now (last_grant before who file)) before) (tells_each (tells_store_over who file now) before))

tells_ends : (who : Who) (file : ℕ) (entry : Entry) (before : List Entry) → Tells (ends who file entry before) (Ends who file entry before)
tells_ends who file (F by f until heard now) before = tells_3 tells_who tells_same (tells_late_end before who file until heard now)
tells_ends who file (O boot until heard now) before = tells_late_opening before who file boot now
tells_ends who file other before = no

tells_ends_in : (loss : Entry) (who : Who) (file : ℕ) (before : List Entry) → Tells (ends_first loss who file before) (EndsIn loss who file before)
tells_ends_in loss who file [] = no
tells_ends_in loss who file (entry ∷ before) = tells_or (tells_ends who file entry before) (tells_and (tells_not (tells_loses loss entry))
    (tells_ends_in loss who file before))

tells_ends_first : (loss : Entry) (who : Who) (file : ℕ) (before : List Entry) → Tells (ends_first loss who file before) (EndsFirst loss who file before)
tells_ends_first loss who file before = tells_alike (ends-first loss who file before) (ends-in loss who file before) (tells_ends_in loss who file before)

pub tells_cut_off : (after : List Entry) (entry : Entry) (before : List Entry) → Tells (is_cut_off after entry before) (IsCutOff after entry before)
tells_cut_off after (L who file block first last) before =
    tells_and (tells_ends_first (L who file block first last) who file before) (tells_not (tells_exists (tells_loses (L who file block first last)) after))
tells_cut_off after other before = yes

pub tells_excused : TellsLaw is_excused IsExcused
tells_excused journal = tells_at_each_place tells_cut_off [] journal

-- ---- reported

tells_name_of : (loss : Loss) (span : Span) → Tells (is_name_of loss span) (IsNameOf loss span)
tells_name_of loss span = tells_3 tells_same tells_same tells_same

pub tells_names : (whole : List Entry) (who : Who) (loss : Loss) (entry : Entry) → Tells (names whole who loss entry) (Names whole who loss entry)
tells_names whole who loss (A by q (Lost spans)) = tells_3 tells_who (tells_speaks_of loss.file (call_of whole by q))
    (tells_exists (tells_name_of loss) spans.items)
tells_names whole who loss other = no

tells_reporting : (file : ℕ) (told : Told) → Tells (is_reporting file told) (IsReporting file told)
tells_reporting file (Write f block value) = tells_same
tells_reporting file (Put f block value) = tells_same
tells_reporting file (Sync f) = tells_same
tells_reporting file (Resize f blocks) = tells_same
tells_reporting file (Remove f) = tells_same
tells_reporting file other = no

tells_busy_answer : (who : Who) (q : ℕ) (entry : Entry) → Tells (is_busy_answer who q entry) (IsBusyAnswer who q entry)
tells_busy_answer who q (A by n Busy) = tells_and tells_who tells_same
tells_busy_answer who q other = no

tells_must_report : (whole : List Entry) (who : Who) (file : ℕ) (entry : Entry) → Tells (must_report whole who file entry) (MustReport whole who file entry)
tells_must_report whole who file (C by q told) = tells_3 tells_who (tells_reporting file told) (tells_not (tells_exists (tells_busy_answer who q) whole))
tells_must_report whole who file other = no

tells_named_next : (whole : List Entry) (who : Who) (loss : Loss) (entry : Entry) (after : List Entry)
    → Tells (is_named_next whole who loss entry after) (IsNamedNext whole who loss entry after)
tells_named_next whole who loss (C by q told) (next ∷ after) = tells_and (tells_answer by q next) (tells_names whole who loss next)
tells_named_next whole who loss call after = no

tells_reported_in : (whole : List Entry) (who : Who) (loss : Loss) (after : List Entry) → Tells (is_reported_in whole who loss after)
    (IsReportedIn whole who loss after)
tells_reported_in whole who loss [] = yes
tells_reported_in whole who loss (entry ∷ after) =
    tells_and
    (tells_implies (tells_must_report whole who loss.file entry) (tells_named_next whole who loss entry after))
    (tells_unless (tells_must_report whole who loss.file entry) (tells_unless (tells_names whole who loss entry) (tells_reported_in whole who loss after)))

tells_unnamed : (whole before : List Entry) (who : Who) (call : Option Told) (span : Span) (entry : Entry)
    → Tells (is_unnamed whole before who call span entry) (IsUnnamed whole before who call span entry)
tells_unnamed whole before who call span (L by file block first last) =
    tells_4 tells_who (tells_speaks_of file call) (tells_name_of (loss_told file block first last) span)
    (tells_not (tells_exists (tells_names whole who (loss_told file block first last)) before))
tells_unnamed whole before who call span other = no

tells_same_span : (a b : Span) → Tells (is_same_span a b) (IsSameSpan a b)
tells_same_span a b = tells_3 tells_same tells_same tells_same

tells_name_losses : (whole before : List Entry) (who : Who) (call : Option Told) (spans : List Span) → Tells (name_losses whole before who call spans)
    (NameLosses whole before who call spans)
tells_name_losses whole before who call [] = yes
tells_name_losses whole before who call (span ∷ spans) =
    tells_3 (tells_exists (tells_unnamed whole before who call span) before) (tells_not (tells_exists (tells_same_span span) spans))
    (tells_name_losses whole before who call spans)

tells_reported_at : (whole after : List Entry) (entry : Entry) (before : List Entry) → Tells (is_reported_at whole after entry before)
    (IsReportedAt whole after entry before)
tells_reported_at whole after (L who file block first last) before = tells_reported_in whole who (loss_told file block first last) after
tells_reported_at whole after (A who q (Lost spans)) before = tells_name_losses whole before who (call_of whole who q) spans.items
tells_reported_at whole after other before = yes

pub tells_reported : TellsLaw is_reported IsReported
tells_reported journal = tells_at_each_place (tells_reported_at journal) [] journal
