-- Which losses are reported, and which names are of losses.
-- An L is reported by the A of the first call that has to: by its first A, since a call has one.
use Rattle.std.specs.Prelude.{List, [], ◌∷◌, Bool, true, false, not, ◌&&◌, ◌||◌}
use Rattle.nq_base.specs.declared.Entry.{Entry}
use Rattle.nq_base.specs.declared.Entry.TheVariants.{C, L, A}
use Rattle.nq_base.specs.declared.Loss.{Loss}
use Rattle.nq_base.specs.declared.Said.TheVariants.{Lost}
use Rattle.nq_base.specs.declared.Who.{Who}
use Rattle.nq_model.specs.laws.Journal.{call_of}
use Rattle.nq_model.specs.laws.JournalTest.{exists, is_answer}
use Rattle.nq_model.specs.laws.Reported.{loss_told}
use Rattle.nq_model.specs.laws.ReportedTest.{must_report, name_losses, names}

-- whether the next entry is the A of this C, is `lost` and names the loss
abbrev pub is_named_at_once : (whole before : List Entry) (who : Who) (loss : Loss) → Entry → (after : List Entry) → Bool
is_named_at_once whole before who loss (C by q told) (next ∷ after) = is_answer by q next && names whole who loss next && not (exists (is_answer by q) before)
is_named_at_once whole before who loss call after = false

-- whether, among the entries after an L, the first C that has to report it is answered at once by an A that names it, unless
-- an A before that C names it
abbrev pub is_reported : (whole before : List Entry) (who : Who) (loss : Loss) (after : List Entry) → Bool
is_reported whole before who loss [] = true
is_reported whole before who loss (entry ∷ after) =
    (not (must_report whole who loss.file entry) || is_named_at_once whole before who loss entry after) &&
    (must_report whole who loss.file entry || (names whole who loss entry || is_reported whole (entry ∷ before) who loss after))

-- what is asked of an L, that it is reported; and of an A `lost`, that each of its spans names an earlier L of the
-- incarnation on the file of the call, for the first time
abbrev pub is_reported_at : (whole after : List Entry) → Entry → (before : List Entry) → Bool
is_reported_at whole after (L who file block first last) before =
    is_reported whole (L who file block first last ∷ before) who (loss_told file block first last) after
is_reported_at whole after (A who q (Lost spans)) before = name_losses whole before who (call_of whole who q) spans.items
is_reported_at whole after other before = true
