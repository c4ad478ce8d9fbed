-- The five rules by which a journal is judged, and the entries at fault under each. `docs/check.md` tells them in words.
use Rattle.std.specs.Prelude.{List, [], ◌∷◌, Option, Some, None, Bool, ◌&&◌, if◌then◌else◌}
use Rattle.nq_base.specs.declared.Entry.{Entry}
use Rattle.nq_check.specs.declared.rules.Rule.{Rule}
use Rattle.nq_check.specs.declared.rules.Rule.TheVariants.{Legal, Ordered, Accounted, Reported, Synchronized}
use Rattle.nq_rules.specs.Kept.{is_kept_at}
use Rattle.nq_check.specs.Legal.{is_legal_at}
use Rattle.nq_rules.specs.Named.{is_reported_at}
use Rattle.nq_model.specs.laws.CutOffTest.{is_cut_off}
use Rattle.nq_model.specs.laws.FateTest.{is_accounted_at}
use Rattle.nq_model.specs.laws.OrderedTest.{is_in_order}

-- whether an entry at its place in a journal keeps a rule
abbrev pub keeps : Rule → (whole after : List Entry) → Entry → (before : List Entry) → Bool
keeps Legal whole after entry before = is_legal_at whole entry before
keeps Ordered whole after entry before = is_in_order whole after entry before
keeps Accounted whole after entry before = is_accounted_at whole entry before
keeps Reported whole after entry before = is_cut_off after entry before && is_reported_at whole after entry before
keeps Synchronized whole after entry before = is_kept_at whole entry before

-- the first rule of these under which an entry is at fault
abbrev pub first_of : List Rule → (whole after : List Entry) → Entry → (before : List Entry) → Option Rule
first_of [] whole after entry before = None
first_of (rule ∷ rules) whole after entry before = if keeps rule whole after entry before then first_of rules whole after entry before else Some rule

-- the first rule under which an entry is at fault, in the order in which they are named
unfoldable pub first_rule : (whole after : List Entry) → Entry → (before : List Entry) → Option Rule
first_rule = first_of (Legal ∷ Ordered ∷ Accounted ∷ Reported ∷ Synchronized ∷ [])
