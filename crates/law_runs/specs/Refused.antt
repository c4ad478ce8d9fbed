-- Journals that only these laws refuse: each passes the tests of all others.
use Rattle.std.specs.Prelude.{◌&&◌, Bool, List, [], ◌∷◌, None, IsTrue}
use Rattle.nq_base.specs.declared.Entry.{Entry}
use Rattle.nq_base.specs.declared.Said.{Said}
use Rattle.nq_base.specs.declared.Told.{Told}
use Rattle.nq_model.specs.laws.CutOffTest.{is_excused}
use Rattle.nq_model.specs.laws.FateTest.{is_accounted}
use Rattle.nq_model.specs.laws.LegalTest.{is_legal}
use Rattle.nq_model.specs.laws.OfTheirCallTest.{are_of_their_call}
use Rattle.nq_model.specs.laws.OrderedTest.{is_ordered}
use Rattle.nq_model.specs.laws.ReportedTest.{is_reported}
use Rattle.nq_model.specs.laws.SynchronizedTest.{is_synchronized}
use Rattle.nq_model.specs.laws.AnswersAreOfTheirCalls.{AnswersAreOfTheirCalls}
use Rattle.nq_model.specs.laws.BusyIsSaidAtOnce.{BusyIsSaidAtOnce}
use Rattle.nq_model.specs.laws.OksHaveTheirDeeds.{OksHaveTheirDeeds}
use Rattle.nq_model.specs.laws.RefusalsAreOfTheirCalls.{RefusalsAreOfTheirCalls}

-- whether a journal passes the tests of all other laws of journals
abbrev pub passes : (journal : List Entry) → Bool
passes journal =
    is_legal journal && is_ordered journal && are_of_their_call journal && is_accounted journal && is_excused journal && is_reported journal &&
    is_synchronized journal

-- a write is answered ok and has vanished: the same client reads zeros then
abbrev pub a_vanished_write : List Entry
a_vanished_write =
    Entry.A (record { host = 0; inc = 1 }) 2 (Said.OkValue 0) ∷ Entry.R (record { host = 0; inc = 1 }) 2 1 0 0 None ∷
    Entry.C (record { host = 0; inc = 1 }) 2 (Told.Read 1 0) ∷ Entry.A (record { host = 0; inc = 1 }) 1 Said.Ok ∷
    Entry.C (record { host = 0; inc = 1 }) 1 (Told.Write 1 0 7) ∷ []

-- an answer to a call that nobody made
abbrev pub an_answer_to_no_call : List Entry
an_answer_to_no_call = Entry.A (record { host = 0; inc = 1 }) 5 (Said.OkValue 77) ∷ []

-- the vanished write is refused since an ok has no deed, and for nothing else
pub record OnlyDeedsRefuse : Type 0 where
  pub others : IsTrue (passes a_vanished_write)
  pub answered : AnswersAreOfTheirCalls a_vanished_write
  pub refused : ¬ OksHaveTheirDeeds a_vanished_write

-- the answer to no call is refused since it is of no call, and for nothing else
pub record OnlyCallsRefuse : Type 0 where
  pub others : IsTrue (passes an_answer_to_no_call)
  pub done : OksHaveTheirDeeds an_answer_to_no_call
  pub refused : ¬ AnswersAreOfTheirCalls an_answer_to_no_call

-- a call is answered busy, but not at once
abbrev pub a_late_busy : List Entry
a_late_busy =
    Entry.A (record { host = 0; inc = 1 }) 1 Said.Busy ∷ Entry.C (record { host = 1; inc = 1 }) 1 (Told.Sync 1) ∷
    Entry.C (record { host = 0; inc = 1 }) 1 (Told.Sync 1) ∷ []

-- the late busy is refused since busy is said at once, and for nothing else
pub record OnlyBusyRefuses : Type 0 where
  pub others : IsTrue (passes a_late_busy)
  pub answered : AnswersAreOfTheirCalls a_late_busy
  pub done : OksHaveTheirDeeds a_late_busy
  pub refused : ¬ BusyIsSaidAtOnce a_late_busy

-- a client that is attached, since a call of it was answered ok, answers busy while none is open
abbrev pub a_busy_for_nothing : List Entry
a_busy_for_nothing =
    Entry.A (record { host = 0; inc = 2 }) 2 Said.Busy ∷ Entry.C (record { host = 0; inc = 2 }) 2 (Told.Sync 1) ∷
    Entry.A (record { host = 0; inc = 2 }) 1 Said.Ok ∷ Entry.C (record { host = 0; inc = 2 }) 1 (Told.Sync 1) ∷
    Entry.B (record { host = 0; inc = 2 }) ∷ []

-- the busy for nothing is refused since busy has a cause at its call, and for nothing else
pub record OnlyCausesRefuse : Type 0 where
  pub others : IsTrue (passes a_busy_for_nothing)
  pub answered : AnswersAreOfTheirCalls a_busy_for_nothing
  pub done : OksHaveTheirDeeds a_busy_for_nothing
  pub forms : RefusalsAreOfTheirCalls a_busy_for_nothing
  pub refused : ¬ BusyIsSaidAtOnce a_busy_for_nothing

-- a lookup is told that there is such a name already
abbrev pub a_strange_refusal : List Entry
a_strange_refusal =
    Entry.A (record { host = 0; inc = 1 }) 1 Said.Exists ∷ Entry.C (record { host = 0; inc = 1 }) 1 (Told.Lookup (97 ∷ [])) ∷ []

-- the strange refusal is refused since no lookup is answered so, and for nothing else
pub record OnlyFormsRefuse : Type 0 where
  pub others : IsTrue (passes a_strange_refusal)
  pub answered : AnswersAreOfTheirCalls a_strange_refusal
  pub done : OksHaveTheirDeeds a_strange_refusal
  pub busy : BusyIsSaidAtOnce a_strange_refusal
  pub refused : ¬ RefusalsAreOfTheirCalls a_strange_refusal
