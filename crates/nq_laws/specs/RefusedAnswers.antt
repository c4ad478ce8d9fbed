-- Journals that only the laws on what answers say refuse: each passes the tests of all other laws.
use Rattle.std.specs.Prelude.{◌≡◌, List, [], ◌∷◌, Some, IsTrue}
use Rattle.law_runs.specs.Refused.{passes}
use Rattle.nq_base.specs.declared.Call.{Call}
use Rattle.nq_base.specs.declared.Entry.{Entry}
use Rattle.nq_base.specs.declared.Event.{Event}
use Rattle.nq_base.specs.declared.Said.{Said}
use Rattle.nq_base.specs.declared.Told.{Told}
use Rattle.nq_model.specs.laws.AnswersAreOfTheirCalls.{AnswersAreOfTheirCalls}
use Rattle.nq_model.specs.laws.AnswersHaveCauses.{LacksName, LacksBlock, HasCauseAt}
use Rattle.nq_model.specs.laws.BusyIsSaidAtOnce.{BusyIsSaidAtOnce}
use Rattle.nq_model.specs.laws.Journal.{Throughout}
use Rattle.nq_model.specs.laws.LossesAreNamed.{LossesAreNamed}
use Rattle.nq_model.specs.laws.OksHaveTheirDeeds.{OksHaveTheirDeeds}
use Rattle.nq_model.specs.laws.RefusalsAreOfTheirCalls.{RefusalsAreOfTheirCalls}
use Rattle.nq_model.specs.laws.RepliesTellWhatWas.{Once}
use Rattle.nq_model.specs.protocol.World.{Head, run}

-- one host, and no file at first
abbrev pub no_file_head : Head
no_file_head = record { hosts = 1; term = 30; longest = 60; files = [] }

-- a file is made, and then looked up; the newest event first
abbrev pub made_and_found : List Event
made_and_found =
    Event.Deliver 3 ∷ Event.Deliver 2 ∷ Event.Call 0 (Call.Lookup (98 ∷ [])) ∷ Event.Deliver 1 ∷ Event.Deliver 0
    ∷ Event.Call 0 (Call.Create (98 ∷ []) 1) ∷ []

-- the journal of that run
abbrev pub its_journal : List Entry
its_journal =
    Entry.A (record { host = 0; inc = 1 }) 2 (Said.OkValue 1) ∷ Entry.C (record { host = 0; inc = 1 }) 2 (Told.Lookup (98 ∷ [])) ∷
    Entry.A (record { host = 0; inc = 1 }) 1 (Said.OkValue 1) ∷ Entry.C (record { host = 0; inc = 1 }) 1 (Told.Create (98 ∷ []) 1) ∷ []

-- the same, but the lookup is told that there is no such name
abbrev pub a_late_no_entry : List Entry
a_late_no_entry =
    Entry.A (record { host = 0; inc = 1 }) 2 Said.NoEntry ∷ Entry.C (record { host = 0; inc = 1 }) 2 (Told.Lookup (98 ∷ [])) ∷
    Entry.A (record { host = 0; inc = 1 }) 1 (Said.OkValue 1) ∷ Entry.C (record { host = 0; inc = 1 }) 1 (Told.Create (98 ∷ []) 1) ∷ []

-- the late `noentry` is refused since there was such a name from the call to the answer, though there was none at first
pub record OnlyMomentsRefuse : Type 0 where
  pub ran : (run no_file_head made_and_found).journal ≡ its_journal
  pub others : IsTrue (passes a_late_no_entry)
  pub answered : AnswersAreOfTheirCalls a_late_no_entry
  pub done : OksHaveTheirDeeds a_late_no_entry
  pub busy : BusyIsSaidAtOnce a_late_no_entry
  pub forms : RefusalsAreOfTheirCalls a_late_no_entry
  pub at_first : Once (λ w. LacksName w.server.kept.files (98 ∷ [])) no_file_head made_and_found
  pub refused : ¬ Throughout (HasCauseAt no_file_head made_and_found) a_late_no_entry

-- one host, and a file of one block
abbrev pub one_block_head : Head
one_block_head = record { hosts = 1; term = 30; longest = 60; files = (98 ∷ [], 1) ∷ [] }

-- the file gets a second block, which is then fetched; the newest event first
abbrev pub grown_and_fetched : List Event
grown_and_fetched =
    Event.Deliver 3 ∷ Event.Deliver 2 ∷ Event.Call 0 (Call.Fetch 1 1) ∷ Event.Deliver 1 ∷ Event.Deliver 0 ∷ Event.Call 0 (Call.Resize 1 2) ∷ []

-- the journal of that run
abbrev pub a_fetched_block : List Entry
a_fetched_block =
    Entry.A (record { host = 0; inc = 1 }) 2 (Said.OkBy 0 3) ∷ Entry.R (record { host = 0; inc = 1 }) 2 1 1 0 (Some 3) ∷
    Entry.C (record { host = 0; inc = 1 }) 2 (Told.Fetch 1 1) ∷ Entry.A (record { host = 0; inc = 1 }) 1 Said.Ok ∷
    Entry.Z (record { host = 0; inc = 1 }) 1 1 1 2 ∷ Entry.C (record { host = 0; inc = 1 }) 1 (Told.Resize 1 2) ∷ []

-- the same, but the fetch is told that there is no such block
abbrev pub a_late_range : List Entry
a_late_range =
    Entry.A (record { host = 0; inc = 1 }) 2 Said.Range ∷ Entry.C (record { host = 0; inc = 1 }) 2 (Told.Fetch 1 1) ∷
    Entry.A (record { host = 0; inc = 1 }) 1 Said.Ok ∷ Entry.Z (record { host = 0; inc = 1 }) 1 1 1 2 ∷
    Entry.C (record { host = 0; inc = 1 }) 1 (Told.Resize 1 2) ∷ []

-- the late `range` is refused since the file had that block from the call to the answer, though it had not at first
pub record OnlyRangesRefuse : Type 0 where
  pub ran : (run one_block_head grown_and_fetched).journal ≡ a_fetched_block
  pub others : IsTrue (passes a_late_range)
  pub answered : AnswersAreOfTheirCalls a_late_range
  pub done : OksHaveTheirDeeds a_late_range
  pub busy : BusyIsSaidAtOnce a_late_range
  pub forms : RefusalsAreOfTheirCalls a_late_range
  pub at_first : Once (λ w. LacksBlock w.server.kept.files 1 1) one_block_head grown_and_fetched
  pub refused : ¬ Throughout (HasCauseAt one_block_head grown_and_fetched) a_late_range

-- a sync is told that something is lost, and not what
abbrev pub a_loss_of_nothing : List Entry
a_loss_of_nothing =
    Entry.A (record { host = 0; inc = 1 }) 1 (Said.Lost (record { items = []; spare = 0 })) ∷
    Entry.C (record { host = 0; inc = 1 }) 1 (Told.Sync 1) ∷ []

-- the loss of nothing is refused since `lost` names some write, and for nothing else
pub record OnlyNamesRefuse : Type 0 where
  pub others : IsTrue (passes a_loss_of_nothing)
  pub answered : AnswersAreOfTheirCalls a_loss_of_nothing
  pub done : OksHaveTheirDeeds a_loss_of_nothing
  pub busy : BusyIsSaidAtOnce a_loss_of_nothing
  pub forms : RefusalsAreOfTheirCalls a_loss_of_nothing
  pub refused : ¬ LossesAreNamed a_loss_of_nothing
