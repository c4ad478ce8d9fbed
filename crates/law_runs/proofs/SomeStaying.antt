-- A file is made, is written, and is removed.
use Rattle.std.proofs.Common.{◌≡◌, List, [], ◌∷◌, ◌++◌, None, refl, inl, inr}
use Rattle.nq_base.specs.Block.{filled, zeros}
use Rattle.nq_base.specs.declared.Call.{Call}
use Rattle.nq_base.specs.declared.Event.{Event}
use Rattle.nq_model.specs.laws.Journal.{Exists}
use Rattle.nq_model.specs.protocol.Kept.{find_file}
use Rattle.nq_model.specs.protocol.World.{Head, run}
use Rattle.walk_steps.proofs.GivenRuns.{given-run}
use Rattle.law_runs.specs.Staying.{FilesStayIsMet, IsRemoval, KeepsUnder}

-- one host, and no file
abbrev one-host : Head
one-host = record { hosts = 1; term = 30; longest = 60; files = [] }

-- the newest event first
abbrev made : List Event
made = Event.Deliver 1 ∷ Event.Deliver 0 ∷ Event.Call 0 (Call.Create (98 ∷ []) 1) ∷ []

abbrev resized : List Event
resized = Event.Deliver 3 ∷ Event.Deliver 2 ∷ Event.Call 0 (Call.Resize 1 2) ∷ []

abbrev removed : List Event
removed = Event.Deliver 3 ∷ Event.Deliver 2 ∷ Event.Call 0 (Call.Remove 1) ∷ []

is-made : KeepsUnder 1 (98 ∷ []) (run one-host made).server.kept.files
unfolding filled zeros given-run
is-made = record { file = _; found = refl; named = refl }

stays : KeepsUnder 1 (98 ∷ []) (run one-host (resized ++ made)).server.kept.files
unfolding filled zeros given-run
stays = record { file = _; found = refl; named = refl }

is-removed : Exists (IsRemoval 1) (run one-host (removed ++ made)).journal
unfolding filled zeros given-run
is-removed = inr (inl (refl, refl))

gone : find_file 1 (run one-host (removed ++ made)).server.kept.files ≡ None
unfolding filled zeros given-run
gone = refl

pub files-stay-is-met : FilesStayIsMet
files-stay-is-met = record {
  head = one-host;
  later = resized;
  made = made;
  removing = removed;
  name = 98 ∷ [];
  is_made = is-made;
  stays = stays;
  removed = is-removed;
  gone = gone;
}
