-- One write is delayed, and a sync stores it.
use Rattle.std.proofs.Common.{◌≡◌, ℕ, List, [], ◌∷◌, Some, refl, arith, inl, inr}
use Rattle.nq_base.specs.Block.{filled, zeros}
use Rattle.nq_base.specs.declared.Call.{Call}
use Rattle.nq_base.specs.declared.Event.{Event}
use Rattle.nq_base.specs.declared.Told.{Told}
use Rattle.walk_steps.proofs.NoCrash.{no-crash-within}
use Rattle.nq_model.proofs.SkewTest.{skew-test-is-sound}
use Rattle.nq_model.specs.laws.Journal.{Exists, call_of}
use Rattle.nq_model.specs.protocol.World.{Head, run}
use Rattle.law_runs.specs.OksMet.{IsOk, IsDelayedAndStored, IsSyncedOnce}
use Rattle.walk_steps.proofs.GivenRuns.{given-run}

-- one host, one file of one block
abbrev one-host : Head
one-host = record { hosts = 1; term = 30; longest = 60; files = (97 ∷ [], 1) ∷ [] }

abbrev body : List ℕ
body = filled 5

-- host 0 writes under a new lease, and syncs; the newest event first
abbrev one-sync : List Event
one-sync =
    Event.Deliver 3
    ∷ Event.Deliver 2
    ∷ Event.Call 0 (Call.Sync 1)
    ∷ Event.Deliver 1
    ∷ Event.Deliver 0
    ∷ Event.Call 0 (Call.Write 1 0 body)
    ∷ []

asks : call_of (run one-host one-sync).journal (record { host = 0; inc = 1 }) 2 ≡ Some (Told.Sync 1)
unfolding filled zeros given-run
asks = refl

answered : Exists (IsOk (record { host = 0; inc = 1 }) 2) (run one-host one-sync).journal
unfolding filled zeros given-run
answered = inl (refl, refl)

stored : Exists (IsDelayedAndStored (run one-host one-sync).journal (record { host = 0; inc = 1 }) 1) (run one-host one-sync).journal
unfolding filled zeros given-run
stored = inr (inr (inr (inr (inl (refl, refl, inr (inl (refl, refl, refl, omega arith, omega arith)))))))

pub synced-once : IsSyncedOnce
synced-once = record {
  most = 60;
  head = one-host;
  events = one-sync;
  who = record { host = 0; inc = 1 };
  q = 2;
  file = 1;
  bounds = record { hosts = omega arith; first_long = omega arith; first_short = omega arith; boots = no-crash-within 60 one-sync refl };
  within = skew-test-is-sound 1 60 one-sync refl;
  asks = asks;
  answered = answered;
  stored = stored;
}
