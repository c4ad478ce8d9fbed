-- A client delays a write, stores it, and gives its file another length.
use Rattle.std.proofs.Common.{◌≡◌, true, List, [], ◌∷◌, refl, arith}
use Rattle.nq_base.specs.Block.{filled, zeros}
use Rattle.walk_steps.proofs.NoCrash.{no-crash-within}
use Rattle.nq_model.specs.protocol.World.{Head, run}
use Rattle.nq_base.specs.declared.Call.{Call}
use Rattle.nq_base.specs.declared.Event.{Event}
use Rattle.nq_model.proofs.SkewTest.{skew-test-is-sound}
use Rattle.nq_model.specs.protocol.Skew.{IsWithinSkew}
use Rattle.nq_model.specs.laws.Bounds.{KeepsBounds}
use Rattle.law_runs.specs.HeldMet.{HeldAreMet, has_held}
use Rattle.walk_steps.proofs.GivenRuns.{given-run}

-- one host, one file of one block
abbrev pub one-host : Head
one-host = record { hosts = 1; term = 30; longest = 60; files = (97 ∷ [], 1) ∷ [] }

-- the newest event first
abbrev pub some-events : List Event
some-events =
    Event.Deliver 7 ∷ Event.Deliver 6 ∷ Event.Call 0 (Call.Read 1 0) ∷ Event.Deliver 5 ∷ Event.Deliver 4 ∷ Event.Call 0 (Call.Resize 1 2)
    ∷ Event.Deliver 3 ∷ Event.Deliver 2 ∷ Event.Call 0 (Call.Sync 1) ∷ Event.Call 0 (Call.Read 1 0) ∷ Event.Deliver 1 ∷ Event.Deliver 0
    ∷ Event.Call 0 (Call.Write 1 0 (filled 7)) ∷ []

all-there : has_held (run one-host some-events) ≡ true
unfolding filled zeros given-run
all-there = refl

pub bounds : KeepsBounds 60 one-host some-events
bounds = record { hosts = omega arith; first_long = omega arith; first_short = omega arith; boots = no-crash-within 60 some-events refl }

pub within : IsWithinSkew 1 60 some-events
within = skew-test-is-sound 1 60 some-events refl

pub held-are-met : HeldAreMet
held-are-met = record {
  most = 60;
  head = one-host;
  events = some-events;
  bounds = bounds;
  within = within;
  met = all-there;
}
