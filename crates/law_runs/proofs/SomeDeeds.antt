-- A client reads, reads again, writes, changes a file's length and puts, and each is answered ok.
use Rattle.std.proofs.Common.{◌≡◌, true, List, [], ◌∷◌, refl, arith}
use Rattle.nq_base.specs.Block.{filled, zeros}
use Rattle.walk_steps.proofs.NoCrash.{no-crash-within}
use Rattle.nq_model.specs.protocol.World.{Head, run}
use Rattle.nq_base.specs.declared.Call.{Call}
use Rattle.nq_base.specs.declared.Event.{Event}
use Rattle.law_runs.specs.DeedsMet.{has_each, DeedsAreMet}
use Rattle.nq_model.proofs.SkewTest.{skew-test-is-sound}
use Rattle.walk_steps.proofs.GivenRuns.{given-run}

-- one host, one file of one block
abbrev one-host : Head
one-host = record { hosts = 1; term = 30; longest = 60; files = (97 ∷ [], 1) ∷ [] }

-- the newest event first
abbrev some-calls : List Event
some-calls =
    Event.Deliver 9 ∷ Event.Deliver 8 ∷ Event.Call 0 (Call.Put 1 0 (filled 8)) ∷ Event.Deliver 7 ∷ Event.Deliver 6 ∷ Event.Deliver 5 ∷ Event.Deliver 4
    ∷ Event.Call 0 (Call.Resize 1 2) ∷ Event.Deliver 3 ∷ Event.Deliver 2 ∷ Event.Call 0 (Call.Write 1 0 (filled 7))
    ∷ Event.Call 0 (Call.Read 1 0) ∷ Event.Deliver 1 ∷ Event.Deliver 0 ∷ Event.Call 0 (Call.Read 1 0) ∷ []

each-there : has_each (run one-host some-calls).journal ≡ true
unfolding filled zeros given-run
each-there = refl

pub some-deeds : DeedsAreMet
some-deeds = record {
  most = 60;
  head = one-host;
  events = some-calls;
  bounds = record { hosts = omega arith; first_long = omega arith; first_short = omega arith; boots = no-crash-within 60 some-calls refl };
  within = skew-test-is-sound 1 60 some-calls refl;
  answered = each-there;
}
