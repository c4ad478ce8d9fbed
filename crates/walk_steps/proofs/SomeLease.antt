-- After one read with a want a client holds a lease that runs.
use Rattle.std.proofs.Common.{◌≡◌, true, List, [], ◌∷◌, refl, arith}
use Rattle.nq_base.specs.Block.{filled, zeros}
use Rattle.nq_base.specs.declared.Call.{Call}
use Rattle.nq_base.specs.declared.Event.{Event}
use Rattle.walk_steps.proofs.NoCrash.{no-crash-within, one-first}
use Rattle.nq_model.specs.laws.Bounds.{BootsWithin}
use Rattle.walk_steps.specs.IntervalsMet.{IsMet, IsMetInRecovery, holds_running, is_recovering}
use Rattle.std.specs.Prelude.{slice_get, All}
use Rattle.nq_model.proofs.SkewTest.{skew-test-is-sound}
use Rattle.nq_model.specs.protocol.World.{Head, run}
use Rattle.walk_steps.proofs.GivenRuns.{given-run}

-- two hosts, one file of one block
abbrev pub two-hosts : Head
two-hosts = record { hosts = 2; term = 30; longest = 60; files = (97 ∷ [], 1) ∷ [] }

-- host 0 reads, and its packets arrive; the newest event first
abbrev pub one-read : List Event
one-read = Event.Deliver 1 ∷ Event.Deliver 0 ∷ Event.Call 0 (Call.Read 1 0) ∷ []

holds-one : holds_running 1 (slice_get (run two-hosts one-read).clients 0) ≡ true
unfolding filled zeros given-run
holds-one = refl

pub is-met : IsMet
is-met = record {
  most = 60;
  head = two-hosts;
  events = one-read;
  host = 0;
  file = 1;
  bounds = record { hosts = omega arith; first_long = omega arith; first_short = omega arith; boots = no-crash-within 60 one-read refl };
  within = skew-test-is-sound 2 60 one-read refl;
  holds = holds-one;
}

-- then the server crashes: it recovers, and the client's lease runs on
abbrev crashed : List Event
crashed = Event.Crash 60 ∷ one-read

boots-few : All (BootsWithin 60) crashed
boots-few = one-first 60 (Event.Crash 60) one-read (omega arith, omega arith) (no-crash-within 60 one-read refl)

holds-on : holds_running 1 (slice_get (run two-hosts crashed).clients 0) ≡ true
unfolding filled zeros given-run
holds-on = refl

recovers : is_recovering (run two-hosts crashed).server.phase ≡ true
unfolding filled zeros given-run
recovers = refl

pub is-met-in-recovery : IsMetInRecovery
is-met-in-recovery = record {
  most = 60;
  head = two-hosts;
  events = crashed;
  host = 0;
  file = 1;
  bounds = record { hosts = omega arith; first_long = omega arith; first_short = omega arith; boots = boots-few };
  within = skew-test-is-sound 2 60 crashed refl;
  holds = holds-on;
  recovers = recovers;
}
