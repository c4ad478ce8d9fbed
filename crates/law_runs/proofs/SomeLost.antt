-- A write is delayed, the lease ends in silence while the client's pushes are lost, and then one is refused.
use Rattle.std.proofs.Common.{◌≡◌, true, false, List, [], ◌∷◌, ◌++◌, Some, refl, arith}
use Rattle.std.specs.List.{list_any}
use Rattle.std.specs.Prelude.{slice_get, unwrap_or, is_some, All}
use Rattle.nq_base.specs.Block.{zeros}
use Rattle.nq_base.specs.declared.Call.{Call}
use Rattle.nq_base.specs.declared.Event.{Event}
use Rattle.law_runs.specs.ExcusesMet.{tells_loss, IsLostSometime}
use Rattle.walk_steps.proofs.NoCrash.{no-crash-within}
use Rattle.nq_model.specs.laws.Bounds.{BootsWithin}
use Rattle.nq_model.proofs.SkewTest.{skew-test-is-sound}
use Rattle.nq_model.specs.protocol.Client.{Client, is_clean}
use Rattle.nq_model.specs.protocol.Skew.{is_within_skew}
use Rattle.nq_model.specs.protocol.World.{Head, run}
use Rattle.nq_model.specs.protocol.ClientStep.{attached_client}
use Rattle.walk_steps.proofs.Tests.{some-is}
use Rattle.walk_steps.proofs.GivenRuns.{given-run}

-- one host that wants terms of five ticks, and one file of one block
abbrev pub one-host : Head
one-host = record { hosts = 1; term = 5; longest = 60; files = (97 ∷ [], 1) ∷ [] }

-- a lease is asked for and granted, and the write is delayed; the newest event first
unfoldable pub delayed : List Event
delayed = Event.Deliver 1 ∷ Event.Deliver 0 ∷ Event.Call 0 (Call.Write 1 0 zeros) ∷ []

-- thirteen rounds, in which the lease ends
unfoldable pub rounds : List Event
rounds =
    Event.ServerTick ∷ Event.ClientTick 0
    ∷ Event.ServerTick ∷ Event.ClientTick 0
    ∷ Event.ServerTick ∷ Event.ClientTick 0
    ∷ Event.ServerTick ∷ Event.ClientTick 0
    ∷ Event.ServerTick ∷ Event.ClientTick 0
    ∷ Event.ServerTick ∷ Event.ClientTick 0
    ∷ Event.ServerTick ∷ Event.ClientTick 0
    ∷ Event.ServerTick ∷ Event.ClientTick 0
    ∷ Event.ServerTick ∷ Event.ClientTick 0
    ∷ Event.ServerTick ∷ Event.ClientTick 0
    ∷ Event.ServerTick ∷ Event.ClientTick 0
    ∷ Event.ServerTick ∷ Event.ClientTick 0
    ∷ Event.ServerTick ∷ Event.ClientTick 0
    ∷ []

-- and then the first push comes to the server, and its refusal to the client
lost-later : List Event
lost-later = Event.Deliver 8 ∷ Event.Deliver 2 ∷ rounds

-- the client after it delayed the write
unfoldable pub writer : Client
writer = unwrap_or (slice_get (run one-host delayed).clients 0) (attached_client (record { host = 0; inc = 1 }) 5 0)

is-there : is_some (slice_get (run one-host delayed).clients 0) ≡ true
unfolding delayed given-run
is-there = refl

pub there : slice_get (run one-host delayed).clients 0 ≡ Some writer
unfolding writer
there = some-is (slice_get (run one-host delayed).clients 0) (attached_client (record { host = 0; inc = 1 }) 5 0) is-there

pub unsaved : is_clean writer 1 ≡ false
unfolding delayed writer given-run
unsaved = refl

lost : list_any tells_loss (run one-host (lost-later ++ delayed)).journal ≡ true
unfolding delayed rounds lost-later given-run
lost = refl

pub bounds-delayed : All (BootsWithin 60) delayed
unfolding delayed
bounds-delayed = no-crash-within 60 delayed refl

bounds-later : All (BootsWithin 60) (lost-later ++ delayed)
unfolding delayed rounds lost-later
bounds-later = no-crash-within 60 (lost-later ++ delayed) refl

pub within : is_within_skew 1 60 delayed ≡ true
unfolding delayed
within = refl

within-later : is_within_skew 1 60 (lost-later ++ delayed) ≡ true
unfolding delayed rounds lost-later
within-later = refl

pub is-lost-sometime : IsLostSometime
is-lost-sometime = record {
  most = 60;
  head = one-host;
  events = delayed;
  later = lost-later;
  host = 0;
  client = writer;
  file = 1;
  bounds = record { hosts = omega arith; first_long = omega arith; first_short = omega arith; boots = bounds-delayed };
  within = skew-test-is-sound 1 60 delayed within;
  there = there;
  unsaved = unsaved;
  bounds_later = record { hosts = omega arith; first_long = omega arith; first_short = omega arith; boots = bounds-later };
  within_later = skew-test-is-sound 1 60 (lost-later ++ delayed) within-later;
  lost = lost;
}
