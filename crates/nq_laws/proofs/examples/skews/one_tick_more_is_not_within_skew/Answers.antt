use Rattle.std.proofs.Common.{◌≤◌, ◌+◌, List, [], ◌∷◌, refl, arith}
use Rattle.nq_base.specs.declared.Event.{Event}
use Rattle.nq_model.proofs.SkewTest.{skew-test-is-sound}
use Rattle.nq_model.specs.protocol.Profile.{skew}
use Rattle.nq_model.specs.protocol.Skew.{server_ticks, ticks_of}
use Rattle.nq_laws.specs.Skews.{some_ticks}
use Rattle.nq_laws.proofs.examples.skews.one_tick_more_is_not_within_skew.Goals as goal

-- four ticks of the server's clock, and none of a host's
four : List Event
four = Event.ServerTick ∷ Event.ServerTick ∷ Event.ServerTick ∷ Event.ServerTick ∷ []

pub returns : goal.returns
unfolding four
returns c = (
  skew-test-is-sound 2 60 some_ticks refl,
  λ within. let few : server_ticks four ≤ ticks_of 0 four + skew = within [] four (Event.ClientTick 1
      ∷ Event.ClientTick 0 ∷ Event.Crash 60 ∷ Event.ServerTick ∷ []) refl 0 (omega arith) (omega arith) in absurd (omega arith),
)
