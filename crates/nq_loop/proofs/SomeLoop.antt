-- The events of three turns of a loop of one host come in time.
use Rattle.std.proofs.Common.{◌≡◌, true, false, nat_le, length, refl}
use Rattle.nq_base.specs.Block.{filled, zeros}
use Rattle.nq_loop.specs.Turning.{all_answered}
use Rattle.nq_model.specs.protocol.Stepped.{most_events, most_sent}
use Rattle.walk_steps.proofs.GivenRuns.{given-run}
use Rattle.walk_steps.proofs.Tests.{is-at-most}
use Rattle.law_rounds.specs.DeliveryEnds.{calmed}
use Rattle.nq_loop.specs.InTime.{played, all_in_time}
use Rattle.nq_loop.specs.Met.{one_head, two_turns, three_turns, LoopsAreMet}

comes-in-time : all_in_time one_head three_turns ≡ true
unfolding calmed filled zeros given-run
comes-in-time = refl

few-events : nat_le (length (played one_head three_turns).events) most_events ≡ true
unfolding calmed filled zeros given-run
few-events = refl

few-packets : nat_le (length (played one_head three_turns).world.packets) most_sent ≡ true
unfolding calmed filled zeros given-run
few-packets = refl

one-left : all_answered one_head two_turns ≡ false
unfolding calmed filled zeros given-run
one-left = refl

none-left : all_answered one_head three_turns ≡ true
unfolding calmed filled zeros given-run
none-left = refl

pub loops-are-met : LoopsAreMet
loops-are-met = record {
  in_time = comes-in-time;
  small = record {
    events = is-at-most (length (played one_head three_turns).events) most_events few-events;
    packets = is-at-most (length (played one_head three_turns).world.packets) most_sent few-packets;
  };
  left = one-left;
  answered = none-left;
}
