-- A run that meets the premises of the law, computed.
use Rattle.std.proofs.Common.{◌≡◌, nat_lt, true, false, refl}
use Rattle.std.specs.Prelude.{◌+◌, slice_get}
use Rattle.nq_base.specs.Block.{filled, zeros}
use Rattle.nq_model.specs.protocol.Skew.{is_within_skew}
use Rattle.walk_steps.proofs.GivenRuns.{given-run}
use Rattle.law_rounds.specs.DeliveryEnds.{calmed}
use Rattle.law_rounds.specs.QuietDeliveries.{recovers}
use Rattle.law_timely.specs.NobodyIsWaitedFor.{longest_wait}
use Rattle.law_timely.specs.Timely.{is_timely, ticks_to_settle}
use Rattle.law_timely.specs.TimelyMet.{met_dead, met_start, met_moment, met_later, met_settling, met_rest, waits_for_nobody, has_call, TimelyIsMet}

settles : is_timely met_dead met_start met_settling ≡ true
unfolding calmed filled zeros given-run
settles = refl

goes-on : is_timely met_dead met_moment met_rest ≡ true
unfolding calmed filled zeros given-run
goes-on = refl

within : is_within_skew 4 6 met_later.events ≡ true
unfolding calmed
within = refl

late : nat_lt (met_start.world.server.now + ticks_to_settle) (met_moment.world.server.now + 1) ≡ true
unfolding calmed filled zeros given-run
late = refl

later : nat_lt (met_moment.world.server.now + longest_wait) met_later.world.server.now ≡ true
unfolding calmed filled zeros given-run
later = refl

serves : recovers met_moment.world.server.phase ≡ false
unfolding calmed filled zeros given-run
serves = refl

asks : waits_for_nobody (slice_get met_moment.world.clients 3) ≡ true
unfolding calmed filled zeros given-run
asks = refl

answered : has_call (slice_get met_later.world.clients 3) ≡ false
unfolding calmed filled zeros given-run
answered = refl

busy : has_call (slice_get met_later.world.clients 2) ≡ true
unfolding calmed filled zeros given-run
busy = refl

pub timely-is-met : TimelyIsMet
timely-is-met = record {
  settles = settles;
  goes_on = goes-on;
  within = within;
  late = late;
  later = later;
  serves = serves;
  asks = asks;
  answered = answered;
  busy = busy;
}
