-- A run that meets the premises of this law, computed.
use Rattle.std.proofs.Common.{◌≡◌, ◌+◌, ◌++◌, nat_lt, true, false, [], refl}
use Rattle.nq_base.specs.Block.{filled, zeros}
use Rattle.nq_model.specs.protocol.Skew.{is_within_skew}
use Rattle.nq_model.specs.protocol.Table.{find_row}
use Rattle.walk_steps.proofs.GivenRuns.{given-run}
use Rattle.law_rounds.specs.DeliveryEnds.{calmed}
use Rattle.law_timely.specs.Timely.{is_timely, is_still, ticks_to_settle}
use Rattle.law_timely.specs.TimelyMet.{ticks}
use Rattle.law_notices.specs.GivenUpIsMet.{gone_hosts, first_moment, still_moment, asked_back, gives_back, asked_moment, given_moment, is_to_go, GivenUpIsMet}

settles : is_timely gone_hosts first_moment (ticks 5 []) ≡ true
unfolding calmed filled zeros given-run
settles = refl

late : nat_lt (first_moment.world.server.now + ticks_to_settle) (still_moment.world.server.now + 1) ≡ true
unfolding calmed filled zeros given-run
late = refl

still : is_still gone_hosts still_moment.world.packets still_moment.fresh ≡ true
unfolding calmed filled zeros given-run
still = refl

goes-on : is_timely gone_hosts still_moment (asked_back ++ gives_back) ≡ true
unfolding calmed filled zeros given-run
goes-on = refl

within : is_within_skew 4 6 given_moment.events ≡ true
unfolding calmed filled zeros given-run
within = refl

told : is_to_go (find_row 2 1 asked_moment.world.server.table.rows) ≡ true
unfolding calmed filled zeros given-run
told = refl

still-again : is_still gone_hosts given_moment.world.packets given_moment.fresh ≡ true
unfolding calmed filled zeros given-run
still-again = refl

given-up : is_to_go (find_row 2 1 given_moment.world.server.table.rows) ≡ false
unfolding calmed filled zeros given-run
given-up = refl

pub given-up-is-met : GivenUpIsMet
given-up-is-met = record {
  settles = settles;
  late = late;
  still = still;
  goes_on = goes-on;
  within = within;
  told = told;
  still_again = still-again;
  given_up = given-up;
}
