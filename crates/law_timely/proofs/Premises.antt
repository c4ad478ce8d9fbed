-- Schedules in which one premise is missing, computed.
use Rattle.std.proofs.Common.{◌≡◌, ◌++◌, true, false, [], ◌∷◌, refl}
use Rattle.nq_base.specs.Block.{filled, zeros}
use Rattle.nq_model.specs.protocol.Skew.{is_within_skew}
use Rattle.walk_steps.proofs.GivenRuns.{given-run}
use Rattle.law_rounds.specs.DeliveryEnds.{calmed}
use Rattle.law_rounds.specs.QuietDeliveries.{recovers}
use Rattle.law_timely.specs.PremisesMatter.{both_tick, server_alone, waits_beyond, fresh_start, crashed_start, call_soon, call_put_off, put_off_again}
use Rattle.law_timely.specs.PremisesMatter.{call_before_end, PremisesMatter}
use Rattle.law_timely.specs.Timely.{play_events, is_timely}

recovering : waits_beyond crashed_start call_put_off put_off_again ≡ true
unfolding calmed filled zeros given-run
recovering = refl

recovering-timely : is_timely [] crashed_start (call_put_off ++ put_off_again) ≡ true
unfolding calmed filled zeros given-run
recovering-timely = refl

recovers-then : recovers (play_events call_put_off crashed_start).world.server.phase ≡ true
unfolding calmed filled zeros given-run
recovers-then = refl

dead : waits_beyond fresh_start call_soon (both_tick 5 []) ≡ true
unfolding calmed filled zeros given-run
dead = refl

dead-timely : is_timely (0 ∷ []) fresh_start (call_soon ++ both_tick 5 []) ≡ true
unfolding calmed filled zeros given-run
dead-timely = refl

slow-untimely : is_timely [] fresh_start (call_soon ++ both_tick 5 []) ≡ false
unfolding calmed filled zeros given-run
slow-untimely = refl

out-of-skew : waits_beyond crashed_start call_before_end (server_alone 5) ≡ true
unfolding calmed filled zeros given-run
out-of-skew = refl

out-of-skew-timely : is_timely [] crashed_start (call_before_end ++ server_alone 5) ≡ true
unfolding calmed filled zeros given-run
out-of-skew-timely = refl

serves-then : recovers (play_events call_before_end crashed_start).world.server.phase ≡ false
unfolding calmed filled zeros given-run
serves-then = refl

skewed : is_within_skew 1 6 (play_events (call_before_end ++ server_alone 5) crashed_start).events ≡ false
unfolding calmed filled zeros given-run
skewed = refl

pub premises-matter : PremisesMatter
premises-matter = record {
  recovering = recovering;
  recovering_timely = recovering-timely;
  recovers_then = recovers-then;
  dead = dead;
  dead_timely = dead-timely;
  slow_untimely = slow-untimely;
  out_of_skew = out-of-skew;
  out_of_skew_timely = out-of-skew-timely;
  serves_then = serves-then;
  skewed = skewed;
}
