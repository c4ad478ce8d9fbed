-- A schedule with a recovery that meets the premises, and needs more than half of the rounds.
use Rattle.std.proofs.Common.{◌≡◌, ℕ, true, nat_le, [], ◌∷◌, length, refl, sym, subst, ap, ◌∙◌, arith}
use Rattle.std.specs.Prelude.{All, slice_get}
use Rattle.nq_base.specs.Block.{filled, zeros}
use Rattle.nq_base.specs.declared.Call.{Call}
use Rattle.nq_base.specs.declared.Event.{Event}
use Rattle.nq_model.specs.laws.Bounds.{KeepsBounds, BootsWithin}
use Rattle.nq_model.specs.protocol.Lines.{Play}
use Rattle.nq_model.specs.protocol.Skew.{is_within_skew}
use Rattle.nq_model.specs.protocol.Stepped.{most_events, most_sent}
use Rattle.nq_model.specs.protocol.World.{run}
use Rattle.nq_model.proofs.SkewTest.{skew-test-is-sound}
use Rattle.walk_steps.proofs.GivenRuns.{given-run}
use Rattle.walk_steps.proofs.NoCrash.{one-first}
use Rattle.walk_steps.proofs.Tests.{is-at-most}
use Rattle.law_rounds.specs.DeliveryEnds.{calmed}
use Rattle.law_rounds.specs.CalmRoundsAreLawful.{IsLawful}
use Rattle.law_rounds.specs.QuietDeliveries.{recovers}
use Rattle.law_rounds.specs.RoundsEndQuiet.{IsSmall}
use Rattle.law_rounds.specs.WholeRounds.{whole_rounds, CanBeMade}
use Rattle.law_rounds.proofs.CalmEnds.{IsRising, calmed-rising}
use Rattle.law_rounds.proofs.CalmOrders.{calm_orders, calms-are, calm-count, calms-are-whole, calms-keep-links}
use Rattle.nq_laws.specs.WholeCallsAnswered.{open_calls}
use Rattle.nq_laws.specs.WholeMet.{is_open, late_head, late_events, OpenCallsAreMet}
use Rattle.nq_laws.proofs.SoonRounds.{soon_rounds, soon_ends, all-soon}

-- ---- the schedule

-- none of its events is a crash but one, with a longest term of 6
late-boots : All (BootsWithin 6) late_events
late-boots =
    one-first 6 (Event.Call 2 (Call.Put 1 0 (filled 7))) (Event.Call 0 (Call.Read 1 0) ∷ Event.ClientTick 1 ∷ Event.Call 1 (Call.Read 1 0)
    ∷ Event.Crash 6 ∷ []) tt
    (one-first 6 (Event.Call 0 (Call.Read 1 0)) (Event.ClientTick 1 ∷ Event.Call 1 (Call.Read 1 0) ∷ Event.Crash 6 ∷ []) tt
    (one-first 6 (Event.ClientTick 1) (Event.Call 1 (Call.Read 1 0) ∷ Event.Crash 6 ∷ []) tt
    (one-first 6 (Event.Call 1 (Call.Read 1 0)) (Event.Crash 6 ∷ []) tt
    (one-first 6 (Event.Crash 6) [] (omega arith, omega arith) (λ k d below. absurd (omega arith))))))

late-bounds : KeepsBounds 6 late_head late_events
late-bounds = record { hosts = omega arith; first_long = omega arith; first_short = omega arith; boots = late-boots }

late-within : is_within_skew 3 6 late_events ≡ true
unfolding filled zeros
late-within = refl

late-lawful : IsLawful 6 late_head (calmed late_head late_events [])
unfolding calmed
late-lawful = record { is_run = refl; bounds = late-bounds; within = skew-test-is-sound 3 6 late_events late-within }

late-rising : IsRising (calmed late_head late_events [])
late-rising = calmed-rising late_head late_events [] tt

late-recovers : recovers (run late_head late_events).server.phase ≡ true
unfolding filled zeros given-run
late-recovers = refl

three-calls : open_calls (run late_head late_events).clients ≡ 3
unfolding filled zeros given-run
three-calls = refl

-- ---- its rounds

late-made : (count : ℕ) → CanBeMade count (calmed late_head late_events [])
late-made count = record {
  orders = calm_orders count (calmed late_head late_events []);
  many = calm-count count (calmed late_head late_events []);
  whole = calms-are-whole 6 late_head count (calmed late_head late_events []) late-lawful late-rising;
  links = calms-keep-links count (calmed late_head late_events []);
}

ends-27 : soon_ends 27 (calmed late_head late_events []) ≡ true
unfolding calmed filled zeros given-run
ends-27 = refl

ends-18 : soon_ends 18 (calmed late_head late_events []) ≡ true
unfolding calmed filled zeros given-run
ends-18 = refl

few-events : nat_le (length (soon_rounds 27 (calmed late_head late_events [])).events) most_events ≡ true
unfolding calmed filled zeros given-run
few-events = refl

few-packets : nat_le (length (soon_rounds 27 (calmed late_head late_events [])).world.packets) most_sent ≡ true
unfolding calmed filled zeros given-run
few-packets = refl

open-18 : is_open (slice_get (soon_rounds 18 (calmed late_head late_events [])).world.clients 2) ≡ true
unfolding calmed filled zeros given-run
open-18 = refl

soon-small : IsSmall (soon_rounds 27 (calmed late_head late_events []))
soon-small = record {
  events = is-at-most (length (soon_rounds 27 (calmed late_head late_events [])).events) most_events few-events;
  packets = is-at-most (length (soon_rounds 27 (calmed late_head late_events [])).world.packets) most_sent few-packets;
}

-- whole rounds in the order in which all was sent are these
made-is : (count : ℕ) → soon_ends count (calmed late_head late_events []) ≡ true
    → whole_rounds (calm_orders count (calmed late_head late_events [])) (calmed late_head late_events [])
    ≡ soon_rounds count (calmed late_head late_events [])
made-is count ends = sym (calms-are count (calmed late_head late_events []))
    ∙ all-soon 6 late_head count (calmed late_head late_events []) late-lawful late-rising ends

pub open-calls-met : OpenCallsAreMet
unfolding late-made
open-calls-met = record {
  lawful = late-lawful;
  recovering = late-recovers;
  calls = three-calls;
  made = late-made 27;
  small = subst (λ (p : Play). IsSmall p) (sym (made-is 27 ends-27)) soon-small;
  fewer = late-made 18;
  half = omega arith;
  unanswered = ap (λ (p : Play). is_open (slice_get p.world.clients 2)) (made-is 18 ends-18) ∙ open-18;
}
