-- Turn after turn: where each datagram arrives in time, all calls of all hosts are answered within so many ticks.
use Rattle.std.proofs.Common.{◌≡◌, ◌≤◌, ◌<◌, ◌⊎◌, ℕ, ◌+◌, ◌*◌, ◌-◌, ◌++◌, not, min, nat_le, nat_lt, Bool, true, false, zero, suc, List, [], ◌∷◌, None}
use Rattle.std.proofs.Common.{is_some, length, refl, sym, subst, ap, ◌∙◌, arith, inl, inr, add-mul, mul-le-mul_right}
use Rattle.std.specs.Prelude.{slice_get}
use Rattle.std.proofs.lemmas.Bool.{and_from}
use Rattle.std.proofs.lemmas.Bool.Decides.{nat_tests}
use Rattle.nq_base.specs.declared.Event.{Event}
use Rattle.nq_loop.specs.Counting.{begun_in}
use Rattle.nq_loop.specs.Looping.{Moment, Makes, call_due, is_busy, rounds_steps, rounds_due, call_steps, receive_steps, turn_steps}
use Rattle.nq_loop.specs.Steps.{MakesAll}
use Rattle.nq_loop.specs.Turning.{all_answered, all_below, is_through}
use Rattle.nq_loop.specs.Whole.{loop_head}
use Rattle.nq_model.specs.protocol.ServerStep.{boot}
use Rattle.nq_model.specs.protocol.Skew.{IsWithinSkew}
use Rattle.nq_model.specs.protocol.World.{Head, World, run, start, step}
use Rattle.nq_replay.specs.Playing.{beginning}
use Rattle.nq_model.specs.laws.Bounds.{KeepsBounds}
use Rattle.law_rounds.proofs.ClientCount.{client-count}
use Rattle.law_rounds.specs.DeliveryEnds.{calmed}
use Rattle.law_rounds.specs.CalmRoundsAreLawful.{IsLawful}
use Rattle.law_rounds.specs.RoundsEndQuiet.{IsSmall}
use Rattle.walk_steps.proofs.Tests.{is-below, is-not-below}
use Rattle.nq_laws.specs.WholeCallsAnswered.{served_rounds_for}
use Rattle.nq_laws.proofs.Counts.{none-open}
use Rattle.nq_laws.proofs.Queue.{there-is}
use Rattle.nq_loop.specs.InTime.{played}
use Rattle.nq_loop.specs.LoopTurns.{MakesTurns}
use Rattle.nq_loop.specs.LoopsAreAnswered.{first_moment, most_due, ticks_enough, LoopsAreAnswered}
use Rattle.nq_loop.proofs.HostsCounts.{begun_all, all-few, due-none}
use Rattle.nq_loop.proofs.Steps.{in-parts}
use Rattle.nq_loop.proofs.HostsTurns.{Since, Before, Calling, Behind, Given, rounds-keep, calls-keep, receives-keep}
use Rattle.nq_loop.proofs.Windows.{lawful-now, none-open-now}

all-below : (count : ℕ) (test : ℕ → Bool) → ((h : ℕ) → h < count → test h ≡ true) → all_below count test ≡ true
all-below zero test all = refl
all-below (suc count) test all = and_from (all_below count test) (test count) (all-below count test (λ h low. all h (omega arith))) (all count (omega arith))

due-few : (time reading : ℕ) → rounds_due time reading ≤ most_due
due-few time reading = least (reading - time) 60
  where
    least : (m n : ℕ) → min m n ≤ n
    least m n = omega arith

world-is : (head : Head) (events : List Event) → (played head events).world ≡ run head events
unfolding calmed
world-is head [] = refl
world-is head (event ∷ events) = ap (λ (w : World). step w event) (world-is head events)

too-late : (now time allowed most_allowed all n soon each : ℕ) → now ≡ time → now ≤ allowed + n → allowed ≤ most_allowed → all ≡ most_allowed
    + 1 * each → n < soon
    → soon ≤ each → all ≤ time → ⊥
too-late now time allowed most_allowed all n soon each same low few sum less under late = absurd (omega arith)

module _ (most : ℕ) (head : Head) where
  -- no host is busy once so many rounds passed since the last call
  module _ (events : List Event) (n : ℕ) (since : Since most head events n) (enough : served_rounds_for head.hosts ≤ n)
      (small : IsSmall (played head events)) where
    none-busy : (h : ℕ) → h < head.hosts → is_busy (slice_get (run head events).clients h) ≡ false
    none-busy h low =
        let lawful : IsLawful most head (played head events) = lawful-now most head events n since.window in
        let hosts : length (played head events).world.clients ≡ head.hosts = ap (λ (w : World). length w.clients) lawful.is_run
        ∙ client-count head (played head events).events in
        let c = there-is (played head events).world.clients h (omega arith) (slice_get (played head events).world.clients h) refl in
        let none : c.0.call ≡ None = none-open (played head events).world.clients h c.0 c.1 (none-open-now most head events n since.window enough small) in
        ap (λ (w : World). is_busy (slice_get w.clients h)) (sym (world-is head events)) ∙ ap is_busy c.1 ∙ ap is_some none

    all-through : ((h : ℕ) → h < head.hosts → 3 ≤ begun_in h events) → all_answered head events ≡ true
    all-through begun = all-below head.hosts (is_through head events) (λ h low.
        let three : nat_le 3 (begun_in h events) ≡ true = at-least 3 (begun_in h events) (begun h low) in
        and_from (nat_le 3 (begun_in h events)) (not (is_busy (slice_get (run head events).clients h))) three (ap not (none-busy h low)))
      where
        at-least : (m n : ℕ) → m ≤ n → nat_le m n ≡ true
        at-least m n low = grind (arith, nat_tests)

  -- ---- a turn

  begins-turn : (events : List Event) → all_answered head events ≡ false → Given most head (Behind most head) events
      → Given most head (Before most head (served_rounds_for head.hosts)) events
  begins-turn events left before in_time small = by (before in_time small)
    where
      by : Behind most head events → Before most head (served_rounds_for head.hosts) events
      by b = which b.ended
        where
          which : (b.rounds < served_rounds_for head.hosts) ⊎ ((h : ℕ) → h < head.hosts → 3 ≤ begun_in h events)
              → Before most head (served_rounds_for head.hosts) events
          which (inl soon) = record { rounds = b.rounds; since = b.since; fewer = soon }
          which (inr begun) = decide (nat_lt b.rounds (served_rounds_for head.hosts)) refl
            where
              decide : (e : Bool) → nat_lt b.rounds (served_rounds_for head.hosts) ≡ e → Before most head (served_rounds_for head.hosts) events
              decide true is = record { rounds = b.rounds; since = b.since; fewer = is-below b.rounds (served_rounds_for head.hosts) is }
              decide false is =
                  let all = all-through events b.rounds b.since (is-not-below b.rounds (served_rounds_for head.hosts) is) small begun in
                  absurd (cc)

  calls-begin : (due : ℕ) (events : List Event) → due ≤ most_due → Given most head (Before most head (served_rounds_for head.hosts + due)) events
      → Given most head (Calling most head 0) events
  calls-begin due events few before in_time small =
      let b = before in_time small in
      record { rounds = b.rounds; since = b.since; fewer = (let low = b.fewer in omega arith); none_due = inr (λ h low. absurd (omega arith)) }

  calls-end : (events : List Event) → Given most head (Calling most head head.hosts) events → Given most head (Behind most head) events
  calls-end events before in_time small = by (before in_time small)
    where
      by : Calling most head head.hosts events → Behind most head events
      by c = record { rounds = c.rounds; since = c.since; ended = which c.none_due }
        where
          which : (c.rounds ≡ 0) ⊎ ((h : ℕ) → h < head.hosts → call_due head h events ≡ None)
              → (c.rounds < served_rounds_for head.hosts) ⊎ ((h : ℕ) → h < head.hosts → 3 ≤ begun_in h events)
          which (inl began) = inl (omega arith)
          which (inr due) = decide (nat_lt c.rounds (served_rounds_for head.hosts)) refl
            where
              decide : (e : Bool) → nat_lt c.rounds (served_rounds_for head.hosts) ≡ e
                  → (c.rounds < served_rounds_for head.hosts) ⊎ ((h : ℕ) → h < head.hosts → 3 ≤ begun_in h events)
              decide true is = inl (is-below c.rounds (served_rounds_for head.hosts) is)
              decide false is = inr (λ h low. due-none head h events
                  (none-busy events c.rounds c.since (is-not-below c.rounds (served_rounds_for head.hosts) is) small h low) (due h low))

  module _ (some : 0 < head.hosts) where
    made-keeps : (due : ℕ) (moved : Bool) (at after : Moment) → due ≤ most_due → all_answered head at.events ≡ false
        → MakesAll (Makes head) (turn_steps head.hosts due) moved at after → Given most head (Behind most head) at.events
        → Given most head (Behind most head) after.events
    made-keeps due moved at after few left all before =
        let one = in-parts head (rounds_steps head.hosts due) (call_steps head.hosts ++ receive_steps head.hosts) moved at after all in
        let two = in-parts head (call_steps head.hosts) (receive_steps head.hosts) one.other one.between after one.second in
        let ticks = rounds-keep most head some (served_rounds_for head.hosts) due one.one at one.between one.first (begins-turn at.events left before) in
        let calls = calls-keep most head two.one one.between two.between two.first (calls-begin due one.between.events few ticks) in
        receives-keep most head two.other two.between after two.second (calls-end two.between.events calls)

    turns-keep : (count : ℕ) (at after : Moment) → MakesTurns head count at after → Given most head (Behind most head) at.events
        → Given most head (Behind most head) after.events
    turns-keep zero at after goes before = subst (λ (m : Moment). Given most head (Behind most head) m.events) (sym goes) before
    turns-keep (suc count) at after goes before =
        let all = goes.3 in
        made-keeps (rounds_due (run head goes.0.events).server.now all.reading) all.moved goes.0 after
        (due-few (run head goes.0.events).server.now all.reading) goes.2 all.made (turns-keep count at goes.0 goes.1 before)

  -- ---- from the start

  empty-within : (hosts : ℕ) → IsWithinSkew hosts most []
  empty-within hosts [] [] after e host low few = omega arith
  empty-within hosts [] (x ∷ part) after e host low few = absurd (cc)
  empty-within hosts (x ∷ before) part after e host low few = absurd (cc)

  at-start : KeepsBounds most head [] → Behind most head []
  unfolding calmed start boot
  at-start bounds = record {
    rounds = 0;
    since = record {
      window = record {
        base = played head [];
        lawful = record { is_run = refl; bounds = bounds; within = empty-within head.hosts };
        rising = omega arith;
        serves = refl;
        orders = [];
        rest = [];
        is = refl;
        whole = tt;
        links = tt;
        in_order = tt;
        count = refl;
      };
      few = λ h. omega arith;
      time = omega arith;
    };
    ended = inl (omega arith);
  }

  -- the server's time tells that all is over
  over : (events : List Event) → Behind most head events → IsSmall (played head events) → ticks_enough head.hosts ≤ (run head events).server.now
      → all_answered head events ≡ true
  over events b small late = by b.ended
    where
      long : b.rounds < served_rounds_for head.hosts → ⊥
      long soon =
          let same : (played head events).world.server.now ≡ (run head events).server.now = ap (λ (w : World). w.server.now) (world-is head events) in
          let few : begun_all head.hosts events ≤ 3 * head.hosts = let all = all-few head.hosts events b.since.few in omega arith in
          too-late (played head events).world.server.now (run head events).server.now (begun_all head.hosts events * (served_rounds_for head.hosts + most_due))
          (3 * head.hosts * (served_rounds_for head.hosts + most_due)) ((3 * head.hosts + 1) * (served_rounds_for head.hosts + most_due)) b.rounds
          (served_rounds_for head.hosts) (served_rounds_for head.hosts + most_due) same b.since.time
          (mul-le-mul_right (served_rounds_for head.hosts + most_due) few) (add-mul (3 * head.hosts) 1 (served_rounds_for head.hosts + most_due)) soon
          (omega arith) late

      by : (b.rounds < served_rounds_for head.hosts) ⊎ ((h : ℕ) → h < head.hosts → 3 ≤ begun_in h events) → all_answered head events ≡ true
      by (inl soon) = absurd (long soon)
      by (inr begun) = decide (nat_lt b.rounds (served_rounds_for head.hosts)) refl
        where
          decide : (e : Bool) → nat_lt b.rounds (served_rounds_for head.hosts) ≡ e → all_answered head events ≡ true
          decide true is = absurd (long (is-below b.rounds (served_rounds_for head.hosts) is))
          decide false is = all-through events b.rounds b.since (is-not-below b.rounds (served_rounds_for head.hosts) is) small begun

pub loops-are-answered : LoopsAreAnswered
loops-are-answered zero count links after few turns in_time small = inl refl
loops-are-answered (suc hosts) count links after few turns in_time small = by
    (nat_lt (run (beginning (loop_head (suc hosts))) after.events).server.now (ticks_enough (suc hosts))) refl
  where
    bounds : KeepsBounds 60 (beginning (loop_head (suc hosts))) []
    bounds = record { hosts = few; first_long = omega arith; first_short = omega arith; boots = λ k d low. absurd (omega arith) }

    behind : Behind 60 (beginning (loop_head (suc hosts))) after.events
    behind = turns-keep 60 (beginning (loop_head (suc hosts))) (omega arith) count (first_moment links) after turns
        (λ yes fits. at-start 60 (beginning (loop_head (suc hosts))) bounds) in_time small

    by : (b : Bool) → nat_lt (run (beginning (loop_head (suc hosts))) after.events).server.now (ticks_enough (suc hosts)) ≡ b
        → (all_answered (beginning (loop_head (suc hosts))) after.events ≡ true)
        ⊎ ((run (beginning (loop_head (suc hosts))) after.events).server.now < ticks_enough (suc hosts))
    by true is = inr (is-below (run (beginning (loop_head (suc hosts))) after.events).server.now (ticks_enough (suc hosts)) is)
    by false is = inl (over 60 (beginning (loop_head (suc hosts))) after.events behind small
        (is-not-below (run (beginning (loop_head (suc hosts))) after.events).server.now (ticks_enough (suc hosts)) is))
