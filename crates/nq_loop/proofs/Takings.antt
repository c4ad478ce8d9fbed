-- Turns of a loop, one after another.
use Rattle.std.proofs.Common.{◌≡◌, ℕ, ◌+◌, ◌<◌, Bool, true, false, List, Ok, Err, zero, suc, refl, ap, subst, ◌∙◌, arith, add-one}
use Rattle.std.proofs.lemmas.Bool.Decides.{nat_tests}
use Rattle.std.specs.Prelude.{◌&&◌, not, min, nat_le, slice_get}
use Rattle.nq_clock.specs.Clocks.{ClockTold}
use Rattle.nq_base.specs.declared.Event.{Event}
use Rattle.nq_io.specs.Faults.{Rose}
use Rattle.nq_loop.specs.Counting.{begun_in}
use Rattle.nq_loop.specs.Holding.{CountsKeep, IsLooping, Loop, Stands, Turns, moment_of}
use Rattle.nq_loop.specs.Looping.{is_busy}
use Rattle.nq_loop.specs.Turning.{Between, Goes, TakesTurns, all_answered, all_below, is_over, is_through}
use Rattle.nq_loop.specs.declared.turns.Halt.{Halt}
use Rattle.nq_model.specs.protocol.World.{Head, run}

-- ---- whether all is answered

three-same : (n : ℕ) → nat_le 3 (min n 3) ≡ nat_le 3 n
three-same zero = refl
three-same (suc zero) = refl
three-same (suc (suc zero)) = refl
three-same (suc (suc (suc more))) =
    let three : min (suc (suc (suc more))) 3 ≡ 3 = omega arith in
    let yes : nat_le 3 (suc (suc (suc more))) ≡ true = grind (arith, nat_tests) in
    rw (three, yes) refl

pub through : (head : Head) (events : List Event) (host begun : ℕ) (busy answer : Bool) → answer ≡ is_over begun busy
    → begun ≡ min (begun_in host events) 3 → busy ≡ is_busy (slice_get (run head events).clients host) → answer ≡ is_through head events host
through head events host begun busy answer is count same =
    is ∙ ap (λ i. nat_le 3 begun && not i) same ∙ ap (λ b. b && not (is_busy (slice_get (run head events).clients host))) (ap (nat_le 3) count
    ∙ three-same (begun_in host events))

pub more-below : (test : ℕ → Bool) (host : ℕ) (before here after : Bool) → after ≡ (before && here) → before ≡ all_below host test → here ≡ test host
    → after ≡ all_below (host + 1) test
more-below test host before here after is so_far same = rw (add-one host) (is ∙ ap (λ b. b && here) so_far ∙ ap (λ b. all_below host test && b) same)

-- ---- turns

-- a loop between two turns
abbrev pub now_at : {K : Type 0} → Loop K → ClockTold → Between
now_at l clock = record { moment = moment_of l; clock = clock }

-- a turn that did not stop
pub went : {K : Type 0} (head : Head) (count : ℕ) (moved : Bool) (at : Between) (clock clock' : ClockTold) (old new : Loop K)
    → Goes head count at (now_at old clock) → all_answered head (moment_of old).events ≡ false
    → Turns head (Ok moved) clock clock' old new → Goes head (count + 1) at (now_at new clock') × IsLooping head new
went head count moved at clock clock' old new goes left turned = (
  rw (add-one count) (now_at old clock, goes, (left, moved, turned.takes)),
  turned.stands,
)

-- a turn that did
pub stopped : {K : Type 0} (head : Head) (count turns : ℕ) (why : Halt) (at : Between) (clock clock' : ClockTold) (old new : Loop K)
    → count < turns → Goes head count at (now_at old clock) → all_answered head (moment_of old).events ≡ false
    → Turns head (Err why) clock clock' old new → TakesTurns head turns (Err why) at (now_at new clock') × Stands {X = Unit} head (Err why) new
stopped head count turns why at clock clock' old new fewer goes left turned = (
  record { count = count; fewer = fewer; between = now_at old clock; goes = goes; left = left; last = turned.takes },
  turned.stands,
)

-- ---- the keeper's faults

-- behind turns that met none, the count is that of the turn that stopped
pub stopped-counts : (why : Halt) (first before now : ℕ) → before ≡ first → CountsKeep {X = Bool} (Err why) before now
    → CountsKeep {X = Unit} (Err why) first now
stopped-counts Halt.Link first before now same counts = counts ∙ same
stopped-counts Halt.Keep first before now same counts = subst (λ n. Rose n now) same counts
stopped-counts Halt.Memory first before now same counts = counts ∙ same
stopped-counts (Halt.Limit limit) first before now same counts = counts ∙ same
