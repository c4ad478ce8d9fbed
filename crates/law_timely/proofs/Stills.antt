-- Whenever nothing is under way on a live link its client is quiet.
use Rattle.std.proofs.Common.{◌≡◌, ◌≤◌, ℕ, ◌+◌, ◌-◌, Some, refl, subst, arith}
use Rattle.std.specs.Prelude.{slice_get}
use Rattle.nq_model.specs.protocol.Skew.{ticks_of}
use Rattle.nq_model.specs.protocol.World.{World}
use Rattle.walk_steps.proofs.LeaseIntervals.{run-runs}
use Rattle.law_rounds.specs.DeliveryEnds.{calmed}
use Rattle.law_rounds.proofs.Flows.{Covered}
use Rattle.law_rounds.proofs.Quiet.{quiet-client}
use Rattle.law_timely.specs.QuietWhenStill.{QuietWhenStill}
use Rattle.law_timely.proofs.Covers.{none-asks}
use Rattle.law_timely.proofs.Settled.{settles}

pub quiet-when-still : QuietWhenStill
unfolding calmed
quiet-when-still most head events under_way dead moment leads l small late still host c live at =
    let there = (run-runs most head moment.events l.bounds l.within).few host c
    (subst (λ (w : World). slice_get w.clients host ≡ Some c) l.is_run at) in
    let base = calmed head events under_way in
    let settled = settles most head dead host base moment refl leads l small late there in
    quiet-client most head moment l host c at (none-asks most head host dead live moment l still
    (subst (λ due. Covered most head host due moment) (over (ticks_of host events) (ticks_of host moment.events) settled.late) settled.aged) c at)
  where
    over : (n m : ℕ) → n + 2 ≤ m → (n + 2) - m ≡ 0
    over n m late = omega arith
