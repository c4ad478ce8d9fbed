-- Whoever is told to give up a row has done so before a clock ticks.
use Rattle.std.proofs.Common.{◌≡◌, ◌≤◌, ◌<◌, ◌⊎◌, ℕ, ◌+◌, ◌-◌, nat_lt, Bool, true, false, List, Some, refl, sym, subst, ◌∙◌, arith, inl, inr}
use Rattle.nq_base.specs.declared.Event.{Event}
use Rattle.nq_base.specs.declared.Row.{Row}
use Rattle.nq_model.specs.protocol.Lines.{Play}
use Rattle.nq_model.specs.protocol.Skew.{ticks_of}
use Rattle.nq_model.specs.protocol.Table.{find_row}
use Rattle.nq_model.specs.protocol.World.{Head, World, run}
use Rattle.walk_steps.proofs.ClientMoves.{none-some}
use Rattle.walk_steps.proofs.NoticeCounts.{HostedBelow}
use Rattle.walk_steps.proofs.Tests.{is-below, is-not-below}
use Rattle.law_rounds.specs.CalmRoundsAreLawful.{IsLawful}
use Rattle.law_rounds.specs.DeliveryEnds.{calmed}
use Rattle.law_rounds.proofs.Flows.{Covered}
use Rattle.law_rounds.proofs.HostsBelow.{run-local}
use Rattle.law_notices.specs.RowsAreGivenUp.{IsToGo, RowsAreGivenUp}
use Rattle.law_timely.specs.Timely.{is_dead, is_still}
use Rattle.law_timely.proofs.Covers.{Aged, none-asks}
use Rattle.law_notices.proofs.GivenUp.{Goes, still-none, State, state-event}
use Rattle.law_timely.proofs.Parts.{led, led-run, led-lawful, led-small}
use Rattle.law_timely.proofs.Settled.{Settled, settles}
use Rattle.law_rounds.proofs.Quiet.{quiet-client}

-- a row is of a host that there is
row-host : (head : Head) (events : List Event) (file host : ℕ) (row : Row) → find_row file host (run head events).server.table.rows ≡ Some row
    → host < head.hosts
unfolding HostedBelow
row-host head events file host row found = by (nat_lt host head.hosts) refl
  where
    by : (b : Bool) → nat_lt host head.hosts ≡ b → host < head.hosts
    by true e = is-below host head.hosts e
    by false e = let none = (run-local head events).rows file host (is-not-below host head.hosts e) in none-some row (sym none ∙ found)

first-state : (most : ℕ) (head : Head) (dead : List ℕ) (host : ℕ) (live : is_dead dead host ≡ false) (there : host < head.hosts) (old : ℕ) (p : Play)
    → IsLawful most head p → is_still dead p.world.packets p.fresh ≡ true → Aged most head host old p → old + 2 ≤ ticks_of host p.events
    → State most head dead host live there old p p
first-state most head dead host live there old p l still aged late = record {
  on = λ c at. (quiet-client most head p l host c at (none-asks most head host dead live p l still
      (subst (λ due. Covered most head host due p) (over old (ticks_of host p.events) late) aged) c at)).attached;
  aged = aged;
  late = late;
  rows = λ file row found going. inl (record { row = row; there = found; latest = refl; going = going });
}
  where
    over : (n m : ℕ) → n + 2 ≤ m → (n + 2) - m ≡ 0
    over n m late = omega arith

pub rows-are-given-up : RowsAreGivenUp
unfolding calmed
rows-are-given-up most head events under_way dead moment later first leads l small late still_then still file host row live found going =
    by (s.rows file row found going)
  where
    base : Play
    base = calmed head events under_way

    is_run : moment.world ≡ run head moment.events
    is_run = led-run most head dead base moment first refl

    lawful : IsLawful most head moment
    lawful = led-lawful most head dead moment later leads is_run l

    there : host < head.hosts
    there = row-host head later.events file host row (subst (λ (w : World). find_row file host w.server.table.rows ≡ Some row) l.is_run found)

    settled : Settled most head dead host base moment
    settled = settles most head dead host base moment refl first lawful (led-small most head dead moment later leads small) late there

    s : State most head dead host live there (ticks_of host events) moment later
    s = led most head dead (State most head dead host live there (ticks_of host events) moment)
        (state-event most head dead host live there (ticks_of host events) moment) moment later leads is_run l small
        (first-state most head dead host live there (ticks_of host events) moment lawful still_then settled.aged settled.late)

    by : IsToGo moment.world.server.table.rows file host row.tag ⊎ Goes most head dead host live there later file row.who row.tag
        → IsToGo moment.world.server.table.rows file host row.tag
    by (inl was) = was
    by (inr goes) = absurd (still-none most head dead host live there (ticks_of host events) later l still s.aged s.late file row.who row.tag goes)
