-- How many calls the hosts of a loop began, and when one is due.
use Rattle.std.proofs.Common.{◌≡◌, ◌≤◌, ◌<◌, ℕ, ◌+◌, ◌==◌, if◌then◌else◌, Bool, true, false, zero, suc, List, ◌∷◌, Option, Some, None, refl, sym, ap}
use Rattle.std.proofs.Common.{◌∙◌, arith}
use Rattle.std.specs.Prelude.{option_map, slice_get}
use Rattle.std.proofs.lemmas.Bool.Decides.{nat_tests}
use Rattle.nq_base.specs.declared.Call.{Call}
use Rattle.nq_base.specs.declared.Event.{Event}
use Rattle.nq_loop.specs.Counting.{begins, begun_in}
use Rattle.nq_loop.specs.Looping.{call_behind, call_due, is_busy}
use Rattle.nq_model.specs.protocol.World.{Head, run}
use Rattle.walk_steps.proofs.ClientMoves.{some-same, none-some}
use Rattle.walk_steps.proofs.Rows.{same-number, number-same}

-- how many calls so many hosts began
pub begun_all : (hosts : ℕ) → List Event → ℕ
begun_all zero events = 0
begun_all (suc hosts) events = begun_all hosts events + begun_in hosts events

pub all-same : (hosts : ℕ) (later earlier : List Event) → ((h : ℕ) → begun_in h later ≡ begun_in h earlier) → begun_all hosts later ≡ begun_all hosts earlier
unfolding begun_all
all-same zero later earlier same = refl
all-same (suc hosts) later earlier same = let rest = all-same hosts later earlier same in let one = same hosts in omega arith

-- three calls of each at the most
pub all-few : (hosts : ℕ) (events : List Event) → ((h : ℕ) → begun_in h events ≤ 3) → begun_all hosts events ≤ hosts + (hosts + hosts)
unfolding begun_all
all-few zero events few = omega arith
all-few (suc hosts) events few = let rest = all-few hosts events few in let one = few hosts in omega arith

-- a call counts for its host alone
pub begins-own : (h : ℕ) (op : Call) → begins h (Event.Call h op) ≡ 1
begins-own h op = ap (λ b. if b then 1 else 0) (number-same h h refl)

pub begins-other : (h g : ℕ) (op : Call) → (g == h) ≡ false → begins h (Event.Call g op) ≡ 0
begins-other h g op apart = ap (λ b. if b then 1 else 0) apart

none-more : (hosts g : ℕ) (op : Call) (events : List Event) → hosts ≤ g → begun_all hosts (Event.Call g op ∷ events) ≡ begun_all hosts events
unfolding begun_all
none-more zero g op events low = refl
none-more (suc hosts) g op events low = by (g == hosts) refl (none-more hosts g op events (omega arith))
  where
    by : (b : Bool) → (g == hosts) ≡ b → begun_all hosts (Event.Call g op ∷ events) ≡ begun_all hosts events
        → begun_all hosts (Event.Call g op ∷ events) + (begun_in hosts events + begins hosts (Event.Call g op)) ≡ begun_all hosts events + begun_in
        hosts events
    by true e rest = let same = same-number g hosts e in absurd (omega arith)
    by false e rest = let none = begins-other hosts g op e in omega arith

pub one-more : (hosts g : ℕ) (op : Call) (events : List Event) → g < hosts → begun_all hosts (Event.Call g op ∷ events) ≡ begun_all hosts events + 1
unfolding begun_all
one-more zero g op events low = absurd (omega arith)
one-more (suc hosts) g op events low = by (g == hosts) refl (one-more hosts g op events)
  where
    by : (b : Bool) → (g == hosts) ≡ b → (g < hosts → begun_all hosts (Event.Call g op ∷ events) ≡ begun_all hosts events + 1)
        → begun_all hosts (Event.Call g op ∷ events) + (begun_in hosts events + begins hosts (Event.Call g op))
        ≡ (begun_all hosts events + begun_in hosts events) + 1
    by true e rest =
        let same = same-number g hosts e in
        let one : begins hosts (Event.Call g op) ≡ 1 = ap (λ b. if b then 1 else 0) e in
        let old = none-more hosts g op events (omega arith) in
        omega arith
    by false e rest =
        let none = begins-other hosts g op e in
        let more = rest (below e) in
        omega arith
      where
        below : (g == hosts) ≡ false → g < hosts
        below apart = grind (arith, nat_tests)

-- ---- calls that are due

behind-few : (hosts host begun : ℕ) (op : Call) → call_behind hosts host begun ≡ Some op → begun < 3
behind-few hosts host zero op e = omega arith
behind-few hosts host (suc zero) op e = omega arith
behind-few hosts host (suc (suc zero)) op e = omega arith
behind-few hosts host (suc (suc (suc more))) op e = none-some op e

behind-many : (hosts host begun : ℕ) → call_behind hosts host begun ≡ None → 3 ≤ begun
behind-many hosts host zero e = none-some _ (sym e)
behind-many hosts host (suc zero) e = none-some _ (sym e)
behind-many hosts host (suc (suc zero)) e = none-some _ (sym e)
behind-many hosts host (suc (suc (suc more))) e = omega arith

-- a call that is due is the host's, who began fewer than three
pub due-some : (head : Head) (host : ℕ) (events : List Event) (event : Event) → call_due head host events ≡ Some event
    → (op : Call) × (event ≡ Event.Call host op) × (begun_in host events < 3)
due-some head host events event e = by (is_busy (slice_get (run head events).clients host)) e
  where
    of-behind : (o : Option Call) → call_behind head.hosts host (begun_in host events) ≡ o → option_map (Event.Call host) o ≡ Some event
        → (op : Call) × (event ≡ Event.Call host op) × (begun_in host events < 3)
    of-behind None is due = none-some event due
    of-behind (Some op) is due = (op, sym (some-same (Event.Call host op) event due), behind-few head.hosts host (begun_in host events) op is)

    by : (b : Bool) → (if b then None else option_map (Event.Call host) (call_behind head.hosts host (begun_in host events))) ≡ Some event
        → (op : Call) × (event ≡ Event.Call host op) × (begun_in host events < 3)
    by true due = none-some event due
    by false due = of-behind (call_behind head.hosts host (begun_in host events)) refl due

-- where none is due to a host that is not busy, it began three
pub due-none : (head : Head) (host : ℕ) (events : List Event) → is_busy (slice_get (run head events).clients host) ≡ false
    → call_due head host events ≡ None → 3 ≤ begun_in host events
due-none head host events free e = behind-many head.hosts host (begun_in host events) (of-behind (call_behind head.hosts host (begun_in host events)) refl
    (ap (λ b. if b then None else option_map (Event.Call host) (call_behind head.hosts host (begun_in host events))) (sym free) ∙ e))
  where
    of-behind : (o : Option Call) → call_behind head.hosts host (begun_in host events) ≡ o → option_map (Event.Call host) o ≡ None
        → call_behind head.hosts host (begun_in host events) ≡ None
    of-behind None is due = is
    of-behind (Some op) is due = none-some (Event.Call host op) (sym due)
