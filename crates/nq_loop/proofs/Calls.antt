-- The calls of hosts.
use Rattle.std.proofs.Common.{◌≡◌, ℕ, ◌+◌, ◌<◌, ◌≤◌, Bool, true, false, List, [], ◌∷◌, length, map, zero, suc, Ok, Option, Some, None, inl, inr, refl}
use Rattle.std.proofs.Common.{sym, ap, subst, ◌∙◌, arith}
use Rattle.std.proofs.lemmas.Bool.{cases_eq, eq-eqb}
use Rattle.std.proofs.lemmas.Bool.Decides.{nat_tests}
use Rattle.std.proofs.lemmas.List.{get_or-set_same, get_or-set_other}
use Rattle.std.proofs.lemmas.Option.{slice_get-map}
use Rattle.std.specs.Prelude.{◌==◌, Result, reverse, IfSome, is_some, min, option_map, slice_get, slice_index_or, slice_set}
use Rattle.nq_base.specs.declared.Call.{Call}
use Rattle.nq_base.specs.declared.Event.{Event}
use Rattle.nq_client.specs.Counted.{Counted}
use Rattle.nq_client.specs.State.{call_of}
use Rattle.nq_loop.proofs.Whole.{one-step}
use Rattle.nq_loop.specs.Counting.{Counts, begins, begun_in}
use Rattle.nq_loop.specs.Holding.{GivesTo, IsLooping, Loop, Loops, moment_of}
use Rattle.nq_loop.specs.Looping.{GivesDue, Step, call_behind, call_due, is_busy}
use Rattle.nq_loop.specs.declared.turns.Halt.{Halt}
use Rattle.nq_model.specs.protocol.Client.{Client, UnderWay}
use Rattle.nq_model.specs.protocol.World.{Head, run}
use Rattle.nq_link.proofs.Letters.{there}

-- ---- counting

begins-here : (host other : ℕ) (call : Call) → host ≡ other → begins other (Event.Call host call) ≡ 1
begins-here host other call same = let test : (host == other) ≡ true = eq-eqb host other same in rw test refl

begins-there : (host other : ℕ) (call : Call) → (host ≡ other → ⊥) → begins other (Event.Call host call) ≡ 0
begins-there host other call unlike = let test : (host == other) ≡ false = grind (arith, nat_tests) in rw test refl

-- one call more of a host that is there
pub counts-more : (begun : List ℕ) (host : ℕ) (call : Call) (events : List Event) → host < length begun → Counts begun events
    → Counts (slice_set begun host (min (slice_index_or begun host 0 + 1) 3)) (Event.Call host call ∷ events)
counts-more begun host call events there counts other =
    elim (cases_eq host other) [
      | inl same ↦
          let one = begins-here host other call same in
          let here = counts host in
          let sum : min (slice_index_or begun host 0 + 1) 3 ≡ min (begun_in host events + 1) 3 = omega arith in
          let at : slice_index_or (slice_set begun host (min (slice_index_or begun host 0 + 1) 3)) host 0 ≡ min (begun_in host events + 1) 3 =
          get_or-set_same begun host (min (slice_index_or begun host 0 + 1) 3) 0 there ∙ sum in
          subst (λ h. slice_index_or (slice_set begun host (min (slice_index_or begun host 0 + 1) 3)) h 0
          ≡ min (begun_in h events + begins other (Event.Call host call)) 3) same (rw one at)
      | inr unlike ↦
          let none = begins-there host other call unlike in
          rw none (get_or-set_other begun host other (min (slice_index_or begun host 0 + 1) 3) 0 (λ e. unlike (sym e)) ∙ counts other
          ∙ ap (λ n. min n 3) (omega arith))
    ]

-- ---- the next call

pub calls-same : (hosts host begun : ℕ) → call_behind hosts host (min begun 3) ≡ call_behind hosts host begun
calls-same hosts host zero = refl
calls-same hosts host (suc zero) = refl
calls-same hosts host (suc (suc zero)) = refl
calls-same hosts host (suc (suc (suc more))) =
    let three : min (suc (suc (suc more))) 3 ≡ 3 = omega arith in
    rw three refl

pub none_left : (hosts host begun : ℕ) → 3 ≤ begun → call_behind hosts host begun ≡ None
none_left hosts host zero many = absurd (omega arith)
none_left hosts host (suc zero) many = absurd (omega arith)
none_left hosts host (suc (suc zero)) many = absurd (omega arith)
none_left hosts host (suc (suc (suc more))) many = refl

-- ---- whether a call is due

none-map : (call : Option UnderWay) → is_some (option_map call_of call) ≡ is_some call
none-map None = refl
none-map (Some u) = refl

busy-of : (client : Option Counted) (there : Counted) (found : Option Call) → client ≡ Some there → IfSome client (λ c. found ≡ option_map call_of
    c.client.call) → is_some found ≡ is_busy (option_map (λ c. c.client) client)
busy-of client there found same is =
    let here : found ≡ option_map call_of there.client.call = subst (λ o. IfSome o (λ c. found ≡ option_map call_of c.client.call)) same is in
    rw (same, here) (none-map there.client.call)

-- what is told of the call under way at a host that is there
pub busy-at : (clients : List Counted) (all : List Client) (host : ℕ) (found : Option Call) → map (λ c. c.client) clients ≡ all
    → host < length clients → IfSome (slice_get clients host) (λ c. found ≡ option_map call_of c.client.call) → is_some found ≡ is_busy (slice_get all host)
busy-at clients all host found same below is =
    let t = there clients host below in
    busy-of (slice_get clients host) t.element found t.is is ∙ ap is_busy (sym (slice_get-map (λ c. c.client) clients host)
    ∙ ap (λ cs. slice_get cs host) same)

pub none-due : (head : Head) (host : ℕ) (events : List Event) → is_busy (slice_get (run head events).clients host) ≡ true → call_due head host events ≡ None
none-due head host events busy = rw busy refl

pub due-is : (head : Head) (hosts host begun : ℕ) (events : List Event) (found : Option Call) → is_busy (slice_get (run head events).clients host)
    ≡ false → hosts ≡ head.hosts → begun ≡ min (begun_in host events) 3 → found ≡ call_behind hosts host begun
    → call_due head host events ≡ option_map (Event.Call host) found
due-is head hosts host begun events found idle same count is =
    let calls : call_behind head.hosts host (begun_in host events) ≡ found = sym (is ∙ ap (λ n. call_behind n host begun) same
    ∙ ap (call_behind head.hosts host) count ∙ calls-same head.hosts host (begun_in host events)) in
    rw (idle, calls) refl

-- ---- a call that begins, or none

pub begins-none : {K : Type 0} (head : Head) (host : ℕ) (l : Loop K) → call_due head host (reverse l.ran) ≡ None → IsLooping head l
    → Loops head (Step.call host ∷ []) (Ok false) l l
begins-none head host l none here = one-step head (Step.call host) (Ok false) l l (subst (λ due. GivesDue head due (Ok false) (moment_of l)
    (moment_of l)) (sym none) (refl, refl)) here

pub begins-one : {K : Type 0} (head : Head) (host : ℕ) (event : Event) (ended : Result Bool Halt) (old new : Loop K)
    → call_due head host (reverse old.ran) ≡ Some event → GivesTo head event ended old new → Loops head (Step.call host ∷ []) ended old new
begins-one head host event ended old new due gives = one-step head (Step.call host) ended old new
    (subst (λ d. GivesDue head d ended (moment_of old) (moment_of new)) (sym due) gives.gives) gives.stands
