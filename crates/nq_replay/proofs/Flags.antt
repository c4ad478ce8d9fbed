-- Flags of packets, and the least packet that has none.
use Rattle.std.proofs.Common.{◌≡◌, inl, inr, ℕ, ◌+◌, ◌<◌, ◌≤◌, Bool, true, false, List, Some, None, zero, suc, refl, sym, ◌∙◌, arith}
use Rattle.std.proofs.lemmas.Bool.{cases_eq, cases_lt}
use Rattle.std.proofs.lemmas.Bool.Decides.{nat_tests}
use Rattle.std.specs.Prelude.{slice_index_or, nat_lt, if◌then◌else◌}
use Rattle.nq_base.specs.declared.Event.{Event}
use Rattle.nq_replay.specs.Delivering.{AreFlagged, Marks, least_undelivered, was_delivered}

-- the least packet without a flag is the least that was never delivered
pub least-unflagged : (flags : List Bool) (from count least : ℕ) (events : List Event) → Marks flags events → from ≤ least
    → ((packet : ℕ) → from ≤ packet → packet < least → slice_index_or flags packet false ≡ true) → slice_index_or flags least false ≡ false
    → least_undelivered from count events ≡ (if nat_lt least (from + count) then Some least else None)
least-unflagged flags from zero least events marks low flagged unset =
    let test : nat_lt least (from + 0) ≡ false = grind (arith, nat_tests) in
    rw test refl
least-unflagged flags from (suc count) least events marks low flagged unset =
    elim (cases_eq from least) [
      | inl same ↦
          let none : was_delivered from events ≡ false = sym (marks from) ∙ rw same unset in
          let test : nat_lt least (from + suc count) ≡ true = grind (arith, nat_tests) in
          rw (none, test, same) refl
      | inr other ↦
          let some : was_delivered from events ≡ true = sym (marks from) ∙ flagged from (omega arith) (omega (arith, other)) in
          let on : least_undelivered (from + 1) count events ≡ (if nat_lt least (from + 1 + count) then Some least else None) =
          least-unflagged flags (from + 1) count least events marks (omega (arith, other)) (λ packet above below. flagged packet (omega arith) below) unset in
          let sum : from + suc count ≡ from + 1 + count = omega arith in
          rw (some, sum) on
    ]

-- so the first packet behind flagged ones that has no flag is the one to be delivered next, if it was sent
least-after : (flags : List Bool) (from least sent : ℕ) (events : List Event) → Marks flags events → AreFlagged flags from
    → ((packet : ℕ) → from ≤ packet → packet < least → slice_index_or flags packet false ≡ true) → slice_index_or flags least false ≡ false
    → least_undelivered 0 sent events ≡ (if nat_lt least sent then Some least else None)
least-after flags from least sent events marks below flagged unset =
    let whole : least_undelivered 0 sent events ≡ (if nat_lt least (0 + sent) then Some least else None) =
    least-unflagged flags 0 sent least events marks (omega arith) (λ packet low high. elim (cases_lt packet from) [
      | inl first ↦ below packet first
      | inr second ↦ flagged packet second high
    ]) unset in
    let none : 0 + sent ≡ sent = omega arith in
    rw none at whole

pub next-some : (flags : List Bool) (from least sent : ℕ) (events : List Event) → Marks flags events → AreFlagged flags from
    → ((packet : ℕ) → from ≤ packet → packet < least → slice_index_or flags packet false ≡ true) → slice_index_or flags least false ≡ false
    → least < sent → Some least ≡ least_undelivered 0 sent events
next-some flags from least sent events marks below flagged unset there =
    let test : nat_lt least sent ≡ true = grind (arith, nat_tests) in
    rw (least-after flags from least sent events marks below flagged unset, test) refl

pub next-none : (flags : List Bool) (from least sent : ℕ) (events : List Event) → Marks flags events → AreFlagged flags from
    → ((packet : ℕ) → from ≤ packet → packet < least → slice_index_or flags packet false ≡ true) → slice_index_or flags least false ≡ false
    → sent ≤ least → None ≡ least_undelivered 0 sent events
next-none flags from least sent events marks below flagged unset past =
    let test : nat_lt least sent ≡ false = grind (arith, nat_tests) in
    rw (least-after flags from least sent events marks below flagged unset, test) refl
