-- The verdict, place after place.
use Rattle.std.proofs.Common.{◌≡◌, ℕ, zero, suc, ◌+◌, ◌-◌, ◌<◌, List, length, take, drop, reverse, Option, Some, None, inl, inr, refl, sym, ◌∙◌, ap, arith}
use Rattle.std.specs.Option.{option_or}
use Rattle.std.specs.List.{slice_get}
use Rattle.std.proofs.lemmas.Option.{slice_get_within, slice_get_cases}
use Rattle.std.proofs.lemmas.List.{length-reverse, length-take-le}
use Rattle.std.proofs.Math.Seq.{take-length, drop-length}
use Rattle.nq_base.specs.declared.Entry.{Entry}
use Rattle.nq_rules.proofs.Places.{drop_here, taken_here}
use Rattle.nq_check.specs.declared.rules.Rule.{Rule}
use Rattle.nq_check.specs.Rules.{first_rule}
use Rattle.nq_check.specs.Verdict.{Fault, fault_at, least_fault, verdict}

-- the least fault before a place
abbrev pub found_before : (xs : List Entry) (place : ℕ) → Option Fault
found_before xs place = least_fault (reverse xs) (drop place xs) (reverse (take place xs))

-- at the next place it is the same, or else that of the entry there
pub next_place : (xs : List Entry) (k : ℕ) (x : Entry) → slice_get xs k ≡ Some x
    → found_before xs (k + 1) ≡ option_or (found_before xs k) (fault_at k (first_rule (reverse xs) (drop (k + 1) xs) x (reverse (take k xs))))
next_place xs k x e =
    let within : k < length xs = slice_get_within xs k x e in
    let long : length (reverse (take k xs)) ≡ k = length-reverse (take k xs) ∙ length-take-le k xs (omega arith) in
    rw (taken_here xs k x e, ← drop_here xs k x e)
    (ap (λ n. option_or (found_before xs k) (fault_at n (first_rule (reverse xs) (drop (k + 1) xs) x (reverse (take k xs))))) long)

-- at the end it is the verdict
pub at_the_end : (xs : List Entry) (k : ℕ) → k ≡ length xs → found_before xs k ≡ verdict (reverse xs)
at_the_end xs k e = rw (e, take-length xs, drop-length xs) refl

-- a fault that was found is the verdict
pub stays : (n : ℕ) (xs : List Entry) (k : ℕ) (f : Fault) → k + n ≡ length xs → found_before xs k ≡ Some f → verdict (reverse xs) ≡ Some f
stays zero xs k f l e = sym (at_the_end xs k (omega arith)) ∙ e
stays (suc n) xs k f l e =
    elim (slice_get_cases xs k).1 [
      | inl h ↦ stays n xs (k + 1) f (omega arith)
          (next_place xs k h.0 h.2 ∙ ap (λ o. option_or o (fault_at k (first_rule (reverse xs) (drop (k + 1) xs) h.0 (reverse (take k xs))))) e)
      | inr h ↦ absurd (omega arith)
    ]

-- the entry at a place is at fault, and none before it is
pub found_here : (xs : List Entry) (k : ℕ) (x : Entry) (rule : Rule) → slice_get xs k ≡ Some x → found_before xs k ≡ None
    → first_rule (reverse xs) (drop (k + 1) xs) x (reverse (take k xs)) ≡ Some rule → verdict (reverse xs) ≡ Some (record { place = k; rule = rule })
found_here xs k x rule e none r =
    let within : k < length xs = slice_get_within xs k x e in
    let here = first_rule (reverse xs) (drop (k + 1) xs) x (reverse (take k xs)) in
    stays (length xs - (k + 1)) xs (k + 1) (record { place = k; rule = rule }) (omega arith)
    (next_place xs k x e ∙ ap (λ o. option_or o (fault_at k here)) none ∙ ap (fault_at k) r)

-- neither it is nor one before it
pub none_here : (xs : List Entry) (k : ℕ) (x : Entry) → slice_get xs k ≡ Some x → found_before xs k ≡ None
    → first_rule (reverse xs) (drop (k + 1) xs) x (reverse (take k xs)) ≡ None → found_before xs (k + 1) ≡ None
none_here xs k x e none r =
    let here = first_rule (reverse xs) (drop (k + 1) xs) x (reverse (take k xs)) in
    next_place xs k x e ∙ ap (λ o. option_or o (fault_at k here)) none ∙ ap (fault_at k) r
