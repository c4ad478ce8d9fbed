-- What following links shows.
use Rattle.std.proofs.Common.{◌≡◌, ◌<◌, ◌≤◌, ℕ, ◌+◌, ◌-◌, List, ◌∷◌, length, take, reverse, Option, Some, None, true, sym, ◌∙◌, ap, subst, arith}
use Rattle.std.specs.Prelude.{is_some}
use Rattle.std.specs.List.{slice_get}
use Rattle.std.specs.Option.{option_or}
use Rattle.std.proofs.Math.Seq.{take-length}
use Rattle.nq_base.specs.declared.Entry.{Entry}
use Rattle.nq_base.specs.declared.Told.{Told}
use Rattle.nq_base.specs.declared.Who.{Who}
use Rattle.nq_rules.specs.declared.keys.KeyKind.{KeyKind}
use Rattle.nq_rules.specs.declared.keys.KeyKind.TheVariants.{Calls}
use Rattle.nq_check.specs.Links.{IsFree, IsLinked}
use Rattle.nq_rules.specs.Keys.{spot_of}
use Rattle.nq_rules.specs.Marks.{Spot, same_spot, spot}
use Rattle.nq_check.proofs.Climbs.{climb, skip_told}
use Rattle.nq_check.proofs.Spots.{same_is}
use Rattle.nq_rules.proofs.Places.{taken_here}
use Rattle.nq_model.specs.laws.Journal.{call_of, told_by}

-- the link of an entry of a key passes over none of that key
pub back_free : (kind : KeyKind) (whole : List Entry) (n : ℕ) (heads : List (Spot × ℕ)) (earlier : List ℕ) (place : ℕ) (entry : Entry) (e : ℕ) (key : Spot)
    → IsLinked kind whole n heads earlier → slice_get whole place ≡ Some entry → slice_get earlier place ≡ Some e
    → same_spot (spot_of kind entry) key ≡ true → IsFree kind key whole e place
back_free kind whole n heads earlier place entry e key h there link same =
    subst (λ k. IsFree kind k whole e place) (same_is (spot_of kind entry) key same) (h.back place entry e there link)

-- the entry before a place, backwards
pub taken_last : {X : Type 0} (xs : List X) (k : ℕ) (x : X) → 0 < k → slice_get xs (k - 1) ≡ Some x → reverse (take k xs) ≡ x ∷ reverse (take (k - 1) xs)
taken_last xs k x up e =
    let same : (k - 1) + 1 ≡ k = omega arith in
    subst (λ i. reverse (take i xs) ≡ x ∷ reverse (take (k - 1) xs)) same (taken_here xs (k - 1) x e)

-- what the call asks, with what the entry before a place tells of it
pub told_last : (key : Spot) (who : Who) (q : ℕ) (whole : List Entry) (next k : ℕ) (x : Entry) → key ≡ spot who q 0 → 0 < k → k ≤ length whole
    → next ≤ k - 1 → slice_get whole (k - 1) ≡ Some x → IsFree Calls key whole next (k - 1)
    → call_of (reverse (take k whole)) who q ≡ option_or (call_of (reverse (take next whole)) who q) (told_by x who q)
told_last key who q whole next k x e up within low there free =
    ap (λ l. call_of l who q) (taken_last whole k x up there)
    ∙ ap (λ c. option_or c (told_by x who q)) (skip_told key who q whole next (k - 1) e low (omega arith) free)

-- what is free up to a place is free up to an earlier one
pub free_within : (kind : KeyKind) (key : Spot) (whole : List Entry) (from to upto : ℕ) → upto ≤ to → IsFree kind key whole from to
    → IsFree kind key whole from upto
free_within kind key whole from to upto low free p x a b h = free p x a (omega arith) h

or_some : {X : Type 0} (o p r : Option X) → is_some r ≡ true → o ≡ r → option_or o p ≡ r
or_some (Some x) p r some e = e
or_some None p (Some y) some e = absurd (cc)
or_some None p None some e = absurd (cc)

-- what a call asks is told by its first C, however many entries stand behind that
pub told_near : (who : Who) (q : ℕ) (whole : List Entry) (place : ℕ) (call : Option Told) → place ≤ length whole
    → call ≡ call_of (reverse (take place whole)) who q → is_some call ≡ true → call ≡ call_of (reverse whole) who q
told_near who q whole place call up e some =
    let all : length whole ≤ length whole = omega arith in
    sym
    (ap (λ l. call_of (reverse l) who q) (sym (take-length whole))
    ∙ climb (λ l. call_of l who q ≡ call) whole place (length whole) up all (sym e)
    (λ next entry before a b there h. or_some (call_of before who q) (told_by entry who q) call some h))
