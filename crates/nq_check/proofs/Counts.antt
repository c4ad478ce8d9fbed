-- How many entries of a call are counted reads.
use Rattle.std.proofs.Common.{◌≡◌, ◌<◌, ◌≤◌, ℕ, ◌+◌, ◌-◌, List, length, take, reverse, Some, Bool, true, false, ◌&&◌, refl, sym, ◌∙◌, ap, subst, arith}
use Rattle.std.specs.Prelude.{if◌then◌else◌, nat_eq}
use Rattle.std.specs.List.{slice_get}
use Rattle.std.proofs.lemmas.Bool.{and_parts}
use Rattle.std.proofs.Math.Seq.{take-length}
use Rattle.nq_base.specs.declared.Entry.{Entry}
use Rattle.nq_base.specs.declared.Entry.TheVariants.{R}
use Rattle.nq_base.specs.declared.Who.{Who}
use Rattle.nq_rules.specs.declared.keys.KeyKind.{KeyKind}
use Rattle.nq_rules.specs.declared.keys.KeyKind.TheVariants.{Reads}
use Rattle.nq_check.specs.Links.{IsFree, is_link}
use Rattle.nq_rules.specs.Marks.{Spot, spot}
use Rattle.nq_check.proofs.Climbs.{climb, link_call}
use Rattle.nq_check.proofs.Followed.{taken_last}
use Rattle.nq_model.specs.laws.JournalTest.{is_counted, number_of}
use Rattle.nq_model.specs.laws.LegalTest.{is_counted_by, is_counted_with}
use Rattle.nq_model.specs.protocol.Table.{same_who}

false_of : (a b : Bool) → (a ≡ true → b ≡ true) → b ≡ false → a ≡ false
false_of true b f h = absurd (let t = f refl in cc)
false_of false b f h = refl

counted_linked_at : (whole : List Entry) (who : Who) (q : ℕ) (entry : Entry) → is_counted_by whole who q entry ≡ true
    → is_link Reads (spot who q 0) entry ≡ true
counted_linked_at whole who q (R by n f b v served) h =
    link_call by who n q (and_parts (same_who by who && nat_eq n q) (is_counted whole (R by n f b v served)) h).0
counted_linked_at whole who q other h = absurd (cc)

counted_linked : (key : Spot) (whole : List Entry) (who : Who) (q : ℕ) → key ≡ spot who q 0 → (entry : Entry) → is_counted_by whole who q entry ≡ true
    → is_link Reads key entry ≡ true
counted_linked key whole who q e entry h = subst (λ k. is_link Reads k entry ≡ true) (sym e) (counted_linked_at whole who q entry h)

with_linked_at : (whole : List Entry) (who : Who) (q value : ℕ) (entry : Entry) → is_counted_with whole who q value entry ≡ true
    → is_counted_by whole who q entry ≡ true
with_linked_at whole who q value (R by n f b v served) h = (and_parts (nat_eq v value) (is_counted_by whole who q (R by n f b v served)) h).1
with_linked_at whole who q value other h = absurd (cc)

pub valued_linked : (key : Spot) (whole : List Entry) (who : Who) (q value : ℕ) → key ≡ spot who q 0 → (entry : Entry)
    → is_counted_with whole who q value entry ≡ true → is_link Reads key entry ≡ true
valued_linked key whole who q value e entry h = counted_linked key whole who q e entry (with_linked_at whole who q value entry h)

skip_number : (test : Entry → Bool) (kind : KeyKind) (key : Spot) (whole : List Entry) (from to : ℕ)
    → ((entry : Entry) → test entry ≡ true → is_link kind key entry ≡ true) → from ≤ to → to ≤ length whole → IsFree kind key whole from to
    → number_of test (reverse (take to whole)) ≡ number_of test (reverse (take from whole))
skip_number test kind key whole from to linked a b free =
    climb (λ l. number_of test l ≡ number_of test (reverse (take from whole))) whole from to a b refl
    (λ place entry before c d there h.
    ap (λ t. if t then 1 + number_of test before else number_of test before)
    (false_of (test entry) (is_link kind key entry) (linked entry) (free place entry c d there)) ∙ h)

add_none : (n m : ℕ) → n ≡ m → n ≡ m + 0
add_none n m e = omega arith

count_moved : (b : Bool) (n m : ℕ) → (if b then 1 + n else n) + m ≡ n + (if b then 1 + m else m)
count_moved true n m = omega arith
count_moved false n m = refl

count_low : (b : Bool) (m : ℕ) → (if b then 1 + m else m) ≤ m + 1
count_low true m = omega arith
count_low false m = omega arith

-- before the walk
pub number_first : (test : Entry → Bool) (kind : KeyKind) (key : Spot) (whole : List Entry) (from : ℕ)
    → ((entry : Entry) → test entry ≡ true → is_link kind key entry ≡ true) → from ≤ length whole → IsFree kind key whole from (length whole)
    → number_of test (reverse whole) ≡ number_of test (reverse (take from whole)) + 0
number_first test kind key whole from linked a free =
    let all : number_of test (reverse (take (length whole) whole)) ≡ number_of test (reverse whole) = ap (λ l. number_of test (reverse l))
    (take-length whole) in
    add_none (number_of test (reverse whole)) (number_of test (reverse (take from whole)))
    (sym all ∙ skip_number test kind key whole from (length whole) linked a (omega arith) free)

-- at each entry of the walk
pub number_last : (test : Entry → Bool) (kind : KeyKind) (key : Spot) (whole : List Entry) (next k : ℕ) (x : Entry) (counts : Bool) (number : ℕ)
    → ((entry : Entry) → test entry ≡ true → is_link kind key entry ≡ true) → 0 < k → k ≤ length whole → next ≤ k - 1 → slice_get whole (k - 1) ≡ Some x
    → counts ≡ test x → IsFree kind key whole next (k - 1)
    → number_of test (reverse (take k whole)) + number ≡ number_of test (reverse (take next whole)) + (if counts then 1 + number else number)
number_last test kind key whole next k x counts number linked up within low there is free =
    ap (λ l. number_of test l + number) (taken_last whole k x up there)
    ∙ ap (λ b. (if b then 1 + number_of test (reverse (take (k - 1) whole)) else number_of test (reverse (take (k - 1) whole))) + number) (sym is)
    ∙ ap (λ n. (if counts then 1 + n else n) + number) (skip_number test kind key whole next (k - 1) linked low (omega arith) free)
    ∙ count_moved counts (number_of test (reverse (take next whole))) number

pub counts_within : (b : Bool) (m next k n new : ℕ) → new ≡ (if b then 1 + m else m) → next ≤ k - 1 → 0 < k → m + k ≤ n → new + next ≤ n
counts_within b m next k n new e low up within =
    let most : (if b then 1 + m else m) ≤ m + 1 = count_low b m in
    let here : new ≤ m + 1 = subst (λ z. z ≤ m + 1) (sym e) most in
    omega arith
