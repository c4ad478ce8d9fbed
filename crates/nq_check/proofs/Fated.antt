-- No write is both stored and lost, where all entries account for what they cover.
use Rattle.std.proofs.Common.{◌≡◌, ◌<◌, ◌≤◌, ℕ, zero, suc, ◌+◌, List, ◌∷◌, length, take, reverse, Some, Bool, true, false, not, ◌||◌, inl, inr, sym}
use Rattle.std.proofs.Common.{subst, arith}
use Rattle.std.specs.List.{slice_get}
use Rattle.std.proofs.Math.Seq.{take-length}
use Rattle.std.proofs.lemmas.Bool.{and_parts, cases_Bool}
use Rattle.std.proofs.lemmas.Option.{slice_get_cases}
use Rattle.nq_base.specs.declared.Entry.{Entry}
use Rattle.nq_base.specs.declared.Entry.TheVariants.{S, L}
use Rattle.nq_check.specs.Fronts.{KeepsBelow}
use Rattle.nq_check.specs.declared.rules.Rule.{Rule}
use Rattle.nq_check.proofs.Delayed.{exists_more}
use Rattle.nq_check.proofs.OwnWrite.{each_before}
use Rattle.nq_rules.proofs.Places.{taken_here}
use Rattle.nq_model.specs.laws.FateTest.{is_accounted_at, is_first_to_cover}
use Rattle.nq_model.specs.laws.JournalTest.{covers, each, exists, is_lost, is_stored, loss_covers, store_covers}

not_both : (a b : Bool) → (not a || not b) ≡ true → a ≡ true → b ≡ true → ⊥
not_both true true h x y = absurd (cc)
not_both true false h x y = absurd (cc)
not_both false b h x y = absurd (cc)

or_not : (a b : Bool) → (a || b) ≡ true → a ≡ false → b ≡ true
or_not true b h f = absurd (cc)
or_not false b h f = h

store_any : (write entry : Entry) → store_covers entry write ≡ true → covers entry write ≡ true
store_any write (S who file block first last now) h = h
store_any write other h = absurd (cc)

loss_any : (write entry : Entry) → loss_covers entry write ≡ true → covers entry write ≡ true
loss_any write (L who file block first last) h = h
loss_any write other h = absurd (cc)

-- an entry that accounts for what it covers is the first to cover a write
first_to_cover : (whole before : List Entry) (entry write : Entry) → ((test : Entry → Bool) → each test whole ≡ true → test write ≡ true)
    → is_accounted_at whole entry before ≡ true → covers entry write ≡ true → exists (λ other. covers other write) before ≡ true → ⊥
first_to_cover whole before (S who file block first last now) write f h c e =
    not_both (covers (S who file block first last now) write) (exists (λ other. covers other write) before)
    (f (is_first_to_cover before (S who file block first last now)) h) c e
first_to_cover whole before (L who file block first last) write f h c e =
    not_both (covers (L who file block first last) write) (exists (λ other. covers other write) before)
    (f (is_first_to_cover before (L who file block first last))
    (and_parts (each (is_first_to_cover before (L who file block first last)) whole) (exists (covers (L who file block first last)) whole) h).0) c e
first_to_cover whole before other write f h c e = absurd (cc)

one_kind : (write entry : Entry) → loss_covers entry write ≡ true → store_covers entry write ≡ true → ⊥
one_kind write (L who file block first last) x y = absurd (cc)
one_kind write other x y = absurd (cc)

-- one more entry
both_next : (whole before : List Entry) (entry write : Entry) → ((test : Entry → Bool) → each test whole ≡ true → test write ≡ true)
    → is_accounted_at whole entry before ≡ true → (is_lost before write ≡ true → is_stored before write ≡ true → ⊥)
    → is_lost (entry ∷ before) write ≡ true → is_stored (entry ∷ before) write ≡ true → ⊥
both_next whole before entry write f h none lost stored =
    elim (cases_Bool (loss_covers entry write)) [
      | inl l ↦
          elim (cases_Bool (store_covers entry write)) [
            | inl s ↦ one_kind write entry l s
            | inr s ↦
                first_to_cover whole before entry write f h (loss_any write entry l)
                (exists_more (λ other. store_covers other write) (λ other. covers other write) (store_any write) before
                (or_not (store_covers entry write) (is_stored before write) stored s))
          ]
      | inr l ↦
          let lost_before = or_not (loss_covers entry write) (is_lost before write) lost l in
          elim (cases_Bool (store_covers entry write)) [
            | inl s ↦
                first_to_cover whole before entry write f h (store_any write entry s)
                (exists_more (λ other. loss_covers other write) (λ other. covers other write) (loss_any write) before lost_before)
            | inr s ↦ none lost_before (or_not (store_covers entry write) (is_stored before write) stored s)
          ]
    ]

both_upto : (whole : List Entry) (write : Entry) (k : ℕ) → k ≤ length whole
    → ((test : Entry → Bool) → each test (reverse whole) ≡ true → test write ≡ true) → KeepsBelow Rule.Accounted whole (length whole)
    → is_lost (reverse (take k whole)) write ≡ true → is_stored (reverse (take k whole)) write ≡ true → ⊥
both_upto whole write zero within f keeps lost stored = absurd (cc)
both_upto whole write (suc n) within f keeps lost stored =
    elim (slice_get_cases whole n).1 [
      | inl h ↦
          let next : suc n ≡ n + 1 = omega arith in
          let split : reverse (take (suc n) whole) ≡ h.0 ∷ reverse (take n whole) = subst (λ i. reverse (take i whole) ≡ h.0 ∷ reverse (take n whole))
          (sym next) (taken_here whole n h.0 h.2) in
          both_next (reverse whole) (reverse (take n whole)) h.0 write f (keeps n h.0 (omega arith) h.2)
          (both_upto whole write n (omega arith) f keeps)
          (subst (λ l. is_lost l write ≡ true) split lost) (subst (λ l. is_stored l write ≡ true) split stored)
      | inr h ↦ absurd (omega arith)
    ]

all_there : (whole : List Entry) (at : ℕ) (write : Entry) → at < length whole → slice_get whole at ≡ Some write → (test : Entry → Bool)
    → each test (reverse whole) ≡ true → test write ≡ true
all_there whole at write below there test h =
    let all : each test (reverse (take (length whole) whole)) ≡ true = subst (λ l. each test (reverse l) ≡ true) (sym (take-length whole)) h in
    let up : length whole ≤ length whole = omega arith in
    each_before test whole at (length whole) write below up there all

pub lost_not_stored : (whole : List Entry) (accounted at : ℕ) (write : Entry) → length whole ≤ accounted → KeepsBelow Rule.Accounted whole accounted
    → slice_get whole at ≡ Some write → at < length whole → is_lost (reverse whole) write ≡ true → false ≡ is_stored (reverse whole) write
lost_not_stored whole accounted at write long keeps there below lost =
    let kept : KeepsBelow Rule.Accounted whole (length whole) = λ place entry less e. keeps place entry (omega arith) e in
    let up : length whole ≤ length whole = omega arith in
    let same = take-length whole in
    elim (cases_Bool (is_stored (reverse whole) write)) [
      | inl y ↦
          absurd (both_upto whole write (length whole) up (all_there whole at write below there) kept
          (subst (λ l. is_lost (reverse l) write ≡ true) (sym same) lost) (subst (λ l. is_stored (reverse l) write ≡ true) (sym same) y))
      | inr n ↦ sym n
    ]
