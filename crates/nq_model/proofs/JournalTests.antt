-- The tests of what a journal tells are right.
use Rattle.std.proofs.Common.{◌≡◌, ◌≤◌, ℕ, Bool, true, false, List, [], ◌∷◌, refl, arith}
use Rattle.std.specs.Prelude.{◌==◌, ◌+◌, Option, Some, None, if◌then◌else◌}
use Rattle.std.proofs.lemmas.Bool.{and_parts, and_from, eqb-true, eq-eqb}
use Rattle.nq_base.specs.declared.Entry.{Entry}
use Rattle.nq_base.specs.declared.Entry.TheVariants.{C, W, R, S, L, A}
use Rattle.nq_base.specs.declared.Said.TheVariants.{OkBy}
use Rattle.nq_base.specs.declared.Told.{Told}
use Rattle.nq_base.specs.declared.Told.TheVariants.{Read, Fetch, Write, Put, Attr, Sync, Resize, Remove}
use Rattle.nq_base.specs.declared.Who.{Who}
use Rattle.nq_model.specs.laws.Journal.{Each, Exists, AtMostOne, Throughout, Somewhere, AtEachPlace, IsCall, IsAnswer, IsOpen, SpeaksOf, IsReadBy}
use Rattle.nq_model.specs.laws.Journal.{IsAnswerBy, IsCounted, IsWriteOn, IsWriteBy, IsThrough, value_written, IsWithin, Covers, Stores, Loses, IsStored}
use Rattle.nq_model.specs.laws.Journal.{IsLost, IsLastValue, last_value}
use Rattle.nq_model.specs.laws.JournalTest.{each, exists, number_of, at_most_one, throughout, somewhere, at_each_place, is_call, is_answer, is_open}
use Rattle.nq_model.specs.laws.JournalTest.{speaks_of, is_read_by, is_answer_by, is_counted, is_write_on, is_write_by, is_through, is_within, covers}
use Rattle.nq_model.specs.laws.JournalTest.{store_covers, loss_covers, is_stored, is_lost}
use mathlib.Core.Logic.{inl, inr}
use Rattle.nq_model.specs.laws.Tests.{Tells}
use Rattle.nq_model.proofs.Telling.{yes, no, tells_alike, tells_and, tells_3, tells_5, tells_or, tells_not, tells_same, tells_le, not_told, not_so}
use Rattle.nq_model.specs.protocol.Table.{same_who}

-- ---- facts of entries and of their places

pub tells_each : {X : Type 0} {test : X → Bool} {Fact : X → Type 0} → ((x : X) → Tells (test x) (Fact x)) → (xs : List X) → Tells (each test xs) (Each Fact xs)
tells_each tells [] = yes
tells_each tells (x ∷ xs) = tells_and (tells x) (tells_each tells xs)

pub tells_exists : {X : Type 0} {test : X → Bool} {Fact : X → Type 0} → ((x : X) → Tells (test x) (Fact x)) → (xs : List X) → Tells (exists test xs)
    (Exists Fact xs)
tells_exists tells [] = no
tells_exists tells (x ∷ xs) = tells_or (tells x) (tells_exists tells xs)

pub tells_throughout : {test : Entry → List Entry → Bool} {Fact : Entry → List Entry → Type 0} → ((entry : Entry) (before : List Entry)
    → Tells (test entry before) (Fact entry before)) → (journal : List Entry) → Tells (throughout test journal) (Throughout Fact journal)
tells_throughout tells [] = yes
tells_throughout tells (entry ∷ before) = tells_and (tells entry before) (tells_throughout tells before)

pub tells_somewhere : {test : Entry → List Entry → Bool} {Fact : Entry → List Entry → Type 0} → ((entry : Entry) (before : List Entry)
    → Tells (test entry before) (Fact entry before)) → (journal : List Entry) → Tells (somewhere test journal) (Somewhere Fact journal)
tells_somewhere tells [] = no
tells_somewhere tells (entry ∷ before) = tells_or (tells entry before) (tells_somewhere tells before)

pub tells_at_each_place : {test : List Entry → Entry → List Entry → Bool} {Fact : List Entry → Entry → List Entry → Type 0}
    → ((after : List Entry) (entry : Entry) (before : List Entry) → Tells (test after entry before) (Fact after entry before))
    → (after journal : List Entry) → Tells (at_each_place test after journal) (AtEachPlace Fact after journal)
tells_at_each_place tells after [] = yes
tells_at_each_place tells after (entry ∷ before) = tells_and (tells after entry before) (tells_at_each_place tells (entry ∷ after) before)

-- ---- calls

pub tells_who : {a b : Who} → Tells (same_who a b) (a ≡ b)
tells_who {a} {b} = record {
  sound = λ e. let h = and_parts (a.host == b.host) (a.inc == b.inc) e in let hosts = eqb-true a.host b.host h.0 in let incs = eqb-true a.inc b.inc
      h.1 in λ i. record { host = hosts i; inc = incs i };
  complete = λ h. and_from (a.host == b.host) (a.inc == b.inc) (eq-eqb a.host b.host (λ i. (h i).host)) (eq-eqb a.inc b.inc (λ i. (h i).inc));
}

pub tells_call : (who : Who) (q : ℕ) (entry : Entry) → Tells (is_call who q entry) (IsCall who q entry)
tells_call who q (C by n told) = tells_and tells_who tells_same
tells_call who q other = no

pub tells_answer : (who : Who) (q : ℕ) (entry : Entry) → Tells (is_answer who q entry) (IsAnswer who q entry)
tells_answer who q (A by n said) = tells_and tells_who tells_same
tells_answer who q other = no

pub tells_open : (before : List Entry) (who : Who) (q : ℕ) → Tells (is_open before who q) (IsOpen before who q)
tells_open before who q = tells_and (tells_exists (tells_call who q) before) (tells_not (tells_exists (tells_answer who q) before))

pub tells_speaks_of : (file : ℕ) (call : Option Told) → Tells (speaks_of file call) (SpeaksOf file call)
tells_speaks_of file (Some (Attr f)) = tells_same
tells_speaks_of file (Some (Read f block)) = tells_same
tells_speaks_of file (Some (Fetch f block)) = tells_same
tells_speaks_of file (Some (Write f block value)) = tells_same
tells_speaks_of file (Some (Put f block value)) = tells_same
tells_speaks_of file (Some (Sync f)) = tells_same
tells_speaks_of file (Some (Resize f blocks)) = tells_same
tells_speaks_of file (Some (Remove f)) = tells_same
tells_speaks_of file other = no

-- ---- reads

pub tells_read_by : (who : Who) (q : ℕ) (entry : Entry) → Tells (is_read_by who q entry) (IsReadBy who q entry)
tells_read_by who q (R by n file block value served) = tells_and tells_who tells_same
tells_read_by who q other = no

pub tells_answer_by : (who : Who) (q packet : ℕ) (entry : Entry) → Tells (is_answer_by who q packet entry) (IsAnswerBy who q packet entry)
tells_answer_by who q packet (A by n (OkBy value k)) = tells_3 tells_who tells_same tells_same
tells_answer_by who q packet other = no

pub tells_counted : (whole : List Entry) (entry : Entry) → Tells (is_counted whole entry) (IsCounted whole entry)
tells_counted whole (R who q file block value None) = yes
tells_counted whole (R who q file block value (Some packet)) = tells_exists (tells_answer_by who q packet) whole
tells_counted whole other = no

-- ---- writes

pub tells_write_on : (file block : ℕ) (entry : Entry) → Tells (is_write_on file block entry) (IsWriteOn file block entry)
tells_write_on file block (W who f b number value through) = tells_and tells_same tells_same
tells_write_on file block other = no

pub tells_write_by : (who : Who) (entry : Entry) → Tells (is_write_by who entry) (IsWriteBy who entry)
tells_write_by who (W by file block number value through) = tells_who
tells_write_by who other = no

pub tells_through : (entry : Entry) → Tells (is_through entry) (IsThrough entry)
tells_through (W who file block number value true) = yes
tells_through other = no

pub tells_within : (who : Who) (file block first last : ℕ) (entry : Entry) → Tells (is_within who file block first last entry)
    (IsWithin who file block first last entry)
tells_within who file block first last (W by f b number value false) = tells_5 tells_who tells_same tells_same tells_le tells_le
tells_within who file block first last other = no

pub tells_covers : (entry write : Entry) → Tells (covers entry write) (Covers entry write)
tells_covers (S who file block first last now) write = tells_within who file block first last write
tells_covers (L who file block first last) write = tells_within who file block first last write
tells_covers other write = no

pub tells_stores : (entry write : Entry) → Tells (store_covers entry write) (Stores entry write)
tells_stores (S who file block first last now) write = tells_within who file block first last write
tells_stores other write = no

pub tells_loses : (entry write : Entry) → Tells (loss_covers entry write) (Loses entry write)
tells_loses (L who file block first last) write = tells_within who file block first last write
tells_loses other write = no

pub tells_stored : (entries : List Entry) (write : Entry) → Tells (is_stored entries write) (IsStored entries write)
tells_stored entries write = tells_exists (λ entry. tells_stores entry write) entries

pub tells_lost : (entries : List Entry) (write : Entry) → Tells (is_lost entries write) (IsLost entries write)
tells_lost entries write = tells_exists (λ entry. tells_loses entry write) entries

-- ---- at most one

counts_one : (b : Bool) (n : ℕ) → (if b then 1 + n else n) ≤ 1 → (b ≡ true → n ≡ 0) × (n ≤ 1)
counts_one true n h = (λ e. omega arith, omega arith)
counts_one false n h = (λ e. absurd (cc), h)

counts_none : (b : Bool) (n : ℕ) → (if b then 1 + n else n) ≡ 0 → (b ≡ false) × (n ≡ 0)
counts_none true n h = absurd (omega arith)
counts_none false n h = (refl, h)

at_most : (b : Bool) (n : ℕ) → (b ≡ true → n ≡ 0) → n ≤ 1 → (if b then 1 + n else n) ≤ 1
at_most true n h l = let e : n ≡ 0 = h refl in omega arith
at_most false n h l = l

none_there : {X : Type 0} {test : X → Bool} {Fact : X → Type 0} → ((x : X) → Tells (test x) (Fact x)) → (xs : List X) → number_of test xs ≡ 0
    → ¬ Exists Fact xs
none_there tells [] e h = h
none_there {test = test} tells (x ∷ xs) e (inl h) = not_told (tells x) (counts_none (test x) (number_of test xs) e).0 h
none_there {test = test} tells (x ∷ xs) e (inr h) = none_there tells xs (counts_none (test x) (number_of test xs) e).1 h

none_counted : {X : Type 0} {test : X → Bool} {Fact : X → Type 0} → ((x : X) → Tells (test x) (Fact x)) → (xs : List X) → ¬ Exists Fact xs
    → number_of test xs ≡ 0
none_counted tells [] h = refl
none_counted {test = test} tells (x ∷ xs) h = rw (not_so (test x) (tells x) (λ f. h (inl f))) (none_counted tells xs (λ f. h (inr f)))

one_there : {X : Type 0} {test : X → Bool} {Fact : X → Type 0} → ((x : X) → Tells (test x) (Fact x)) → (xs : List X) → number_of test xs ≤ 1
    → AtMostOne Fact xs
one_there tells [] h = tt
one_there {test = test} tells (x ∷ xs) h =
    let c = counts_one (test x) (number_of test xs) h in (λ f. none_there tells xs (c.0 ((tells x).complete f)), one_there tells xs c.1)

one_counted : {X : Type 0} {test : X → Bool} {Fact : X → Type 0} → ((x : X) → Tells (test x) (Fact x)) → (xs : List X) → AtMostOne Fact xs
    → number_of test xs ≤ 1
one_counted tells [] h = omega arith
one_counted {test = test} tells (x ∷ xs) h =
    at_most (test x) (number_of test xs) (λ e. none_counted tells xs (h.0 ((tells x).sound e))) (one_counted tells xs h.1)

pub tells_at_most_one : {X : Type 0} {test : X → Bool} {Fact : X → Type 0} → ((x : X) → Tells (test x) (Fact x)) → (xs : List X)
    → Tells (at_most_one test xs) (AtMostOne Fact xs)
tells_at_most_one tells xs = tells_alike (one_there tells xs) (one_counted tells xs) tells_le

-- ---- the last value

last_at : (b : Bool) (value here further : ℕ) {P Q : Type 0} → Tells b P → Tells (value == further) Q → Tells (value == (if b then here else further))
    ((P → value ≡ here) × (¬ P → Q))
last_at true value here further p q = record {
  sound = λ e. (λ h. tells_same.sound e, λ h. absurd (h (p.sound refl)));
  complete = λ h. tells_same.complete (h.0 (p.sound refl));
}
last_at false value here further p q = record {
  sound = λ e. (λ h. absurd (not_told p refl h), λ h. q.sound e);
  complete = λ h. q.complete (h.1 (not_told p refl));
}

pub tells_last_value : {test : Entry → Bool} {Fact : Entry → Type 0} → ((entry : Entry) → Tells (test entry) (Fact entry)) → (entries : List Entry)
    (value : ℕ) → Tells (value == last_value test entries) (IsLastValue Fact entries value)
tells_last_value tells [] value = tells_same
tells_last_value {test = test} tells (entry ∷ before) value =
    last_at (test entry) value (value_written entry) (last_value test before) (tells entry) (tells_last_value tells before value)
