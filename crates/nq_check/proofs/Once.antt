-- An S or L that covers numbers outside of all that are covered on a block covers no write again.
use Rattle.std.proofs.Common.{◌≡◌, ◌<◌, ◌≤◌, ℕ, Bool, true, false, not, ◌||◌, List, [], ◌∷◌, inl, inr, refl, sym, subst, arith}
use Rattle.std.specs.Prelude.{◌-◌, nat_lt, IsTrue, Result, Ok, Err, IfOk}
use Rattle.std.proofs.lemmas.Bool.{and_from, ltb-true, or_cases}
use Rattle.nq_base.specs.declared.Entry.{Entry}
use Rattle.nq_base.specs.declared.Entry.TheVariants.{W, S, L}
use Rattle.nq_base.specs.declared.Who.{Who}
use Rattle.nq_model.specs.laws.FateTest.{is_first_to_cover}
use Rattle.nq_model.specs.laws.Journal.{Covers, Each, Exists, IsWithin}
use Rattle.nq_model.specs.laws.JournalTest.{covers, each, exists}
use Rattle.nq_model.proofs.JournalTests.{tells_covers, tells_exists}
use Rattle.nq_check.specs.Covered.{Accounts, IsAnew, IsCoveredTo, IsExtended, IsRaised, IsReached, is_outside}
use Rattle.nq_check.specs.declared.covering.Reach.{Reach}
use Rattle.nq_check.proofs.Spots.{marked_there, no_lower}
use Rattle.nq_rules.specs.Marks.{IsMarked, Spot, mark_at, spot}

-- ---- how far entries cover

abbrev Rises : (old new : Reach) → Type 0
Rises old new =
    (at : Spot) → (mark_at old.highest.entries at ≤ mark_at new.highest.entries at) × (mark_at old.lowest.entries at ≤ mark_at new.lowest.entries at)

still_at : (most : ℕ) (old new : Reach) → Rises old new → (at : Spot) (first last : ℕ) → IsReached most old at first last → IsReached most new at first last
still_at most old new rise at first last h =
    let up : mark_at old.highest.entries at ≤ mark_at new.highest.entries at = (rise at).0 in
    let down : mark_at old.lowest.entries at ≤ mark_at new.lowest.entries at = (rise at).1 in
    let upper = h.upper in
    let lower = h.lower in
    record { upper = omega arith; lower = omega arith }

still_one : (most : ℕ) (old new : Reach) → Rises old new → (entry : Entry) → IsCoveredTo most old entry → IsCoveredTo most new entry
still_one most old new rise (S who file block first last now) h = still_at most old new rise (spot who file block) first last h
still_one most old new rise (L who file block first last) h = still_at most old new rise (spot who file block) first last h
still_one most old new rise other h = tt

still : (most : ℕ) (old new : Reach) → Rises old new → (before : List Entry) → Each (IsCoveredTo most old) before → Each (IsCoveredTo most new) before
still most old new rise [] h = tt
still most old new rise (entry ∷ before) h = (still_one most old new rise entry h.0, still most old new rise before h.1)

spot_of : (P : Spot → Type 0) (a b : Who) (f g c d : ℕ) → a ≡ b → f ≡ g → c ≡ d → P (spot b g d) → P (spot a f c)
spot_of P a b f g c d w file block h =
    subst (λ (z : Who). P (spot z f c)) (sym w)
    (subst (λ (z : ℕ). P (spot b z c)) (sym file)
    (subst (λ (z : ℕ). P (spot b g z)) (sym block) h))

-- what reaches to numbers reaches to each of them
at_number : (most : ℕ) (reach : Reach) (at : Spot) (first last n : ℕ) → first ≤ n → n ≤ last → IsReached most reach at first last → IsReached most reach at n n
at_number most reach at first last n a b h =
    let upper = h.upper in
    let lower = h.lower in
    record { upper = omega arith; lower = omega arith }

below_one : (most : ℕ) (reach : Reach) (by : Who) (f b n v : ℕ) (other : Entry) → IsCoveredTo most reach other → Covers other (W by f b n v false)
    → IsReached most reach (spot by f b) n n
below_one most reach by f b n v (S who file block first last now) m c =
    spot_of (λ at. IsReached most reach at n n) by who f file b block c.0 c.1 c.2 (at_number most reach (spot who file block) first last n c.3 c.4 m)
below_one most reach by f b n v (L who file block first last) m c =
    spot_of (λ at. IsReached most reach at n n) by who f file b block c.0 c.1 c.2 (at_number most reach (spot who file block) first last n c.3 c.4 m)
below_one most reach by f b n v other m c = absurd c

below : (most : ℕ) (reach : Reach) (by : Who) (f b n v : ℕ) (before : List Entry) → Each (IsCoveredTo most reach) before
    → Exists (λ other. Covers other (W by f b n v false)) before → IsReached most reach (spot by f b) n n
below most reach by f b n v [] m e = absurd e
below most reach by f b n v (other ∷ before) m e =
    elim e [
      | inl h ↦ below_one most reach by f b n v other m.0 h
      | inr h ↦ below most reach by f b n v before m.1 h
    ]

too_far : (most : ℕ) (reach : Reach) (at : Spot) (first last n : ℕ) → IsReached most reach at n n → is_outside most reach at first last ≡ true
    → first ≤ n → n ≤ last → ⊥
too_far most reach at first last n h out a b =
    let upper : n ≤ mark_at reach.highest.entries at = h.upper in
    let lower : most - n ≤ mark_at reach.lowest.entries at = h.lower in
    elim (or_cases (nat_lt (mark_at reach.highest.entries at) first) (nat_lt (mark_at reach.lowest.entries at) (most - last)) out) [
      | inl t ↦ let above : mark_at reach.highest.entries at < first = ltb-true (mark_at reach.highest.entries at) first t in omega arith
      | inr t ↦ let under : mark_at reach.lowest.entries at < most - last = ltb-true (mark_at reach.lowest.entries at) (most - last) t in omega arith
    ]

apart : (most : ℕ) (reach : Reach) (who : Who) (file block first last : ℕ) (before : List Entry) → Each (IsCoveredTo most reach) before
    → is_outside most reach (spot who file block) first last ≡ true → (write : Entry) → IsWithin who file block first last write
    → Exists (λ other. Covers other write) before → ⊥
apart most reach who file block first last before m out (W by f b n v false) i e =
    let there : IsReached most reach (spot by f b) n n = below most reach by f b n v before m e in
    let here : IsReached most reach (spot who file block) n n = spot_of (λ at. IsReached most reach at n n) who by file f block b (sym i.0) (sym i.1)
    (sym i.2) there in
    too_far most reach (spot who file block) first last n here out i.3 i.4
apart most reach who file block first last before m out other i e = absurd i

-- ---- what an S or L accounts for

not_both : (x y : Bool) → (x ≡ true → y ≡ true → ⊥) → (not x || not y) ≡ true
not_both true true f = absurd (f refl refl)
not_both true false f = refl
not_both false y f = refl

pub each_of : {X : Type 0} (test : X → Bool) → ((x : X) → test x ≡ true) → (xs : List X) → each test xs ≡ true
each_of test all [] = refl
each_of test all (x ∷ xs) = and_from (test x) (each test xs) (all x) (each_of test all xs)

pub first_again : (entry : Entry) (before : List Entry) → ((write : Entry) → Covers entry write → Exists (λ other. Covers other write) before → ⊥)
    → (write : Entry) → is_first_to_cover before entry write ≡ true
first_again entry before none write =
    not_both (covers entry write) (exists (λ other. covers other write) before)
    (λ x y. none write ((tells_covers entry write).sound x) ((tells_exists (λ other. tells_covers other write) before).sound y))

rises_with : (most : ℕ) (at : Spot) (first last : ℕ) (old new : Reach) → IsExtended most at first last old new → Rises old new
rises_with most at first last old new h other = (h.upper.rises other, h.lower.rises other)

reaches_it : (most : ℕ) (at : Spot) (first last : ℕ) (old new : Reach) → IsExtended most at first last old new → IsReached most new at first last
reaches_it most at first last old new h = record { upper = h.upper.least; lower = h.lower.least }

-- what is told of the entries before it is told of an entry, too
with_it : (most : ℕ) (who : Who) (file block first last : ℕ) (old new : Reach) → IsAnew most (spot who file block) first last old new
    → (before : List Entry) → Each (IsCoveredTo most old) before → IsReached most new (spot who file block) first last × Each (IsCoveredTo most new) before
with_it most who file block first last old new h before m = (
  reaches_it most (spot who file block) first last old new h.extended,
  still most old new (rises_with most (spot who file block) first last old new h.extended) before m,
)

pub stored_once : (most : ℕ) (whole : List Entry) (who : Who) (file block first last now : ℕ) (old new : Reach)
    → IsAnew most (spot who file block) first last old new → Accounts most whole (S who file block first last now) old new
stored_once most whole who file block first last now old new h before m = (
  each_of (is_first_to_cover before (S who file block first last now))
      (first_again (S who file block first last now) before (apart most old who file block first last before m h.outside)) whole,
  with_it most who file block first last old new h before m,
)

pub lost_once : (most : ℕ) (whole : List Entry) (who : Who) (file block first last : ℕ) (old new : Reach)
    → exists (covers (L who file block first last)) whole ≡ true → IsAnew most (spot who file block) first last old new
    → Accounts most whole (L who file block first last) old new
lost_once most whole who file block first last old new some h before m = (
  and_from (each (is_first_to_cover before (L who file block first last)) whole) (exists (covers (L who file block first last)) whole)
      (each_of (is_first_to_cover before (L who file block first last))
      (first_again (L who file block first last) before (apart most old who file block first last before m h.outside)) whole)
      some,
  with_it most who file block first last old new h before m,
)

-- the same, of a result that is Ok and an entry that is one
pub stored_ok : {E : Type 0} (r : Result Bool E) (most : ℕ) (whole : List Entry) (entry : Entry) (who : Who) (file block first last now : ℕ) (at : Spot)
    (old new : Reach) → entry ≡ S who file block first last now → at ≡ spot who file block → IfOk r (λ anew. IsTrue anew → IsAnew most at first last old new)
    → IfOk r (λ yes. IsTrue yes → Accounts most whole entry old new)
stored_ok (Ok made) most whole entry who file block first last now at old new is here h =
    λ t. subst (λ (e : Entry). Accounts most whole e old new) (sym is)
    (stored_once most whole who file block first last now old new (subst (λ (a : Spot). IsAnew most a first last old new) here (h t)))
stored_ok (Err e) most whole entry who file block first last now at old new is here h = tt

pub lost_ok : {E : Type 0} (r : Result Bool E) (most : ℕ) (whole : List Entry) (entry : Entry) (who : Who) (file block first last : ℕ) (at : Spot)
    (old new : Reach) → entry ≡ L who file block first last → at ≡ spot who file block → exists (covers entry) whole ≡ true
    → IfOk r (λ anew. IsTrue anew → IsAnew most at first last old new) → IfOk r (λ yes. IsTrue yes → Accounts most whole entry old new)
lost_ok (Ok made) most whole entry who file block first last at old new is here some h =
    λ t. subst (λ (e : Entry). Accounts most whole e old new) (sym is)
    (lost_once most whole who file block first last old new (subst (λ (e : Entry). exists (covers e) whole ≡ true) is some)
    (subst (λ (a : Spot). IsAnew most a first last old new) here (h t)))
lost_ok (Err e) most whole entry who file block first last at old new is here some h = tt

-- what is said of numbers that were no lower than a mark, or were set
pub raised_to : (at : Spot) (number : ℕ) (old new : List (Spot × ℕ)) → mark_at old at ≤ number → IsMarked at number old new → IsRaised at number old new
raised_to at number old new low h =
    let here : mark_at new at ≡ number = marked_there at number old new h in
    record { least = omega arith; rises = no_lower at number old new h low }

pub raised_before : (at : Spot) (number : ℕ) (marks : List (Spot × ℕ)) → number ≤ mark_at marks at → IsRaised at number marks marks
raised_before at number marks low = record { least = low; rises = λ other. omega arith }
