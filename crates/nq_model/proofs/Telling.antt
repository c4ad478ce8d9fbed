-- Tests of compound facts tell them, where the tests of their parts do.
use Rattle.std.proofs.Common.{◌≡◌, ◌≤◌, ◌<◌, ℕ, Bool, true, false, not, ◌&&◌, ◌||◌, refl}
use Rattle.std.specs.Prelude.{◌⊎◌, ◌==◌, nat_le, nat_lt, IsFalse, ⊤}
use Rattle.std.proofs.lemmas.Bool.{and_parts, and_from, or_cases, or_left, or_right, eqb-true, eq-eqb, leb-true, le-leb, ltb-true, lt-ltb, both_ways}
use mathlib.Core.Logic.{inl, inr}
use Rattle.nq_model.specs.laws.Tests.{Tells}

pub yes : Tells true ⊤
yes = record { sound = λ e. tt; complete = λ h. refl }

pub no : Tells false ⊥
no = record { sound = λ e. absurd (cc); complete = λ h. absurd h }

-- the same fact in other words
pub tells_alike : {b : Bool} {P Q : Type 0} → (P → Q) → (Q → P) → Tells b P → Tells b Q
tells_alike to from p = record { sound = λ e. to (p.sound e); complete = λ h. p.complete (from h) }

pub tells_and : {a b : Bool} {P Q : Type 0} → Tells a P → Tells b Q → Tells (a && b) (P × Q)
tells_and {a} {b} p q = record {
  sound = λ e. let h = and_parts a b e in (p.sound h.0, q.sound h.1);
  complete = λ h. and_from a b (p.complete h.0) (q.complete h.1);
}

pub tells_3 : {a b c : Bool} {P Q R : Type 0} → Tells a P → Tells b Q → Tells c R → Tells (a && b && c) (P × Q × R)
tells_3 p q r = tells_alike (λ h. (h.0.0, h.0.1, h.1)) (λ h. ((h.0, h.1), h.2)) (tells_and (tells_and p q) r)

pub tells_4 : {a b c d : Bool} {P Q R S : Type 0} → Tells a P → Tells b Q → Tells c R → Tells d S → Tells (a && b && c && d) (P × Q × R × S)
tells_4 p q r s = tells_alike (λ h. (h.0.0, h.0.1, h.0.2, h.1)) (λ h. ((h.0, h.1, h.2), h.3)) (tells_and (tells_3 p q r) s)

pub tells_5 : {a b c d e : Bool} {P Q R S T : Type 0} → Tells a P → Tells b Q → Tells c R → Tells d S → Tells e T → Tells (a && b && c && d && e)
    (P × Q × R × S × T)
tells_5 p q r s t = tells_alike (λ h. (h.0.0, h.0.1, h.0.2, h.0.3, h.1)) (λ h. ((h.0, h.1, h.2, h.3), h.4)) (tells_and (tells_4 p q r s) t)

pub tells_or : {a b : Bool} {P Q : Type 0} → Tells a P → Tells b Q → Tells (a || b) (P ⊎ Q)
tells_or {a} {b} p q = record {
  sound = λ e. elim (or_cases a b e) [ inl h ↦ inl (p.sound h) | inr h ↦ inr (q.sound h) ];
  complete = elim [ inl h ↦ or_left a b (p.complete h) | inr h ↦ or_right a b (q.complete h) ];
}

-- a fact whose test is false does not hold
pub not_told : {a : Bool} {P : Type 0} → Tells a P → IsFalse a → ¬ P
not_told {a} p e h = both_ways a e (p.complete h)

pub not_so : (a : Bool) {P : Type 0} → Tells a P → ¬ P → IsFalse a
not_so true p h = absurd (h (p.sound refl))
not_so false p h = refl

not_at : (a : Bool) {P : Type 0} → Tells a P → Tells (not a) (¬ P)
not_at true p = record { sound = λ e. absurd (cc); complete = λ h. absurd (h (p.sound refl)) }
not_at false p = record { sound = λ e. not_told p refl; complete = λ h. refl }

pub tells_not : {a : Bool} {P : Type 0} → Tells a P → Tells (not a) (¬ P)
tells_not {a} p = not_at a p

implies_at : (a : Bool) {b : Bool} {P Q : Type 0} → Tells a P → Tells b Q → Tells (not a || b) (P → Q)
implies_at true p q = record { sound = λ e h. q.sound e; complete = λ f. q.complete (f (p.sound refl)) }
implies_at false p q = record { sound = λ e h. absurd (not_told p refl h); complete = λ f. refl }

pub tells_implies : {a b : Bool} {P Q : Type 0} → Tells a P → Tells b Q → Tells (not a || b) (P → Q)
tells_implies {a} p q = implies_at a p q

pub tells_same : {a b : ℕ} → Tells (a == b) (a ≡ b)
tells_same {a} {b} = record { sound = eqb-true a b; complete = eq-eqb a b }

pub tells_le : {a b : ℕ} → Tells (nat_le a b) (a ≤ b)
tells_le {a} {b} = record { sound = leb-true a b; complete = le-leb a b }

pub tells_lt : {a b : ℕ} → Tells (nat_lt a b) (a < b)
tells_lt {a} {b} = record { sound = ltb-true a b; complete = lt-ltb a b }
