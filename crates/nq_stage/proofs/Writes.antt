-- Delayed writes that are one are equal, so they serve as keys.
use Rattle.std.proofs.Common.{◌≡◌, ℕ, ◌==◌, Bool, true, false, ◌&&◌, refl, sym, ◌∙◌, arith}
use Rattle.std.specs.Cmp.{IsEquivalence}
use Rattle.std.proofs.lemmas.Bool.Decides.{nat_tests}
use Rattle.nq_stage.specs.declared.messages.Written.{Written}
use Rattle.nq_stage.specs.Writes.{is_same}

parts : (a b c d e f g h i j : ℕ) → (a == b && c == d && e == f && g == h && i == j) ≡ true → (a ≡ b) × (c ≡ d) × (e ≡ f) × (g ≡ h) × (i ≡ j)
parts a b c d e f g h i j on = grind (arith, nat_tests)

same-parts : (a b c d e f g h i j : ℕ) → a ≡ b → c ≡ d → e ≡ f → g ≡ h → i ≡ j → (let w : Written = record {
  host = a;
  inc = c;
  file = e;
  block = g;
  last = i;
} in w) ≡ record { host = b; inc = d; file = f; block = h; last = j }
same-parts a b c d e f g h i j p q r s t = rw (p, q, r, s, t) refl

-- writes that are one are equal
pub same_write : (v w : Written) → is_same v w ≡ true → v ≡ w
same_write v w on =
    let e = parts v.host w.host v.inc w.inc v.file w.file v.block w.block v.last w.last on in
    same-parts v.host w.host v.inc w.inc v.file w.file v.block w.block v.last w.last e.0 e.1 e.2 e.3 e.4

all-same : (a b c d e : ℕ) → (a == a && b == b && c == c && d == d && e == e) ≡ true
all-same a b c d e = grind (arith, nat_tests)

-- a write is one with itself
pub same_self : (w : Written) → is_same w w ≡ true
same_self w = all-same w.host w.inc w.file w.block w.last

-- the order of two writes is nothing to the test
turned-false : (v w : Written) (b : Bool) → is_same w v ≡ b → is_same v w ≡ false → b ≡ false
turned-false v w false h off = refl
turned-false v w true h off = let e = same_write w v h in let on = same_self w in let off' = rw (sym e) at off in absurd cc

turned : (v w : Written) (b : Bool) → is_same v w ≡ b → is_same w v ≡ b
turned v w true h = let e = same_write v w h in rw (sym e) (same_self v)
turned v w false h = turned-false v w (is_same w v) refl h

congruent : (v w x : Written) → is_same v w ≡ true → is_same v x ≡ is_same w x
congruent v w x h = rw (same_write v w h) refl

-- the test of the map is that of the writes
abbrev pub IsTest : (Written → Written → Bool) → Type 0
IsTest eq = (v w : Written) → eq v w ≡ is_same v w

module _ (eq : Written → Written → Bool) (test : IsTest eq) where
  pub is_equivalence : IsEquivalence eq
  is_equivalence = record {
    refl = λ v. test v v ∙ same_self v;
    symm = λ v w. test v w ∙ sym (turned v w (is_same v w) refl) ∙ sym (test w v);
    congr = λ v w x h. test v x ∙ congruent v w x (sym (test v w) ∙ h) ∙ sym (test w x);
  }
