-- What tests of numbers say.
use Rattle.std.proofs.Common.{◌≡◌, ◌<◌, ◌≤◌, ℕ, ◌==◌, true, false, nat_lt, Option, Some, None, refl, arith}
use Rattle.std.specs.Option.{unwrap_or}
use Rattle.std.specs.Prelude.{is_some, nat_le}
use Rattle.std.proofs.lemmas.Bool.Decides.{nat_tests}
pub use Rattle.nq_model.proofs.Finding.{is-other}

pub is-below : (m n : ℕ) → nat_lt m n ≡ true → m < n
is-below m n h = grind (arith, nat_tests)

pub is-not-below : (m n : ℕ) → nat_lt m n ≡ false → n ≤ m
is-not-below m n h = grind (arith, nat_tests)

pub is-at-most : (m n : ℕ) → nat_le m n ≡ true → m ≤ n
is-at-most m n h = grind (arith, nat_tests)

pub is-not-at-most : (m n : ℕ) → nat_le m n ≡ false → n < m
is-not-at-most m n h = grind (arith, nat_tests)

pub is-above : (m n : ℕ) → (m == n) ≡ false → nat_lt m n ≡ false → n < m
is-above m n h k = grind (arith, nat_tests)

pub is-same : (m n : ℕ) → nat_lt m n ≡ false → nat_lt n m ≡ false → m ≡ n
is-same m n h k = grind (arith, nat_tests)

pub none-there : {A : Type 0} (o : Option A) → is_some o ≡ false → o ≡ None
none-there None h = refl
none-there (Some x) h = cc

pub some-is : {A : Type 0} (o : Option A) (d : A) → is_some o ≡ true → o ≡ Some (unwrap_or o d)
some-is None d h = cc
some-is (Some x) d h = refl

pub there-is : {A : Type 0} (o : Option A) → is_some o ≡ true → (x : A) × (o ≡ Some x)
there-is None h = cc
there-is (Some x) h = (x, refl)
