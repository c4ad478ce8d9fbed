-- Checks, one list of them behind another.
use Rattle.std.proofs.Common.{◌≡◌, ℕ, Bool, true, false, List, [], ◌∷◌, ◌++◌, Result, Ok, Err, if◌then◌else◌, refl}
use Rattle.nq_image.specs.Check.{Check, tested}

one-passes : {A B : Type 0} (holds : Bool) (p : ℕ) (front : Result A ℕ) (both behind : Result B ℕ) (y : A) → (front ≡ Ok y → both ≡ behind)
    → (if holds then front else Err p) ≡ Ok y → (if holds then both else Err p) ≡ behind
one-passes true p front both behind y more h = more h
one-passes false p front both behind y more h = cc

one-fails : {A B : Type 0} (holds : Bool) (p q : ℕ) (front : Result A ℕ) (both : Result B ℕ) → (front ≡ Err q → both ≡ Err q)
    → (if holds then front else Err p) ≡ Err q → (if holds then both else Err p) ≡ Err q
one-fails true p q front both more h = more h
one-fails false p q front both more h = cc

-- where the checks in front hold, those behind decide
pub passes : {A B : Type 0} (front behind : List Check) (x y : A) (value : B) → tested front x ≡ Ok y → tested (front ++ behind) value ≡ tested behind value
passes [] behind x y value h = refl
passes (c ∷ front) behind x y value h =
    one-passes c.holds c.place (tested front x) (tested (front ++ behind) value) (tested behind value) y (passes front behind x y value) h

-- where one in front does not, it decides
pub fails : {A B : Type 0} (front behind : List Check) (x : A) (value : B) (p : ℕ) → tested front x ≡ Err p → tested (front ++ behind) value ≡ Err p
fails [] behind x value p h = cc
fails (c ∷ front) behind x value p h =
    one-fails c.holds c.place p (tested front x) (tested (front ++ behind) value) (fails front behind x value p) h

by-test : {A : Type 0} (holds : Bool) (p : ℕ) (rest : Result A ℕ) (x z : A) → (rest ≡ Ok z → x ≡ z) → (if holds then rest else Err p) ≡ Ok z → x ≡ z
by-test true p rest x z more h = more h
by-test false p rest x z more h = cc

other : {A B : Type 0} (holds : Bool) (p : ℕ) (one : Result A ℕ) (two : Result B ℕ) (x : A) (y : B) → (one ≡ Ok x → two ≡ Ok y)
    → (if holds then one else Err p) ≡ Ok x → (if holds then two else Err p) ≡ Ok y
other true p one two x y more h = more h
other false p one two x y more h = cc

-- whether fields are wrong does not depend on the value
pub tested-ok : {A B : Type 0} (checks : List Check) (x z : A) (y : B) → tested checks x ≡ Ok z → tested checks y ≡ Ok y
tested-ok [] x z y h = refl
tested-ok (c ∷ checks) x z y h = other c.holds c.place (tested checks x) (tested checks y) z y (tested-ok checks x z y) h

pub tested-err : {A B : Type 0} (checks : List Check) (x : A) (y : B) (p : ℕ) → tested checks x ≡ Err p → tested checks y ≡ Err p
tested-err [] x y p h = cc
tested-err (c ∷ checks) x y p h = one-fails c.holds c.place p (tested checks x) (tested checks y) (tested-err checks x y p) h

-- and the value is the one that was given
pub tested-value : {A : Type 0} (checks : List Check) (x z : A) → tested checks x ≡ Ok z → x ≡ z
tested-value [] x z h = cc
tested-value (c ∷ checks) x z h = by-test c.holds c.place (tested checks x) x z (tested-value checks x z) h

pub ruleset values = (tested-ok, tested-err, tested-value)
