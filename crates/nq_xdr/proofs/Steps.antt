-- Steps of reading that may fail.
use Rattle.std.proofs.Common.{◌≡◌, ℕ, List, ◌++◌, Result, Ok, Err, sym, ap, subst, ◌∙◌}
use Rattle.std.specs.Prelude.{IfOk, IfErr}
use Rattle.nq_xdr.specs.Reading.{Gives}

-- What bytes say where an item is read: the value that they spell, with the bytes behind it, or a fault.
abbrev pub Says : {A F : Type 0} → (A → List ℕ) → (A → Type 0) → (F → Type 0) → List ℕ → Result (A × List ℕ) F → Type 0
Says spelling Fits IsFault bytes (Ok x) = Fits x.0 × (bytes ≡ spelling x.0 ++ x.1)
Says spelling Fits IsFault bytes (Err e) = IsFault e

-- a value that was given is spelled so
pub says_found : {X A F : Type 0} (spelling : A → List ℕ) (Fits : A → Type 0) (IsFault : F → Type 0) (bytes : List ℕ) (view : X → A × List ℕ)
    (r : Result X F) (read : Result (A × List ℕ) F)
    → Says spelling Fits IsFault bytes read → Gives view r read → IfOk r (λ x. Fits (view x).0 × (bytes ≡ spelling (view x).0 ++ (view x).1))
says_found {A = A} {F = F} spelling Fits IsFault bytes view (Ok x) read says given =
    let P : Result (A × List ℕ) F → Type 0 = Says spelling Fits IsFault bytes in subst P given says
says_found spelling Fits IsFault bytes view (Err e) read says given = tt

-- a fault that was given is one
pub says_fault : {X A F : Type 0} (spelling : A → List ℕ) (Fits : A → Type 0) (IsFault : F → Type 0) (bytes : List ℕ) (view : X → A × List ℕ)
    (r : Result X F) (read : Result (A × List ℕ) F)
    → Says spelling Fits IsFault bytes read → Gives view r read → IfErr r IsFault
says_fault spelling Fits IsFault bytes view (Ok x) read says given = tt
says_fault {A = A} {F = F} spelling Fits IsFault bytes view (Err e) read says given =
    let P : Result (A × List ℕ) F → Type 0 = Says spelling Fits IsFault bytes in subst P given says

abbrev err_of : {A F : Type 0} → F → Result A F
err_of e = Err e

-- a reading has one value
pub one_value : {A F : Type 0} (read : Result A F) (x y : A) → read ≡ Ok x → read ≡ Ok y → x ≡ y
one_value read x y e f = cc

-- so no spelling begins another
pub apart : {A F : Type 0} (read : List ℕ → Result (A × List ℕ) F) (x y : A × List ℕ) (front back : List ℕ) → front ≡ back → read front ≡ Ok x
    → read back ≡ Ok y → (x.0 ≡ y.0) × (x.1 ≡ y.1)
apart {A = A} read x y front back same e f =
    let all = one_value (read back) x y (ap read (sym same) ∙ e) f in
    (ap (λ (p : A × List ℕ). p.0) all, ap (λ (p : A × List ℕ). p.1) all)

-- and no value beside a fault
pub no_value : {A F : Type 0} (read : Result A F) (x : A) (e : F) → read ≡ Ok x → read ≡ Err e → ⊥
no_value read x e is_ok is_err = cc

-- the two parts of what a reading gives
pub same_parts : {A F : Type 0} (read : Result (A × List ℕ) F) (a b : A) (r s : List ℕ) → read ≡ Ok (a, r) → read ≡ Ok (b, s) → (a ≡ b) × (r ≡ s)
same_parts {A = A} read a b r s e f =
    let all = one_value read (a, r) (b, s) e f in
    (ap (λ (p : A × List ℕ). p.0) all, ap (λ (p : A × List ℕ). p.1) all)

pub one_fault : {A B F : Type 0} (read : Result A F) (d e : F) → read ≡ Err d → read ≡ Err e → err_of {A = B} d ≡ err_of e
one_fault read d e is_d is_e = cc
