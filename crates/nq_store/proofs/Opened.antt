-- What an opened store keeps.
use Rattle.std.proofs.Common.{◌≡◌, ℕ, List, Option, Some, None, Result, Ok, Err, refl, sym, ap, subst, ◌∙◌}
use Rattle.std.specs.Option.{ForSome}
use Rattle.nq_plan.specs.Standing.{stands_as}
use Rattle.nq_image.specs.Standing.{kept_at}
use Rattle.nq_plan.specs.Held.{HeldTables}
use Rattle.nq_store.specs.Loading.{IsShut, IsShutAs, OpensTables}
use Rattle.nq_store.specs.Opening.{SaysWrong, open_fault}
use Rattle.nq_store.specs.Storing.{IsKept, IsKeptOn, kept_of, kept_on, kept_told}
use Rattle.nq_store.specs.declared.fault.Fault.{Fault}
use Rattle.nq_store.specs.declared.fault.Fault.TheVariants.{NotAnImage, BadField, Failed, Memory}
use Rattle.nq_store.specs.declared.fault.OpenFault.{OpenFault}
use Rattle.nq_store.proofs.Keeping.{held-kept}
use Rattle.nq_store.proofs.Told.{one-of, opens-as}

pub kept-same : (now bytes : List ℕ) → stands_as now ≡ stands_as bytes → kept_on now ≡ kept_on bytes
unfolding kept_on
kept-same now bytes same = ap kept_of same

none-tells : {X : Type 0} (o : Option X) (x : X) → o ≡ None → o ≡ Some x → ⊥
none-tells o x none some = cc

-- an open of the record, and then of the tables
pub opens-both : (result : Result HeldTables Fault) (o mid tells : Option (List ℕ)) (mid_may may : List ℕ → Type 0)
    → ForSome o (λ bytes. IsShutAs bytes mid mid_may) → ForSome mid (λ bytes. IsShut mid_may bytes → OpensTables result bytes tells may)
    → ForSome o (λ bytes. OpensTables result bytes tells may)
opens-both result o mid tells mid_may may shut opens = λ bytes is.
    let s = shut bytes is in
    opens-as result bytes s.now tells may s.same (opens s.now s.told s.shut)

pub content-same : (held : HeldTables) (o tells : Option (List ℕ)) (may : List ℕ → Type 0) → (o ≡ None → tells ≡ None)
    → ForSome o (λ bytes. OpensTables (Ok held) bytes tells may) → kept_told tells ≡ kept_told o
content-same held None tells may silent opens = ap kept_told (silent refl)
content-same held (Some bytes) tells may silent opens = let l = opens bytes refl in ap kept_told l.told ∙ kept-same l.now bytes l.same

-- the bytes of an opened disk stood for a kept state
pub stands-opened : (held : HeldTables) (o tells : Option (List ℕ)) (may : List ℕ → Type 0) → ForSome o (λ bytes. OpensTables (Ok held) bytes tells
    may) → ForSome o IsKept
stands-opened held o tells may opens = λ bytes is.
    let l = opens bytes is in
    (kept_at l.now held.standing, sym (kept-same l.now bytes l.same) ∙ held-kept held may l.now l.kept)

pub sound-opened : (held : HeldTables) (o tells : Option (List ℕ)) (may : List ℕ → Type 0) → (o ≡ None → tells ≡ None)
    → ForSome o (λ bytes. OpensTables (Ok held) bytes tells may) → ForSome tells (IsKeptOn held may)
sound-opened held None tells may silent opens = λ bytes is. absurd (none-tells tells bytes (silent refl) is)
sound-opened held (Some old) tells may silent opens = λ bytes is.
    let l = opens old refl in
    subst (IsKeptOn held may) (one-of l.now bytes (sym l.told ∙ is)) l.kept

pub says-opened : (X : Type 0) {D : Type 0} (fault : Fault) (disk : D) (result : OpenFault D) (o tells : Option (List ℕ)) (may : List ℕ → Type 0)
    → result ≡ open_fault disk fault → ForSome o (λ bytes. OpensTables (Err fault) bytes tells may) → SaysWrong {X = X} (Err result) o
says-opened X {D} fault disk result o tells may is opens = subst (λ (f : OpenFault D). SaysWrong {X = X} (Err f) o) (sym is) (by fault opens)
  where
    by : (fault : Fault) → ForSome o (λ bytes. OpensTables (Err fault) bytes tells may) → SaysWrong {X = X} (Err (open_fault disk fault)) o
    by NotAnImage opens = opens
    by (BadField place) opens = opens
    by Failed opens = tt
    by Memory opens = tt
