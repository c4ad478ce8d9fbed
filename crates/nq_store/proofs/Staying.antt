-- A disk that stands for no kept state keeps its bytes.
use Rattle.std.proofs.Common.{◌≡◌, ℕ, List, Option, Some, None, Result, Ok, Err, inl, refl, sym, subst}
use Rattle.nq_plan.specs.Standing.{image_area, stands_as}
use Rattle.nq_model.specs.protocol.Kept.{Kept}
use Rattle.nq_plan.specs.Held.{HeldTables}
use Rattle.nq_disk.specs.Opens.{Opens, disk_in}
use Rattle.nq_disk.specs.declared.redo.redo.Redo.{Redo}
use Rattle.nq_disk.specs.declared.redo.redo.RedoOpen.{RedoOpen}
use Rattle.nq_store.specs.Loading.{OpensTables, StaysAs}
use Rattle.nq_store.specs.Migrating.{Migrates}
use Rattle.nq_store.specs.Opening.{IsSettledOf, StaysBack, TellsSettled, open_fault}
use Rattle.nq_store.specs.declared.fault.Fault.{Fault}
use Rattle.nq_store.specs.declared.fault.Fault.TheVariants.{NotAnImage, BadField, Failed, Memory}
use Rattle.nq_store.specs.declared.fault.OpenFault.{OpenFault}

-- a call that changes nothing
pub stays-told : {X : Type 0} (result : Result X Fault) (bytes : List ℕ) (tells : Option (List ℕ)) → tells ≡ Some bytes → StaysAs result bytes tells
stays-told (Ok held) bytes tells same = tt
stays-told (Err NotAnImage) bytes tells same = same
stays-told (Err (BadField place)) bytes tells same = same
stays-told (Err Failed) bytes tells same = tt
stays-told (Err Memory) bytes tells same = tt

pub migrates-stays : (fault : Fault) (bytes : List ℕ) (tells : Option (List ℕ)) (may : List ℕ → Type 0) → Migrates (Err fault) bytes tells may
    → StaysAs {X = HeldTables} (Err fault) bytes tells
migrates-stays NotAnImage bytes tells may migrates = absurd migrates
migrates-stays (BadField place) bytes tells may migrates = migrates.1
migrates-stays Failed bytes tells may migrates = tt
migrates-stays Memory bytes tells may migrates = tt

kept-or-none : (o : Option (Result Kept ℕ)) (kept : Kept) → o ≡ Some (Ok kept) → o ≡ None → ⊥
kept-or-none o kept some none = cc

kept-or-wrong : (o : Option (Result Kept ℕ)) (kept : Kept) (place : ℕ) → o ≡ Some (Ok kept) → o ≡ Some (Err place) → ⊥
kept-or-wrong o kept place some wrong = cc

-- an image that stands for a kept state is not refused
pub stays-right : (result : Result HeldTables Fault) (bytes now : List ℕ) (tells : Option (List ℕ)) (may : List ℕ → Type 0) (kept : Kept)
    → stands_as now ≡ Some (Ok kept) → OpensTables result now tells may → StaysAs result bytes tells
stays-right (Ok held) bytes now tells may kept is opens = tt
stays-right (Err NotAnImage) bytes now tells may kept is opens = absurd (kept-or-none (stands_as now) kept is opens)
stays-right (Err (BadField place)) bytes now tells may kept is opens = absurd (kept-or-wrong (stands_as now) kept place is opens)
stays-right (Err Failed) bytes now tells may kept is opens = tt
stays-right (Err Memory) bytes now tells may kept is opens = tt

-- a record with a wrong field is not carried out
pub stays-named : {D : Type 0} (told : D → Option (List ℕ)) (may : D → List ℕ → Type 0) (result : Result (Redo D) (RedoOpen D)) (back : D) (place : ℕ)
    (bytes : List ℕ) → result ≡ Err (RedoOpen.BadField back place) → Opens image_area result bytes (told (disk_in result)) (may (disk_in result))
    → TellsSettled bytes (told back)
stays-named {D} told may result back place bytes is opens =
    let there = subst (λ (r : Result (Redo D) (RedoOpen D)). Opens image_area r bytes (told (disk_in r)) (may (disk_in r))) is opens in
    (bytes, there.1, inl refl)

-- what is handed back after a call that changed nothing but what an open record says
pub stays-refused : {D : Type 0} (told : D → Option (List ℕ)) (fault : Fault) (disk : D) (result : OpenFault D) (bytes now : List ℕ)
    → result ≡ open_fault disk fault → IsSettledOf bytes now → StaysAs {X = HeldTables} (Err fault) now (told disk) → StaysBack told result bytes
stays-refused {D} told fault disk result bytes now is settled stays = subst (λ (f : OpenFault D). StaysBack told f bytes) (sym is) (by fault stays)
  where
    by : (fault : Fault) → StaysAs {X = HeldTables} (Err fault) now (told disk) → StaysBack told (open_fault disk fault) bytes
    by NotAnImage stays = (now, stays, settled)
    by (BadField place) stays = (now, stays, settled)
    by Failed stays = tt
    by Memory stays = tt

pub stays-given : {D : Type 0} (told : D → Option (List ℕ)) (fault : Fault) (disk : D) (result : OpenFault D) (bytes : List ℕ)
    → result ≡ open_fault disk fault → told disk ≡ Some bytes → StaysBack told result bytes
stays-given told fault disk result bytes is same = stays-refused told fault disk result bytes bytes is (inl refl)
    (stays-told {X = HeldTables} (Err fault) bytes (told disk) same)
