-- The laws of a store as a keeper.
use Rattle.std.proofs.Common.{◌≡◌, ◌⊎◌, ◌≤◌, ◌-◌, ◌^◌, ℕ, Bool, true, false, List, Option, Some, None, Result, Ok, Err, if◌then◌else◌, refl, sym}
use Rattle.std.proofs.Common.{subst, ◌∙◌, inl, inr, ⊎_elim, arith}
use Rattle.std.proofs.lemmas.Bool.{cases_lt}
use Rattle.nq_io.specs.Faults.{Rose}
use Rattle.nq_plan.specs.Standing.{stands_as}
use Rattle.nq_keeper.specs.Bounds.{within-decides}
use Rattle.nq_keeper.specs.StoredKeeper.{is_within}
use Rattle.nq_model.specs.protocol.Change.{IsWithinBounds}
use Rattle.nq_model.specs.protocol.Kept.{Kept}
use Rattle.nq_store.specs.Storing.{GoesOn, LeavesKept, RefusesNone, StoredStore, content_of, content_while, counted, faults_of, kept_of, kept_on}

if-within : (kept found : Kept) (b : Bool) → is_within kept ≡ b → (if b then Some kept else None) ≡ Some found → IsWithinBounds found
if-within kept found false is e = cc
if-within kept found true is e = let same : kept ≡ found = cc in subst IsWithinBounds same ((within-decides kept).0 is)

of-within : (stands : Option (Result Kept ℕ)) (found : Kept) → kept_of stands ≡ Some found → IsWithinBounds found
of-within None found e = cc
of-within (Some (Err place)) found e = cc
of-within (Some (Ok kept)) found e = if-within kept found (is_within kept) refl e

-- what is told is within its bounds
while-within : (ended : Bool) (told : Option (List ℕ)) (found : Kept) → content_while ended told ≡ Some found → IsWithinBounds found
unfolding kept_on
while-within true told found e = cc
while-within false None found e = cc
while-within false (Some bytes) found e = of-within (stands_as bytes) found e

-- a disk that tells a kept state tells bytes that stand for it
pub tells-bytes : (ended : Bool) (told : Option (List ℕ)) (kept : Kept) → content_while ended told ≡ Some kept → (bytes : List ℕ)
    × (told ≡ Some bytes) × (kept_on bytes ≡ Some kept)
tells-bytes true told kept e = cc
tells-bytes false None kept e = cc
tells-bytes false (Some bytes) kept e = (bytes, refl, e)

rises-with : (faults last_faults refused last_refused : ℕ) → faults ≤ last_faults → refused ≤ last_refused → counted faults refused
    ≤ counted last_faults last_refused
rises-with faults last_faults refused last_refused one two = omega arith

pub told-is-within : {D : Type 0} (told : D → Option (List ℕ)) (store : StoredStore D) (kept : Kept) → content_of told store ≡ Some kept → IsWithinBounds kept
told-is-within told store kept e = while-within store.ended (told store.disk) kept e

-- ---- counts

rose-from : (a b c : ℕ) → a ≤ b → Rose b c → Rose a c
rose-from a b c le (inl lt) = inl (omega arith)
rose-from a b c le (inr end) = let one = end.0 in let two = end.1 in elim (cases_lt a (2 ^ 64 - 1)) [
  | inl lt ↦ inl (omega arith)
  | inr ge ↦ inr (omega arith, omega arith)
]

rose-to : (a b c : ℕ) → Rose a b → b ≤ c → Rose a c
rose-to a b c (inl lt) le = inl (omega arith)
rose-to a b c (inr end) le = let one = end.0 in let two = end.1 in elim (cases_lt (2 ^ 64 - 1) c) [
  | inl lt ↦ inl (omega arith)
  | inr ge ↦ inr (omega arith, omega arith)
]

-- ---- one store after another

module _ {D : Type 0} (faults : D → ℕ) (follows : D → D → Type 0) where
  pub goes-itself : ((disk : D) → follows disk disk) → (store : StoredStore D) → GoesOn faults follows store store
  goes-itself itself store = record { disk = itself store.disk; refused = omega arith; cause = λ goes. inl (record { goes_on = goes; none = refl }) }

  cause-further : (first second third : StoredStore D) → faults first.disk ≤ faults second.disk → faults second.disk ≤ faults third.disk
      → RefusesNone first second ⊎ Rose (faults first.disk) (faults second.disk)
      → (second.ended ≡ false → RefusesNone second third ⊎ Rose (faults second.disk) (faults third.disk))
      → RefusesNone first third ⊎ Rose (faults first.disk) (faults third.disk)
  cause-further first second third one two (inr rose) next = inr (rose-to (faults first.disk) (faults second.disk) (faults third.disk) rose two)
  cause-further first second third one two (inl none) next =
      ⊎_elim (λ more. inl (record { goes_on = more.goes_on; none = more.none ∙ none.none }))
      (λ rose. inr (rose-from (faults first.disk) (faults second.disk) (faults third.disk) one rose))
      (next none.goes_on)

  pub goes-further : ((first second third : D) → follows first second → follows second third → follows first third)
      → ((first last : D) → follows first last → faults first ≤ faults last)
      → (first second third : StoredStore D) → GoesOn faults follows first second → GoesOn faults follows second third → GoesOn faults follows first third
  goes-further further rises first second third one two =
      let a = one.refused in
      let b = two.refused in
      record {
        disk = further first.disk second.disk third.disk one.disk two.disk;
        refused = omega arith;
        cause = λ goes. cause-further first second third (rises first.disk second.disk one.disk) (rises second.disk third.disk two.disk) (one.cause
            goes) two.cause;
      }

  pub goes-rising : ((first last : D) → follows first last → faults first ≤ faults last) → (first last : StoredStore D) → GoesOn faults follows first
      last → faults_of faults first ≤ faults_of faults last
  goes-rising rises first last goes =
      rises-with (faults first.disk) (faults last.disk) first.refused last.refused (rises first.disk last.disk goes.disk) goes.refused

  module _ (told : D → Option (List ℕ)) (may : D → List ℕ → Type 0) (leaves : D → D → List ℕ → Type 0) where
    told-left : ((disk : D) (bytes : List ℕ) → told disk ≡ Some bytes → may disk bytes) → (store : StoredStore D) (kept : Kept)
        → content_of told store ≡ Some kept → (bytes : List ℕ) × may store.disk bytes × (Some kept ≡ kept_on bytes)
    told-left stay store kept e =
        let t = tells-bytes store.ended (told store.disk) kept e in
        (t.0, stay store.disk t.0 t.1, sym t.2)

    -- what is kept at the beginning may be left, and what is kept at the end
    pub may-leave : ((disk : D) (bytes : List ℕ) → told disk ≡ Some bytes → may disk bytes)
        → ((first last : D) (bytes : List ℕ) → follows first last → may first bytes ⊎ may last bytes → leaves first last bytes)
        → (first last : StoredStore D) (kept : Kept) → GoesOn faults follows first last → (content_of told first ≡ Some kept)
        ⊎ (content_of told last ≡ Some kept) → LeavesKept (leaves first.disk last.disk) (Some kept)
    may-leave stay ends first last kept goes (inl e) =
        let t = told-left stay first kept e in
        (t.0, ends first.disk last.disk t.0 goes.disk (inl t.1), t.2)
    may-leave stay ends first last kept goes (inr e) =
        let t = told-left stay last kept e in
        (t.0, ends first.disk last.disk t.0 goes.disk (inr t.1), t.2)

  module _ (leaves : D → D → List ℕ → Type 0) where
    -- what is left between two moments is left before a third, or behind it
    pub leaves-parts : ((first middle last : D) (bytes : List ℕ) → follows first middle → follows middle last → leaves first last bytes
        → leaves first middle bytes ⊎ leaves middle last bytes) → (first middle last : StoredStore D) (found : Option Kept) → GoesOn faults follows
        first middle → GoesOn faults follows middle last → LeavesKept (leaves first.disk last.disk) found → LeavesKept (leaves first.disk middle.disk)
        found ⊎ LeavesKept (leaves middle.disk last.disk) found
    leaves-parts parts first middle last found one two left =
        ⊎_elim (λ here. inl (left.0, here, left.2)) (λ there. inr (left.0, there, left.2))
        (parts first.disk middle.disk last.disk left.0 one.disk two.disk left.1)
