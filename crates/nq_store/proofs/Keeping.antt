-- What a store tells of what it keeps, and what a stop leaves of it.
use Rattle.std.proofs.Common.{◌≡◌, ◌<◌, ◌+◌, ◌-◌, ◌^◌, ℕ, Bool, true, false, List, [], Option, Some, None, Result, Ok, if◌then◌else◌, refl, sym, ap}
use Rattle.std.proofs.Common.{subst, ◌∙◌, inl, inr, arith}
use Rattle.std.specs.Prelude.{IfOk}
use Rattle.std.specs.Option.{ForSome}
use Rattle.std.proofs.lemmas.Bool.{cases_lt}
use Rattle.nq_plan.specs.Standing.{stands_as}
use Rattle.nq_image.specs.Standing.{kept_at}
use Rattle.nq_io.specs.Faults.{Rose, count_up}
use Rattle.nq_keeper.specs.Bounds.{within-decides}
use Rattle.nq_keeper.specs.Keeping.{LeavesOne}
use Rattle.nq_keeper.specs.declared.keeper.KeepFault.{KeepFault}
use Rattle.nq_model.specs.protocol.Change.{IsWithinBounds}
use Rattle.nq_model.specs.protocol.Kept.{Kept}
use Rattle.nq_plan.specs.Held.{HeldTables, IsHeldOf}
use Rattle.nq_store.specs.Laws.{tells-bytes}
use Rattle.nq_store.specs.Storing.{IsKeptOn, IsSound, LeavesKept, answered, content_while, counted, if_within, kept_of, kept_on}
use Rattle.nq_image.proofs.Owning.{rows-of, standing-apart}
use Rattle.nq_store.proofs.ImagesOpening.{closed-stands}
use Rattle.nq_store.proofs.Rows.{AreApartRows, rows-apart}

-- ---- what bytes stand for

if-true : (kept : Kept) → IsWithinBounds kept → if_within kept ≡ Some kept
if-true kept within = ap (λ (b : Bool). if b then Some kept else None) ((within-decides kept).1 within)

pub stands-kept : (image : List ℕ) (kept : Kept) → stands_as image ≡ Some (Ok kept) → IsWithinBounds kept → kept_on image ≡ Some kept
unfolding kept_on
stands-kept image kept is within = ap kept_of is ∙ if-true kept within

pub held-kept : (held : HeldTables) (may : List ℕ → Type 0) (bytes : List ℕ) → IsKeptOn held may bytes → kept_on bytes ≡ Some (kept_at bytes held.standing)
held-kept held may bytes on =
    let long = on.closed.long in
    stands-kept bytes (kept_at bytes held.standing) (closed-stands bytes bytes held.standing on.is_held.stands on.closed (omega arith) refl) on.within

-- what is known where something is told
pub record IsKnown (held : HeldTables) (may : List ℕ → Type 0) (told : Option (List ℕ)) (kept : Kept) : Type 0 where
  pub bytes : List ℕ
  pub tells : told ≡ Some bytes
  pub on : IsKeptOn held may bytes
  pub same : kept_at bytes held.standing ≡ kept

one-kept : (a b : Kept) (o : Option Kept) → o ≡ Some a → o ≡ Some b → a ≡ b
one-kept a b o one two = cc

pub known : (ended : Bool) (told : Option (List ℕ)) (held : HeldTables) (may : List ℕ → Type 0) (kept : Kept) → IsSound told may held ended
    → content_while ended told ≡ Some kept → IsKnown held may told kept
known true told held may kept sound e = absurd (cc)
known false told held may kept sound e =
    let t = tells-bytes false told kept e in
    let on = sound refl t.0 t.1 in
    record { bytes = t.0; tells = t.1; on = on; same = one-kept (kept_at t.0 held.standing) kept (kept_on t.0) (held-kept held may t.0 on) t.2 }

-- each row of an image stands apart
pub apart-in : (bytes : List ℕ) (held : HeldTables) → IsHeldOf bytes held → AreApartRows held.standing.rows
apart-in bytes held is_held =
    rows-apart held.standing (λ file lt here. standing-apart bytes held.standing file is_held.stands lt here) (rows-of bytes held.standing
    is_held.stands) held.standing.rows [] refl is_held.stands.numbered

-- ---- an answer out of memory

if-answered : {X : Type 0} (ended : Bool) (x z : X) → x ≡ z → IfOk (answered ended x) (λ v. v ≡ z)
if-answered true x z same = tt
if-answered false x z same = same

pub told-answer : {X : Type 0} (result : Result X KeepFault) (x : X) (y : Kept → X) (ended : Bool) (told : Option (List ℕ)) (held : HeldTables)
    (may : List ℕ → Type 0) → IsSound told may held ended → result ≡ answered ended x → ((bytes : List ℕ) → IsHeldOf bytes held
    → x ≡ y (kept_at bytes held.standing)) → ForSome (content_while ended told) (λ kept. IfOk result (λ r. r ≡ y kept))
told-answer {X} result x y ended told held may sound is same = λ kept e.
    let k = known ended told held may kept sound e in
    subst (λ (r : Result X KeepFault). IfOk r (λ v. v ≡ y kept)) (sym is) (if-answered ended x (y kept) (same k.bytes k.on.is_held ∙ ap y k.same))

-- ---- what a stop leaves of a call that reads

pub leaves-same : (ended : Bool) (told : Option (List ℕ)) (held : HeldTables) (may leaves : List ℕ → Type 0) → IsSound told may held ended
    → ((image : List ℕ) → leaves image → may image) → LeavesOne (content_while ended told) (LeavesKept leaves)
leaves-same ended told held may leaves sound more = λ kept e found left.
    let k = known ended told held may kept sound e in
    left.2 ∙ ap kept_on (k.on.alone left.0 (more left.0 left.1)) ∙ held-kept held may k.bytes k.on ∙ ap (λ (x : Kept). Some x) k.same

-- tables that were sound stay so where a stop leaves no more
pub sound-still : (ended : Bool) (told tells : Option (List ℕ)) (held : HeldTables) (may now : List ℕ → Type 0) → IsSound told may held ended
    → tells ≡ told → ((image : List ℕ) → now image → may image) → IsSound tells now held ended
sound-still ended told tells held may now sound same more = λ goes bytes is.
    let on = sound goes bytes (sym same ∙ is) in
    record { is_held = on.is_held; closed = on.closed; alone = λ image left. on.alone image (more image left); within = on.within }

-- ---- counts

pub rose-refused : (faults refused : ℕ) → Rose (counted faults refused) (counted faults (count_up refused))
rose-refused faults refused = elim (cases_lt (faults + refused) (2 ^ 64 - 1)) [
  | inl lt ↦ inl (omega arith)
  | inr le ↦ inr (omega arith, omega arith)
]

rose-more : (faults now refused : ℕ) → faults < now → Rose (counted faults refused) (counted now refused)
rose-more faults now refused more = elim (cases_lt (faults + refused) (2 ^ 64 - 1)) [
  | inl lt ↦ inl (omega arith)
  | inr le ↦ inr (omega arith, omega arith)
]

pub rose-counted : (faults now refused : ℕ) → Rose faults now → Rose (counted faults refused) (counted now refused)
rose-counted faults now refused (inl more) = rose-more faults now refused more
rose-counted faults now refused (inr end) = let a = end.0 in let b = end.1 in inr (omega arith, omega arith)
