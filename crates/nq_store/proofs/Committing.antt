-- A change is kept whole, or nothing of it.
use Rattle.std.proofs.Common.{◌≡◌, ◌⊎◌, ℕ, List, Option, Some, None, length, refl, sym, ap, subst, ◌∙◌, inl, inr, arith}
use Rattle.std.specs.List.{All}
use Rattle.std.specs.Option.{ForSome}
use Rattle.nq_base.specs.declared.Change.{Change}
use Rattle.nq_plan.specs.Standing.{image_area}
use Rattle.nq_image.specs.Standing.{Agree, IsFree, Standing, kept_at}
use Rattle.nq_keeper.specs.Keeping.{LeavesTwo, told_after}
use Rattle.nq_model.specs.protocol.Change.{Fits, IsChangeWithin, IsWithinBounds, applied}
use Rattle.nq_model.specs.protocol.Kept.{Kept}
use Rattle.nq_model.proofs.WithinBounds.{within-applied}
use Rattle.nq_plan.specs.Held.{HeldTables}
use Rattle.nq_plan.specs.Placing.{IsPlacedFor}
use Rattle.nq_plan.specs.Ranges.{ranges_of}
use Rattle.nq_plan.specs.Settling.{settled}
use Rattle.nq_plan.specs.declared.placing.Placed.{Placed}
use Rattle.nq_disk.specs.Batch.{IsFit}
use Rattle.nq_disk.specs.Ranges.{Range}
use Rattle.nq_disk.specs.Saying.{Each}
use Rattle.nq_disk.specs.Whole.{Settled, after}
use Rattle.nq_store.specs.Changing.{CanBeWritten, IsWritten, new_blocks, zeroed}
use Rattle.nq_store.specs.Storing.{IsKeptOn, IsReady, LeavesKept, OpensWhole, kept_on, kept_told}
use Rattle.nq_image.proofs.Agreeing.{agree-kept, agree-stands}
use Rattle.nq_store.proofs.Fitting.{change-fits}
use Rattle.nq_store.proofs.ImagesZeroing.{all-zeros, zeroed-agrees}
use Rattle.nq_store.proofs.ImagesOpening.{change-settled, change-stands, closed-stands}
use Rattle.nq_store.proofs.Seats.{new-are-free}
use Rattle.nq_store.proofs.Keeping.{held-kept, known, stands-kept}

-- nothing is told, or something
pub is-told : (told : Option (List ℕ)) → (told ≡ None) ⊎ ((bytes : List ℕ) × (told ≡ Some bytes))
is-told None = inl refl
is-told (Some bytes) = inr (bytes, refl)

one-told : (a b : List ℕ) (o : Option (List ℕ)) → o ≡ Some a → o ≡ Some b → a ≡ b
one-told a b o one two = cc

module _ (held : HeldTables) (change : Change) (placed : Option Placed) (may : List ℕ → Type 0) (is_placed : IsPlacedFor held change.file placed) where
  abbrev s : Standing
  s = held.standing

  abbrev fresh : List ℕ
  fresh = new_blocks placed

  abbrev ranges : List Range
  ranges = ranges_of held.standing change placed

  module _ (old : List ℕ) (on : IsKeptOn held may old) (fits : Fits (kept_at old s) change) (own : IsChangeWithin (kept_at old s) change) where
    free : All (IsFree s) fresh
    free = new-are-free old held on.is_held change.file placed is_placed

    pub ready : IsReady s fresh may old
    ready = record { stands = on.is_held.stands; closed = on.closed; alone = on.alone; free = free }

    agrees : Agree s old (zeroed fresh old)
    agrees = zeroed-agrees fresh old s on.is_held.stands free

    same : kept_at (zeroed fresh old) s ≡ kept_at old s
    same = agree-kept s old (zeroed fresh old) agrees.blocks

    can : CanBeWritten (zeroed fresh old) held change placed
    can = record {
      is_held = record { stands = agree-stands s old (zeroed fresh old) on.is_held.stands agrees; marks = on.is_held.marks };
      fits = subst (λ (k : Kept). Fits k change) (sym same) fits;
      within = subst (λ (k : Kept). IsChangeWithin k change) (sym same) own;
      is_placed = is_placed;
      zeros = all-zeros fresh old;
    }

    pub is-fit : IsFit image_area (length (zeroed fresh old)) ranges
    is-fit = change-fits (zeroed fresh old) held change placed can

    within-then : IsWithinBounds (applied (kept_at old s) change)
    within-then = within-applied (kept_at old s) change on.within fits own

    -- after it the tables are those of the image of the changed state
    module _ (tells : Option (List ℕ)) (then : List ℕ → Type 0) (so : Settled image_area (after image_area ranges (zeroed fresh old)) tells then) where
      written : IsWritten (zeroed fresh old) so.now held change placed
      written = change-settled (zeroed fresh old) held change placed can so.now so.closed so.opens

      kept-then : kept_at so.now (settled held change placed).standing ≡ applied (kept_at old s) change
      kept-then = written.kept ∙ ap (λ (k : Kept). applied k change) same

      pub on-then : IsKeptOn (settled held change placed) then so.now
      on-then = record {
        is_held = written.is_held;
        closed = so.closed;
        alone = so.alone;
        within = subst IsWithinBounds (sym kept-then) within-then;
      }

      pub tells-then : kept_told tells ≡ Some (applied (kept_at old s) change)
      tells-then =
          ap kept_told so.tells
          ∙ held-kept (settled held change placed) then so.now on-then
          ∙ ap (λ (k : Kept). Some k) kept-then

    -- whatever a stop leaves of it stands for the state before or after
    pub stands-either : (image : List ℕ) → OpensWhole s ranges old (zeroed fresh old) image → (kept_on image ≡ Some (kept_at old s))
        ⊎ (kept_on image ≡ Some (applied (kept_at old s) change))
    stands-either image (inl before) =
        let mid = before.0 in
        let still = before.1 in
        let opens = before.2 in
        let long = still.closed.long in
        let more = opens.0 in
        let kept = agree-kept s old mid still.agree.blocks in
        let stands = closed-stands mid image s (agree-stands s old mid on.is_held.stands still.agree) still.closed (omega arith) opens.1 in
        inl (stands-kept image (kept_at mid s) stands (subst IsWithinBounds (sym kept) on.within) ∙ ap (λ (k : Kept). Some k) kept)
    stands-either image (inr behind) =
        let long = agrees.blocks.no_shorter in
        let first = on.closed.long in
        let more = behind.0 in
        let done = ap (λ (k : Kept). applied k change) same in
        let stands = change-stands (zeroed fresh old) held change placed can image (omega arith) behind.1 in
        inr (stands-kept image (applied (kept_at (zeroed fresh old) s) change) stands (subst IsWithinBounds (sym done) within-then)
        ∙ ap (λ (k : Kept). Some k) done)

  -- ---- over a disk that tells its bytes, or does not

  module _ (told : Option (List ℕ)) (sound : ForSome told (IsKeptOn held may)) (fits : ForSome (kept_told told) (λ k. Fits k change))
      (own : ForSome (kept_told told) (λ k. IsChangeWithin k change)) where
    tells-kept : (old : List ℕ) → told ≡ Some old → kept_told told ≡ Some (kept_at old s)
    tells-kept old is = ap kept_told is ∙ held-kept held may old (sound old is)

    abbrev pub SettlesSo : Option (List ℕ) → (List ℕ → Type 0) → Type 0
    SettlesSo tells then = (old : List ℕ) → told ≡ Some old → IsReady s fresh may old → IsFit image_area (length (zeroed fresh old)) ranges
        → Settled image_area (after image_area ranges (zeroed fresh old)) tells then

    pub sound-then : (tells : Option (List ℕ)) (then : List ℕ → Type 0) → (told ≡ None → tells ≡ None) → SettlesSo tells then
        → ForSome tells (IsKeptOn (settled held change placed) then)
    sound-then tells then silent settles = λ bytes is. elim (is-told told) [
      | inl none ↦ (let nothing = silent none in absurd (cc))
      | inr t ↦
          let old = t.0 in
          let on = sound old t.1 in
          let f = fits (kept_at old s) (tells-kept old t.1) in
          let o = own (kept_at old s) (tells-kept old t.1) in
          let so = settles old t.1 (ready old on f o) (is-fit old on f o) in
          subst (λ (b : List ℕ). IsKeptOn (settled held change placed) then b) (one-told so.now bytes tells so.tells is) (on-then old on f o tells then so)
    ]

    pub told-then : (tells : Option (List ℕ)) (then : List ℕ → Type 0) → (told ≡ None → tells ≡ None) → SettlesSo tells then → kept_told tells
        ≡ told_after change (kept_told told)
    told-then tells then silent settles = elim (is-told told) [
      | inl none ↦ ap kept_told (silent none) ∙ sym (ap (λ (o : Option (List ℕ)). told_after change (kept_told o)) none)
      | inr t ↦
          let old = t.0 in
          let on = sound old t.1 in
          let f = fits (kept_at old s) (tells-kept old t.1) in
          let o = own (kept_at old s) (tells-kept old t.1) in
          let so = settles old t.1 (ready old on f o) (is-fit old on f o) in
          tells-then old on f o tells then so ∙ sym (ap (told_after change) (tells-kept old t.1))
    ]

    pub leaves-then : (leaves : List ℕ → Type 0) → ((old : List ℕ) → told ≡ Some old → IsReady s fresh may old
        → IsFit image_area (length (zeroed fresh old)) ranges → Each leaves (OpensWhole s ranges old (zeroed fresh old)))
        → LeavesTwo change (kept_told told) (LeavesKept leaves)
    leaves-then leaves whole = λ kept e found left. elim (is-told told) [
      | inl none ↦ (let nothing = ap kept_told none in absurd (cc))
      | inr t ↦
          let old = t.0 in
          let on = sound old t.1 in
          let is_kept = tells-kept old t.1 in
          let f = fits (kept_at old s) is_kept in
          let o = own (kept_at old s) is_kept in
          let same : kept_at old s ≡ kept = cc in
          elim (stands-either old on f o left.0 (whole old t.1 (ready old on f o) (is-fit old on f o) left.0 left.1)) [
            | inl before ↦ inl (left.2 ∙ before ∙ ap (λ (k : Kept). Some k) same)
            | inr behind ↦ inr (left.2 ∙ behind ∙ ap (λ (k : Kept). Some (applied k change)) same)
          ]
    ]

    -- the same, said of a list of blocks and of ranges that are these
    module _ (blocks : List ℕ) (batch : List Range) (all : blocks ≡ fresh) (are : batch ≡ ranges) where
      pub settles-as : (tells : Option (List ℕ)) (then : List ℕ → Type 0) → ((old : List ℕ) → told ≡ Some old → (t : Standing) → IsReady t blocks may
          old → IsFit image_area (length (zeroed blocks old)) batch → Settled image_area (after image_area batch (zeroed blocks old)) tells then)
          → SettlesSo tells then
      settles-as tells then known = λ old is.
          let So : List ℕ → List Range → Type 0 = λ f b. IsReady s f may old → IsFit image_area (length (zeroed f old)) b
          → Settled image_area (after image_area b (zeroed f old)) tells then in
          subst (λ (b : List Range). So fresh b) are (subst (λ (f : List ℕ). So f batch) all (known old is s))

      pub whole-as : (leaves : List ℕ → Type 0) → ((old : List ℕ) → told ≡ Some old → (t : Standing) → IsReady t blocks may old
          → IsFit image_area (length (zeroed blocks old)) batch → Each leaves (OpensWhole t batch old (zeroed blocks old))) → (old : List ℕ)
          → told ≡ Some old → IsReady s fresh may old → IsFit image_area (length (zeroed fresh old)) ranges
          → Each leaves (OpensWhole s ranges old (zeroed fresh old))
      whole-as leaves known = λ old is.
          let So : List ℕ → List Range → Type 0 = λ f b. IsReady s f may old → IsFit image_area (length (zeroed f old)) b
          → Each leaves (OpensWhole s b old (zeroed f old)) in
          subst (λ (b : List Range). So fresh b) are (subst (λ (f : List ℕ). So f batch) all (known old is s))
