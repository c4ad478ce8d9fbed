-- The laws of a keeper, of one in memory.
use Rattle.std.proofs.Common.{◌≤◌, ◌≡◌, ◌⊎◌, Option, Some, refl, sym, subst, ◌∙◌, inl, inr, arith}
use Rattle.nq_keeper.specs.StoredKeeper.{StoredKeeper, GoesOn, LeavesEither, told_of}
use Rattle.nq_keeper.specs.Bounds.{told-within}
use Rattle.nq_model.specs.protocol.Change.{IsWithinBounds}
use Rattle.nq_model.specs.protocol.Kept.{Kept}

pub told-is-within : (keeper : StoredKeeper) (kept : Kept) → Some (told_of keeper.kept) ≡ Some kept → IsWithinBounds kept
told-is-within keeper kept e = let same : told_of keeper.kept ≡ kept = cc in subst IsWithinBounds same (told-within keeper.kept)

pub goes-on-itself : (keeper : StoredKeeper) → GoesOn keeper keeper
goes-on-itself keeper = record { stays = refl; rises = omega arith; never = λ none. refl }

pub goes-on-further : (first second third : StoredKeeper) → GoesOn first second → GoesOn second third → GoesOn first third
goes-on-further first second third one two =
    let a = one.rises in
    let b = two.rises in
    record {
      stays = two.stays ∙ one.stays;
      rises = omega arith;
      never = λ none. two.never (one.stays ∙ none) ∙ one.never none;
    }

pub faults-rise : (first last : StoredKeeper) → GoesOn first last → first.calls.faults ≤ last.calls.faults
faults-rise first last goes = goes.rises

pub may-leave : (first last : StoredKeeper) (kept : Kept) → GoesOn first last → (Some (told_of first.kept) ≡ Some kept)
    ⊎ (Some (told_of last.kept) ≡ Some kept) → LeavesEither first last (Some kept)
may-leave first last kept goes (inl e) = inl (sym e)
may-leave first last kept goes (inr e) = inr (sym e)

pub leaves-parts : (first middle last : StoredKeeper) (found : Option Kept) → GoesOn first middle → GoesOn middle last → LeavesEither first last found
    → LeavesEither first middle found ⊎ LeavesEither middle last found
leaves-parts first middle last found one two (inl left) = inl (inl left)
leaves-parts first middle last found one two (inr left) = inr (inr left)
