-- A disk that is only asked.
use Rattle.std.proofs.Common.{◌≡◌, ◌⊎◌, ℕ, List, Option, refl, ◌∙◌}
use Rattle.nq_disk.specs.Calling.{LeavesNoMore}
use Rattle.nq_store.specs.Loading.{OnlyAsked}
use Rattle.nq_store.proofs.Told.{no-more}

module _ {D : Type 0} (told : D → Option (List ℕ)) (goes : D → D → Type 0) (may : D → List ℕ → Type 0) (left : D → D → List ℕ → Type 0) where
  -- no call
  pub asked-none : ((disk : D) → goes disk disk) → ((disk : D) (image : List ℕ) → left disk disk image → may disk image) → (disk : D)
      → OnlyAsked told goes may left disk disk
  asked-none itself now disk = record { same = refl; follows = itself disk; leaves = now disk }

  -- one call
  pub asked-by : (first last : D) → told last ≡ told first → goes first last → LeavesNoMore (may first) (left first last) → OnlyAsked told goes may
      left first last
  asked-by first last same follows leaves = record { same = same; follows = follows; leaves = leaves }

  -- calls behind others
  pub asked-then : ((first middle last : D) → goes first middle → goes middle last → goes first last)
      → ((first last : D) (image : List ℕ) → goes first last → may first image ⊎ may last image → left first last image)
      → ((first middle last : D) (image : List ℕ) → goes first middle → goes middle last → left first last image → left first middle image
      ⊎ left middle last image)
      → (first middle last : D) → OnlyAsked told goes may left first middle → OnlyAsked told goes may left middle last → OnlyAsked told goes may left
      first last
  asked-then on ends parts first middle last one two = record {
    same = two.same ∙ one.same;
    follows = on first middle last one.follows two.follows;
    leaves = no-more goes may left ends parts first middle last one.follows two.follows one.leaves two.leaves;
  }
