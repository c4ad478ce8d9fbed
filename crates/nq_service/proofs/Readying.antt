-- Making a disk ready to be opened.
use Rattle.std.proofs.Common.{◌≡◌, ℕ, List, [], Option, length}
use Rattle.std.specs.Option.{ForSome}
use Rattle.nq_disk.specs.Calling.{LeavesNoMore}
use Rattle.nq_service.specs.Opening.{IsReady}

module _ {D : Type 0} (told : D → Option (List ℕ)) (faults : D → ℕ) (may_leave : D → List ℕ → Type 0) (follows : D → D → Type 0)
    (leaves : D → D → List ℕ → Type 0) (disk : D) where
  -- it has bytes
  pub sized : (later : D) (size : ℕ) → follows disk later → told later ≡ told disk → LeavesNoMore (may_leave disk) (leaves disk later)
      → faults later ≡ faults disk → ForSome (told disk) (λ bytes. size ≡ length bytes) → (size ≡ 0 → ⊥)
      → IsReady told faults may_leave follows leaves disk later
  sized later size goes same no_more counts is some = record {
    same = goes;
    stays = λ bytes told_is more. (same, no_more);
    made = λ none. absurd (some (is [] none));
    counts = counts;
  }
