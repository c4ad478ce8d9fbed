-- What a stop may leave, over two parts of the time.
use Rattle.std.proofs.Common.{◌≡◌, ◌⊎◌, Option, Some, inl, inr}
use Rattle.nq_model.specs.protocol.Kept.{Kept}

-- what each part leaves as it was is left as it was
pub one-of : (found : Option Kept) (kept : Kept) (A B : Type 0) → A ⊎ B → (A → found ≡ Some kept) → (B → found ≡ Some kept) → found ≡ Some kept
one-of found kept A B (inl a) f h = f a
one-of found kept A B (inr b) f h = h b

-- what the first part leaves as it was, and the second as before or after a change, is left as before or after it
pub two-of : (found : Option Kept) (kept after : Kept) (A B : Type 0) → A ⊎ B → (A → found ≡ Some kept)
    → (B → (found ≡ Some kept) ⊎ (found ≡ Some after)) → (found ≡ Some kept) ⊎ (found ≡ Some after)
two-of found kept after A B (inl a) f h = inl (f a)
two-of found kept after A B (inr b) f h = h b
