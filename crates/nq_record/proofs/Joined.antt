use Rattle.std.proofs.Common.{◌≡◌, ℕ, List, [], ◌++◌, append-nil}

-- nothing behind a text leaves it as it is
pub ended : (text : List ℕ) → text ++ [] ≡ text
ended text = append-nil text
