-- The bodies that a server's side keeps in memory alone.
use Rattle.std.specs.Prelude.{ℕ, not, List, ◌∷◌, take, filter, Option}
use Rattle.std.specs.Map.{lookup}
use Rattle.nq_stage.specs.declared.messages.Written.{Written}
use Rattle.nq_stage.specs.Writes.{is_same}

-- the most bodies that are kept
abbrev pub most_bodies : ℕ
most_bodies = 1024

-- the boot, and the bodies that were staged in it, each with the write that it is of: the newest first
pub record Bodies : Type 0 where
  pub boot : ℕ
  pub bodies : List (Written × List ℕ)

-- the bodies of other writes
abbrev pub others : Written → List (Written × List ℕ) → List (Written × List ℕ)
others w bodies = filter (λ b. not (is_same w b.0)) bodies

-- a body goes in front, and one of its own write goes; of so many bodies the oldest ones go
abbrev pub with_body_of : (most : ℕ) → Written → (body : List ℕ) → List (Written × List ℕ) → List (Written × List ℕ)
with_body_of most w body bodies = take most ((w, body) ∷ others w bodies)

-- the same, where there may be 1024
unfoldable pub with_body : Written → (body : List ℕ) → List (Written × List ℕ) → List (Written × List ℕ)
with_body w body bodies = with_body_of most_bodies w body bodies

-- the body of a write, if it is kept
abbrev pub body_of : Written → List (Written × List ℕ) → Option (List ℕ)
body_of w bodies = lookup (is_same w) bodies
