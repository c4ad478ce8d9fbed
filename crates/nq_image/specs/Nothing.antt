-- The image in which nothing is kept.
use Rattle.std.specs.Prelude.{ℕ, List, [], ◌∷◌, replicate}
use Rattle.nq_model.specs.protocol.Kept.{Kept, fresh_row}

-- what a server keeps that never booted
unfoldable pub nothing_kept : Kept
nothing_kept = record { files = []; hosts = replicate 64 fresh_row; boot = 0; opened = 0; longest = 60; next = 1 }

-- the first bytes of its image: the name, and the numbers of the server. Zeros follow
abbrev pub first_of_nothing : List ℕ
first_of_nothing = 78 ∷ 81 ∷ 78 ∷ 70 ∷ 83 ∷ 73 ∷ 77 ∷ 50 ∷ 0 ∷ 0 ∷ 0 ∷ 0 ∷ 0 ∷ 0 ∷ 0 ∷ 0 ∷ 0 ∷ 0 ∷ 0 ∷ 60 ∷ 0 ∷ 0 ∷ 0 ∷ 1 ∷ []
