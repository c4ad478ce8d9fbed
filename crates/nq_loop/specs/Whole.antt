-- The head of the schedule of a loop.
use Rattle.std.specs.Prelude.{ℕ, [], ◌∷◌, codes}
use Rattle.nq_script.specs.declared.heads.Head.{Head}

-- the head: version 1, so many hosts that ask for 30 ticks, and a file with a block for each of them
abbrev pub loop_head : (hosts : ℕ) → Head
loop_head hosts = record { version = 1; hosts = hosts; term = 30; longest = 60; files = (codes "loop", hosts) ∷ [] }
