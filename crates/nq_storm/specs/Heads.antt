-- The head of a storm's schedule.
use Rattle.std.specs.Prelude.{[], ◌∷◌, codes}
use Rattle.nq_script.specs.declared.heads.Head.{Head}

-- the head: version 1, four hosts that ask for 30 ticks, and two files of four blocks
abbrev pub storm_head : Head
storm_head = record { version = 1; hosts = 4; term = 30; longest = 60; files = (codes "a", 4) ∷ (codes "b", 4) ∷ [] }
