-- What playing over a world with leased directories comes to. Below, `told` is what the world's keeper tells of its content, and `text` is
-- what was found, as text.
use Rattle.std.specs.Prelude.{◌≡◌, ℕ, List, Option}
use Rattle.nq_model.specs.protocol.Kept.{Kept}
use Rattle.nq_model.specs.protocol.World.{Head}
use Rattle.nq_names.specs.Playing.{NamesOver, PlaysOutside}
use Rattle.nq_naming.specs.Finding.{FindsAreTrue, lines_of}
use Rattle.nq_naming.specs.Playing.{Moment}

-- A world has come to this moment: it plays the run with lists of its events, the text says what was found, and each find is true.
pub record IsAtMoment {K : Type 0} (head : Head) (m : Moment) (w : NamesOver K) (told : Option Kept) (text : List ℕ) : Type 0 where
  pub plays : PlaysOutside head m.events w told
  pub said : text ≡ lines_of head m.finds
  pub finds : FindsAreTrue head m
