-- What it means that a test is right.
use Rattle.std.specs.Prelude.{Bool, List, IsTrue}
use Rattle.nq_base.specs.declared.Entry.{Entry}

-- a test tells a fact: it is true exactly where the fact holds
pub record Tells (test : Bool) (Fact : Type 0) : Type 0 where
  pub sound : IsTrue test → Fact
  pub complete : Fact → IsTrue test

-- a test of journals tells a law of journals
abbrev pub TellsLaw : (List Entry → Bool) → (List Entry → Type 0) → Type 0
TellsLaw test Law = (journal : List Entry) → Tells (test journal) (Law journal)
