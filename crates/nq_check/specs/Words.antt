-- The short names of the rules, as they are printed.
use Rattle.std.specs.Prelude.{ℕ, List, codes}
use Rattle.nq_check.specs.declared.rules.Rule.{Rule}
use Rattle.nq_check.specs.declared.rules.Rule.TheVariants.{Legal, Ordered, Accounted, Reported, Synchronized}

abbrev pub word_of : Rule → List ℕ
word_of Legal = codes "D5"
word_of Ordered = codes "D7"
word_of Accounted = codes "D8"
word_of Reported = codes "D10"
word_of Synchronized = codes "D11"
