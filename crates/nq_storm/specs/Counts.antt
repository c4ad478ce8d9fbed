-- The counts of a storm.
use Rattle.std.specs.Fmt.{decimal}
use Rattle.std.specs.Prelude.{ℕ, Bool, true, false, List, ◌++◌, codes}
use Rattle.nq_base.specs.declared.Entry.{Entry}

-- whether an entry tells a loss
unfoldable pub is_loss : Entry → Bool
is_loss (Entry.L who file block first last) = true
is_loss other = false

-- the line that counts events, packets and losses
unfoldable pub storm_line : (events packets lost : ℕ) → List ℕ
storm_line events packets lost =
    codes "storm events " ++ (decimal events ++ (codes " packets " ++ (decimal packets ++ (codes " lost " ++ (decimal lost ++ codes "\n")))))
