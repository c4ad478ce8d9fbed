-- How undisturbed writes stay so where a journal goes on.
use Rattle.std.proofs.Common.{ℕ, List, [], ◌∷◌, ◌++◌, inr}
use Rattle.nq_base.specs.declared.Entry.{Entry}
use Rattle.nq_base.specs.declared.Who.{Who}
use Rattle.nq_model.specs.laws.Journal.{Each}
use Rattle.nq_model.specs.laws.Undisturbed.{LeavesAlone, IsUndisturbed}

-- more entries that leave them alone
pub undisturbed-more : (who : Who) (file block number : ℕ) (es journal : List Entry) → Each (LeavesAlone who file) es
    → IsUndisturbed who file block number journal → IsUndisturbed who file block number (es ++ journal)
undisturbed-more who file block number [] journal a u = u
undisturbed-more who file block number (e ∷ es) journal a u = inr (a.0, undisturbed-more who file block number es journal a.1 u)
