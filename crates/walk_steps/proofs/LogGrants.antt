-- What the timed entries say of grants: their terms and tags, and the rows that stand by them.
use Rattle.std.proofs.Common.{◌≡◌, ℕ, Option, Some, None, refl, ap}
use Rattle.nq_base.specs.declared.Question.{Question}
use Rattle.nq_base.specs.declared.Row.{Row}
use Rattle.nq_base.specs.declared.Want.{Want}
use Rattle.nq_model.specs.protocol.Ask.{sharing_row, caching_row, shared_again, renewed_row}
use Rattle.nq_model.specs.protocol.Kept.{File, Kept, with_files}
use Rattle.nq_model.specs.protocol.ServerStep.{fence}
use Rattle.nq_model.specs.protocol.Table.{Table, next_tag}
use Rattle.walk_steps.proofs.AskCases.{IsGranted, shares_again, begins_sharing, begins_caching, renews_row}

-- each granted row has the tag that is drawn next, and is granted for the longest term at most
pub granted-tag : (table : Table) (q : Question) (want : Want) (row : Row) (term : ℕ) → IsGranted table q want row term → row.tag ≡ next_tag table
unfolding sharing_row caching_row shared_again renewed_row
granted-tag table q want row term (shares_again own found stays shares is lasts) = ap (λ r. r.tag) is
granted-tag table q want row term (begins_sharing none room shared is lasts) = ap (λ r. r.tag) is
granted-tag table q want row term (begins_caching none room shared is lasts) = ap (λ r. r.tag) is
granted-tag table q want row term (renews_row own found stays caching is lasts) = ap (λ r. r.tag) is

pub fence-opened : (kept : Kept) (o : Option File) → (fence kept o).opened ≡ kept.opened
unfolding with_files
fence-opened kept None = refl
fence-opened kept (Some f) = refl
