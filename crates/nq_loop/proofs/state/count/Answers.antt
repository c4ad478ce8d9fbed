use Rattle.std.proofs.Common.{◌≡◌, ◌<◌, ◌∙◌, ◌+◌, ◌∷◌, length, ap, subst, sym}
use Rattle.std.specs.Prelude.{min, slice_index_or, slice_set}
use Rattle.nq_base.specs.declared.Event.{Event}
use Rattle.nq_loop.proofs.Calls.{counts-more}
use Rattle.nq_loop.specs.Counting.{Counts, HasCount}
use Rattle.nq_loop.proofs.state.count.Goals as goal

pub returns-in-Call-clause-counts : goal.returns-in-Call-clause-counts
returns-in-Call-clause-counts c = λ events counts.
    let items = c.args.begun.now.items in
    let host = c.in-Call.host in
    let there : host < length items = subst (HasCount (length items)) c.in-Call.is c.requires in
    let new : c.count_one.new.begun.items ≡ slice_set items host (min (slice_index_or items host 0 + 1) 3) = c.count_one.ensures
    ∙ ap (λ h. slice_set items h (min (slice_index_or items h 0 + 1) 3)) c.host.view_is in
    subst (λ e. Counts c.count_one.new.begun.items (e ∷ events)) (sym c.in-Call.is) (subst (λ b. Counts b (Event.Call host c.in-Call.call ∷ events))
    (sym new) (counts-more items host c.in-Call.call events there counts))
