use Rattle.std.proofs.Common.{ap, sym, ◌∙◌}
use Rattle.std.specs.List.{slice_get}
use Rattle.nq_lease.proofs.Times.{first_time, first-is-earliest}
use Rattle.nq_lease.proofs.table.Table.earliest.Goals as goal

pub returns : goal.returns
returns c =
    let least = first-is-earliest _ _ c.self.invariant.are_ends in
    let read = c.copied.ensures ∙ c.first.ensures.value ∙ ap (λ l. slice_get l 0) c.deref.ensures.value in
    rw (← c.self.view_is) (ap first_time (sym c.in_ok-first.was ∙ read) ∙ least)

pub returns-in_err-first : goal.returns-in_err-first
returns-in_err-first c =
    let least = first-is-earliest _ _ c.self.invariant.are_ends in
    let read = c.copied.ensures ∙ c.first.ensures.value ∙ ap (λ l. slice_get l 0) c.deref.ensures.value in
    rw (← c.self.view_is) (c.from_residual.ensures ∙ ap first_time (sym c.in_err-first.was ∙ read) ∙ least)
