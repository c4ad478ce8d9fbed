use Rattle.std.proofs.Common.{sym, ap, ◌∙◌}
use Rattle.std.specs.List.{prefix_len, slice_get}
use Rattle.nq_keeper.specs.InOrder.{is_upto}
use Rattle.nq_keeper.proofs.Places.{after-at}
use Rattle.nq_model.specs.protocol.Change.{file_after, row_of_found}
use Rattle.nq_keeper.proofs.files.Files.row_after.Goals as goal

pub returns : goal.returns
returns c =
    c.row_at.ensures
    ∙ ap (λ files. row_of_found (slice_get files c.place_behind-place.result)) c.as_slice-2.ensures.value
    ∙ ap (λ place. row_of_found (slice_get c.self.inside.stored.items place)) (c.place_behind-place.ensures ∙ ap (prefix_len (is_upto c.args.id))
    c.as_slice.ensures.value)
    ∙ ap row_of_found (sym (after-at c.args.id c.self.inside.stored.items))
    ∙ ap (λ files. row_of_found (file_after c.args.id files)) c.self.view_is
