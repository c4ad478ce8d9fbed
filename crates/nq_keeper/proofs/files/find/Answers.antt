use Rattle.std.proofs.Common.{sym, ◌∙◌}
use Rattle.nq_keeper.proofs.Places.{found-at, none-at}
use Rattle.nq_keeper.proofs.files.find.Goals as goal

pub returns-then-has_id-clause-within : goal.returns-then-has_id-clause-within
returns-then-has_id-clause-within c =
    (found-at c.args.id c.args.files.now c.place_of-place.result c.requires c.place_of-place.ensures (sym c.has_id.ensures ∙ c.if-has_id.true)).1

pub returns-then-has_id-clause-found : goal.returns-then-has_id-clause-found
returns-then-has_id-clause-found c =
    (found-at c.args.id c.args.files.now c.place_of-place.result c.requires c.place_of-place.ensures (sym c.has_id.ensures ∙ c.if-has_id.true)).0

pub returns-else-has_id-clause-none : goal.returns-else-has_id-clause-none
returns-else-has_id-clause-none c =
    none-at c.args.id c.args.files.now c.place_of-place.result c.requires c.place_of-place.ensures (sym c.has_id.ensures ∙ c.if-has_id.false)
