use Rattle.std.proofs.Common.{ℕ, List, [], Result, Vec, Global, sym, subst, arith}
use Rattle.nq_image.specs.Check.{tested}
use Rattle.nq_image.specs.Layout.{block_place, piece}
use Rattle.nq_image.specs.Reading.{Reads}
use Rattle.nq_image.specs.Tables.{ids_checks, ids_of}
use Rattle.nq_plan.proofs.Shifting.{ids-missing, ids-there}
use Rattle.nq_plan.proofs.reading.read_all_ids.Goals as goal

pub returns-then-window-clause-told : goal.returns-then-window-clause-told
returns-then-window-clause-told c = λ bytes is.
    let start = block_place c.args.tables in
    let place = c.block_place-place.ensures in
    let short = c.if-window.true in
    ids-missing start c.args.next c.block_place-place.result c.args.slots.now bytes c.args.window.now is (omega (arith, place)) (omega (arith, short))

pub returns-clause-told : goal.returns-clause-told
returns-clause-told c = λ bytes is.
    let start = block_place c.args.tables in
    let place = c.block_place-place.ensures in
    let long = c.if-window.false in
    let Told : Result (List ℕ) ℕ → Type 0 = λ t. Reads (λ (ids : Vec ℕ Global). ids.items) c.read_ids.result t in
    let Block : List ℕ → Type 0 = λ b. Told (tested (ids_checks c.args.next c.block_place-place.result [] c.args.slots.now b) (ids_of c.args.slots.now b)) in
    subst Told (sym (ids-there start c.args.next c.block_place-place.result c.args.slots.now bytes c.args.window.now is (omega (arith, place))
    (omega (arith, long))))
    (subst Block c.piece.ensures.bytes c.read_ids.ensures.told)
