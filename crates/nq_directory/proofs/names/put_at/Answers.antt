use Rattle.std.proofs.Common.{◌∙◌, sym, ap, subst, arith}
use Rattle.std.specs.List.{insert}
use Rattle.std.proofs.lemmas.List.Sums.{prefix_len-le-length}
use Rattle.nq_directory.specs.Names.{AreInOrder, is_before}
use Rattle.nq_directory.proofs.Order.{put-at, put-in-order}
use Rattle.nq_directory.proofs.names.put_at.Goals as goal

pub insert_at-requires-clause-place : goal.insert_at-requires-clause-place
insert_at-requires-clause-place c =
    let within = prefix_len-le-length (is_before c.args.entry.now.name) c.args.names.now.items in
    let is = c.requires.place in
    omega arith

pub returns-clause-items : goal.returns-clause-items
returns-clause-items c =
    c.insert_at.ensures.items ∙ ap (λ p. insert c.args.names.now.items p c.args.entry.now) c.requires.place
    ∙ sym (put-at c.args.entry.now c.args.names.now.items)

pub returns-clause-order : goal.returns-clause-order
returns-clause-order c =
    subst AreInOrder (put-at c.args.entry.now c.args.names.now.items ∙ ap (λ p. insert c.args.names.now.items p c.args.entry.now)
    (sym c.requires.place) ∙ sym c.insert_at.ensures.items) (put-in-order c.args.entry.now c.args.names.now.items c.requires.order)
