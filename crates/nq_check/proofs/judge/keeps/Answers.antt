use Rattle.std.proofs.Common.{◌+◌, ap, reverse, sym, take, ◌∙◌}
use Rattle.std.proofs.lemmas.List.{take_rest}
use Rattle.nq_model.specs.laws.OrderedTest.{is_in_order}
use Rattle.nq_check.proofs.judge.keeps.Goals as goal

pub returns-then-place-front_of : goal.returns-then-place-front_of
returns-then-place-front_of c =
    let kept = c.front_of.ensures c.args.whole.now c.requires.fronts in
    sym (kept c.args.place c.args.entry.now c.if-place-front_of.true c.requires.there.1)

pub is_legal-requires-clause-known : goal.is_legal-requires-clause-known
is_legal-requires-clause-known c = record {
  tables = c.requires.tables;
  accounted = c.requires.fronts.accounted;
  stored = c.requires.fronts.stored;
}

pub returns-in-Legal : goal.returns-in-Legal
returns-in-Legal c = rw c.in-Legal.is c.is_legal.ensures

pub returns-in-Ordered : goal.returns-in-Ordered
returns-in-Ordered c =
    let whole = c.args.whole.now in
    let place = c.args.place in
    rw c.in-Ordered.is (c.is_in_order.ensures
    ∙ ap (λ l. is_in_order (reverse whole) l c.args.entry.now (reverse (take place whole))) (take_rest whole (place + 1)))

pub returns-in-Accounted : goal.returns-in-Accounted
returns-in-Accounted c = rw c.in-Accounted.is c.is_accounted_at.ensures

pub returns-in-Synchronized : goal.returns-in-Synchronized
returns-in-Synchronized c = rw c.in-Synchronized.is c.is_kept_at.ensures
