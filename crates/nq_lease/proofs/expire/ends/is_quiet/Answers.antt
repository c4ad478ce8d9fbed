use Rattle.std.proofs.Common.{◌<◌, sym, ◌∙◌, arith}
use Rattle.std.proofs.lemmas.Bool.Decides.{nat_tests}
use Rattle.nq_lease.proofs.Quiet.{all-after-none, all-after, none-due, none-over}
use Rattle.nq_lease.proofs.expire.ends.is_quiet.Goals as goal

pub returns-in-None-clause-due : goal.returns-in-None-clause-due
returns-in-None-clause-due c = λ t.
    none-due c.args.now c.args.table.now.rows (all-after-none c.args.now c.args.table.now.rows (sym c.earliest.ensures ∙ c.in-None.is))

pub returns-in-None-clause-over : goal.returns-in-None-clause-over
returns-in-None-clause-over c = λ t.
    none-over c.args.now c.args.table.now.rows (all-after-none c.args.now c.args.table.now.rows (sym c.earliest.ensures ∙ c.in-None.is))

pub returns-in-Some-clause-due : goal.returns-in-Some-clause-due
returns-in-Some-clause-due c = λ t.
    let later : c.args.now < c.in-Some.end = grind (arith, nat_tests) in
    none-due c.args.now c.args.table.now.rows (all-after c.args.now c.in-Some.end c.args.table.now.rows (sym c.earliest.ensures ∙ c.in-Some.is) later)

pub returns-in-Some-clause-over : goal.returns-in-Some-clause-over
returns-in-Some-clause-over c = λ t.
    let later : c.args.now < c.in-Some.end = grind (arith, nat_tests) in
    none-over c.args.now c.args.table.now.rows (all-after c.args.now c.in-Some.end c.args.table.now.rows (sym c.earliest.ensures ∙ c.in-Some.is) later)
