use Rattle.std.proofs.Common.{sym, ◌∙◌}
use Rattle.nq_lease.proofs.Within.{own-found}
use Rattle.nq_lease.proofs.grant.cases.ask_freely.Goals as goal

pub go_on-requires-clause-there : goal.go_on-requires-clause-there
go_on-requires-clause-there c =
    own-found c.args.question.now.file c.args.question.now.who.host c.in-Some-Some.own c.args.table.now.rows (sym c.requires.there ∙ c.in-Some-Some.is-1)
