use Rattle.std.proofs.Common.{sym, ◌∙◌}
use Rattle.nq_lease.proofs.Fencing.{due-there, due-told}
use Rattle.nq_lease.proofs.expire.ending.end_writing.Goals as goal

pub unreachable-requires : goal.unreachable-requires
unreachable-requires g c = due-there c.args.key c.args.now c.args.table.now.rows c.requires (sym c.row.ensures ∙ c.in_default.is)

pub returns-clause-fence : goal.returns-clause-fence
returns-clause-fence g c = due-told c.args.key c.args.now c.args.table.now.rows c.in-Some.row c.told_of.result c.requires (sym c.row.ensures
    ∙ c.in-Some.is) c.told_of.ensures
