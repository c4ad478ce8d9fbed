use Rattle.std.proofs.Common.{sym, ◌∙◌}
use Rattle.nq_check.proofs.Storing.{none_stored}
use Rattle.nq_check.proofs.stored.is_covered.Goals as goal

pub returns-then-not-is_delayed : goal.returns-then-not-is_delayed
returns-then-not-is_delayed c = none_stored c.args.whole.now c.args.entry.now (sym c.is_delayed.ensures ∙ c.if-not-is_delayed.true)
