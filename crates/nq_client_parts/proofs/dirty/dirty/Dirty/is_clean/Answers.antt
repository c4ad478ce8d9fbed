use Rattle.std.proofs.Common.{sym, ◌∙◌, ap, not}
use Rattle.nq_client_parts.proofs.OfEntries.{any_of_file}
use Rattle.nq_client_parts.proofs.dirty.dirty.Dirty.is_clean.Goals as goal

pub returns-then-not-has_file : goal.returns-then-not-has_file
returns-then-not-has_file c =
    let none = any_of_file c.args.file c.self.inside.entries.entries ∙ sym c.if-not-has_file.ensures in
    rw (← c.self.view_is) (rw none (ap not c.is_of.ensures))

pub returns-else-not-has_file : goal.returns-else-not-has_file
returns-else-not-has_file c =
    let some = any_of_file c.args.file c.self.inside.entries.entries ∙ sym c.if-not-has_file.ensures in
    rw (← c.self.view_is) (rw some (ap not c.if-not-has_file.false))
