use Rattle.std.proofs.Common.{sym, ◌∙◌}
use Rattle.nq_client_parts.proofs.OfEntries.{is_there}
use Rattle.nq_client_parts.proofs.dirty.entries.holds.Goals as goal

pub returns : goal.returns
returns c = c.contains_key.ensures ∙ sym (is_there c.args.key.now c.args.entries.now.entries)
