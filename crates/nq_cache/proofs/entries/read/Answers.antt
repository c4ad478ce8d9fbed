use Rattle.std.proofs.Common.{sym, ◌∙◌}
use Rattle.nq_cache.proofs.Kept.{found_body-entries}
use Rattle.nq_cache.proofs.KeyLaws.{key_laws}
use Rattle.nq_cache.proofs.entries.read.Goals as goal

pub returns : goal.returns
returns c = c.peek.ensures ∙ sym (found_body-entries _ key_laws c.args.key.now c.args.entries.now.entries)
