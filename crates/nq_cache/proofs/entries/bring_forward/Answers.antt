use Rattle.std.proofs.Common.{◌∙◌, ap, length}
use Rattle.nq_cache.specs.Entries.{clean_blocks}
use Rattle.nq_cache.proofs.Kept.{promoted-entries, length-promoted}
use Rattle.nq_cache.proofs.KeyLaws.{key_laws}
use Rattle.nq_cache.proofs.entries.bring_forward.Goals as goal

pub returns-clause-order : goal.returns-clause-order
returns-clause-order c =
    ap (λ x. clean_blocks x.entries) c.promote.ensures.entries
    ∙ promoted-entries _ key_laws c.args.key.now c.args.entries.now.entries c.len-distinct.ensures.valid.0

pub returns-clause-count : goal.returns-clause-count
returns-clause-count c =
    ap (λ x. length x.entries) c.promote.ensures.entries ∙ length-promoted _ key_laws c.args.key.now c.args.entries.now.entries
