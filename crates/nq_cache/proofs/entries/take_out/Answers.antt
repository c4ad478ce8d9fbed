use Rattle.std.proofs.Common.{◌≤◌, sym, ◌∙◌, ap, subst, length}
use Rattle.nq_cache.specs.Entries.{clean_blocks}
use Rattle.nq_cache.proofs.Kept.{drop_clean-entries, length-removed}
use Rattle.nq_cache.proofs.KeyLaws.{key_laws}
use Rattle.nq_cache.proofs.entries.take_out.Goals as goal

pub returns-clause-taken : goal.returns-clause-taken
returns-clause-taken c =
    ap (λ x. clean_blocks x.entries) c.pop.ensures.entries
    ∙ sym (drop_clean-entries _ key_laws c.args.key.now c.args.entries.now.entries c.len-distinct.ensures.valid.0)

pub returns-clause-count : goal.returns-clause-count
returns-clause-count c =
    subst
    (λ x. length x.entries ≤ length c.args.entries.now.entries)
    (sym c.pop.ensures.entries)
    (length-removed _ key_laws c.args.key.now c.args.entries.now.entries)
