use Rattle.std.proofs.Common.{◌-◌, length, ap, ◌∙◌}
use Rattle.nq_cache.specs.Entries.{walked}
use Rattle.nq_cache.proofs.Kept.{purged}
use Rattle.nq_cache.proofs.entries.take_file.Goals as goal

pub returns-clause-taken : goal.returns-clause-taken
returns-clause-taken c =
    (purged c.args.file c.args.entries.now.entries _ (c.walk.ensures.walked ∙ ap (λ n. walked c.args.file (length c.args.entries.now.entries - n)
    c.args.entries.now.entries) c.len-count.ensures.len)).0

pub returns-clause-count : goal.returns-clause-count
returns-clause-count c =
    (purged c.args.file c.args.entries.now.entries _ (c.walk.ensures.walked ∙ ap (λ n. walked c.args.file (length c.args.entries.now.entries - n)
    c.args.entries.now.entries) c.len-count.ensures.len)).1
