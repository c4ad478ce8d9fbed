use Rattle.std.proofs.Common.{◌-◌, length, ap, ◌∙◌}
use Rattle.nq_cache.specs.Entries.{walked}
use Rattle.nq_cache.proofs.Kept.{first_stays}
use Rattle.nq_cache.proofs.entries.leave_first.Goals as goal

pub returns-clause-left : goal.returns-clause-left
returns-clause-left c = λ body rest split.
    c.bring_forward.ensures.order
    ∙ first_stays c.args.key.now.file c.args.key.now.block body rest c.args.entries.now.entries c.walk.new.entries.entries split
    (c.walk.ensures.walked ∙ ap (λ n. walked c.args.key.now.file (length c.args.entries.now.entries - (n - 1)) c.args.entries.now.entries)
    c.len-others.ensures.len)
