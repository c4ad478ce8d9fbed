use Rattle.std.proofs.Common.{sym, ap, ◌∙◌}
use Rattle.nq_base.specs.Block.{value_of}
use Rattle.nq_base.specs.Content.{content_bytes}
use Rattle.nq_base.proofs.Filling.{filled-value}
use Rattle.nq_base.proofs.blocks.Block.value.Goals as goal

pub returns-in-Filled : goal.returns-in-Filled
returns-in-Filled c =
    let seen = ap content_bytes c.in-Filled.is in
    sym (ap value_of (sym c.self.view_is ∙ seen) ∙ filled-value c.in-Filled.value)
