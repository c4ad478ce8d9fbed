use Rattle.std.proofs.Common.{length, sym, ap, ◌∙◌}
use Rattle.nq_base.specs.Block.{value_of}
use Rattle.nq_base.specs.Content.{content_bytes}
use Rattle.nq_base.specs.declared.blocks.Seen.{Seen}
use Rattle.nq_base.proofs.Filling.{filled-length, filled-value}
use Rattle.nq_base.proofs.blocks.Block.seen.Goals as goal

pub returns-in-Filled-clause-size : goal.returns-in-Filled-clause-size
returns-in-Filled-clause-size c = ap length (sym c.self.view_is ∙ ap content_bytes c.in-Filled.is) ∙ filled-length c.in-Filled.value

-- no two words fill one block
pub returns-in-Filled-clause-light : goal.returns-in-Filled-clause-light
returns-in-Filled-clause-light c = λ v is.
    let same = sym (ap content_bytes c.in-Filled.is) ∙ c.self.view_is ∙ is in
    ap Seen.Filled (sym (filled-value c.in-Filled.value) ∙ ap value_of same ∙ filled-value v)
