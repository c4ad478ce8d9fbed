use Rattle.std.proofs.Common.{◌∙◌}
use Rattle.nq_service.proofs.Nothing.{told_nothing}
use Rattle.nq_service.proofs.blank.opened.Goals as goal

pub returns-in-Ok-clause-empty : goal.returns-in-Ok-clause-empty
returns-in-Ok-clause-empty g c = c.in-Ok.ensures.content ∙ told_nothing _ c.requires
