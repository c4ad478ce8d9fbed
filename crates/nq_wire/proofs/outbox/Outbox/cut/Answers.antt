use Rattle.std.proofs.Common.{refl}
use Rattle.std.proofs.lemmas.List.{take-map}
use Rattle.nq_wire.proofs.outbox.Outbox.cut.Goals as goal

pub returns-clause-kept : goal.returns-clause-kept
returns-clause-kept c = rw (c.truncate.ensures.items, ← c.self.view_is, take-map) refl
