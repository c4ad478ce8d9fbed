use Rattle.std.proofs.Common.{sym, subst}
use Rattle.nq_cache.specs.Entries.{Turns}
use Rattle.nq_cache.proofs.Kept.{turn-drops, turn-keeps}
use Rattle.nq_cache.proofs.KeyLaws.{key_laws}
use Rattle.nq_cache.proofs.entries.turn.Goals as goal

pub returns-then-eq-clause-turns : goal.returns-then-eq-clause-turns
returns-then-eq-clause-turns c =
    subst
    (Turns c.args.file c.args.entries.now.entries)
    (sym c.evict.ensures.evicted)
    (turn-drops c.args.file c.in-Some.key c.args.entries.now.entries c.in-Some.ensures (sym c.if-eq.ensures))

pub returns-else-eq-clause-turns : goal.returns-else-eq-clause-turns
returns-else-eq-clause-turns c =
    subst
    (λ x. Turns c.args.file c.args.entries.now.entries x.entries)
    (sym c.promote.ensures.entries)
    (turn-keeps _ key_laws c.args.file c.in-Some.key c.args.entries.now.entries c.len-distinct.ensures.valid.0 c.in-Some.ensures (sym c.if-eq.ensures))
