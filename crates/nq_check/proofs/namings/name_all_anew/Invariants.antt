use Rattle.std.proofs.Common.{reverse, take}
use Rattle.nq_check.specs.Namings.{NamesUpTo}
use Rattle.nq_check.proofs.namings.name_all_anew.Given as goal

abbrev pub invariant-loop-index : goal.invariant-loop-index
invariant-loop-index l =
    NamesUpTo (reverse l.whole) (reverse (take l.place l.whole)) l.by l.call l.spans.items l.index l.initial.names.named.entries l.names.named.entries
