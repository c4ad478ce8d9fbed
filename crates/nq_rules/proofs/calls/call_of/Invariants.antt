use Rattle.std.proofs.Common.{◌≡◌, reverse, take}
use Rattle.nq_model.specs.laws.Journal.{call_of}
use Rattle.nq_rules.proofs.calls.call_of.Given as goal

abbrev pub invariant-loop-entry : goal.invariant-loop-entry
invariant-loop-entry l = l.call ≡ call_of (reverse (take l.entry-index l.entries)) l.by l.n
