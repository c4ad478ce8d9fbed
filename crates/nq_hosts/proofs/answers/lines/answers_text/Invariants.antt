use Rattle.std.proofs.Common.{◌≡◌, take}
use Rattle.std.specs.List.{flat_map}
use Rattle.nq_hosts.specs.Answers.{told_line}
use Rattle.nq_hosts.proofs.answers.lines.answers_text.Given as goal

abbrev pub invariant-loop-entry : goal.invariant-loop-entry
invariant-loop-entry l = l.text.items ≡ flat_map told_line (take l.entry-index l.entry-items)
