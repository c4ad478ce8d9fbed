use Rattle.std.proofs.Common.{◌≡◌, ◌++◌, length}
use Rattle.nq_replay.specs.Text.{asides_in, plain_bytes}
use Rattle.nq_replay.proofs.asides.scripts.push_lines.Given as goal

-- what was read and what is left make what is wanted of the whole
abbrev pub invariant-lines : goal.invariant-lines
invariant-lines g l = record {
  plain : l.bytes.items ++ plain_bytes (g.A.AsideLine.said l.hosts) l.rest ≡ l.fn.bytes.items ++ plain_bytes (g.A.AsideLine.said l.hosts) l.body;
  asides : l.asides.items ++ asides_in (g.A.AsideLine.said l.hosts) l.rest ≡ l.fn.asides.items ++ asides_in (g.A.AsideLine.said l.hosts) l.body;
}

abbrev pub decreases-lines : goal.decreases-lines
decreases-lines g l = length l.rest
