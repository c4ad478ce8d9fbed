use Rattle.nq_replay.proofs.Spelling.{Stand}
use Rattle.nq_replay.proofs.texts.push_events.Given as goal

abbrev pub invariant-loop-place : goal.invariant-loop-place
invariant-loop-place l = Stand l.head l.fn.text.items l.text.items l.ran l.place
