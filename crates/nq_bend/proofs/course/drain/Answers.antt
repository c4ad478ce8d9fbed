use Rattle.nq_bend.proofs.course.drain.Goals as goal

pub loop-turn-preserved : goal.loop-turn-preserved
loop-turn-preserved g c = record {
  settings = c.in_ok-come.ensures.settings;
  goes = λ count is. c.in_ok-come.ensures.goes count (c.loop-turn.invariant.goes count is);
  plays = λ is. c.in_ok-come.ensures.plays (c.loop-turn.invariant.plays is);
}
