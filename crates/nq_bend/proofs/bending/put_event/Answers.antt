use Rattle.nq_bend.proofs.bending.put_event.Goals as goal

pub loop-place-preserved : goal.loop-place-preserved
loop-place-preserved g c = record {
  settings = c.in_ok-put_line.ensures.settings;
  goes = λ count is. c.in_ok-put_line.ensures.goes count (c.loop-place.invariant.goes count is);
  plays = λ is. c.in_ok-put_line.ensures.plays (c.loop-place.invariant.plays is);
}
