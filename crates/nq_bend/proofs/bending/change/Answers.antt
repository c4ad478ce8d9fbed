use Rattle.nq_bend.proofs.bending.change.Goals as goal

pub loop-number-init : goal.loop-number-init
loop-number-init g c = record {
  settings = c.in_ok-settle.ensures.settings;
  goes = λ count is. c.in_ok-settle.ensures.goes count is;
  plays = λ is. c.in_ok-settle.ensures.plays is;
}

pub loop-number-preserved : goal.loop-number-preserved
loop-number-preserved g c = record {
  settings = c.in_ok-make.ensures.settings;
  goes = λ count is. c.in_ok-make.ensures.goes count (c.loop-number.invariant.goes count is);
  plays = λ is. c.in_ok-make.ensures.plays (c.loop-number.invariant.plays is);
}
