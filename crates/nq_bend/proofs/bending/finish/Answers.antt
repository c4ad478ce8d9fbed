use Rattle.nq_bend.proofs.bending.finish.Goals as goal

pub returns-in_ok-drain-in-GoOn : goal.returns-in_ok-drain-in-GoOn
returns-in_ok-drain-in-GoOn g c = record {
  goes = λ count is. c.in_ok-drain-in-GoOn.ensures.goes count (c.in_ok-change.ensures.goes count is);
  plays = λ is. c.in_ok-drain-in-GoOn.ensures.plays (c.in_ok-change.ensures.plays is);
}
