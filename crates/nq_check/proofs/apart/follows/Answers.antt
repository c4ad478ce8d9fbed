use Rattle.nq_check.proofs.apart.follows.Goals as goal

pub returns-in-Some : goal.returns-in-Some
returns-in-Some c =
    λ t. let u = c.is_under.ensures t in
    record {
      low = c.in-Some.lower.now;
      high = u.high;
      at_low = c.in-Some.ensures;
      at_high = u.at_high;
      upright = u.upright;
      below = u.below;
    }
