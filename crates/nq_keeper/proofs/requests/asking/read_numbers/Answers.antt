use Rattle.std.proofs.Common.{rules, arith, ◌∙◌}
use Rattle.std.proofs.lemmas.Grind.{common_steps}
use Rattle.nq_keeper.proofs.Leaving.{one-of}
use Rattle.nq_keeper.proofs.requests.asking.read_numbers.Goals as goal

pub returns-in_err-space : goal.returns-in_err-space
returns-in_err-space g c = record {
  answers = first_of (search rules, grind (arith, common_steps));
  reads = first_of (search rules, grind (arith, common_steps));
  follows = g.met.K.Keeper.follows_on _ c.heads.new.self _ c.heads.ensures.follows c.space.ensures.follows;
  leaves = λ kept told found left.
      one-of found kept _ _ (g.met.K.Keeper.parts _ c.heads.new.self _ found c.heads.ensures.follows c.space.ensures.follows left)
      (c.heads.ensures.leaves kept told found)
      (c.space.ensures.leaves kept (c.in_ok-heads.ensures.reads.0 ∙ told) found);
}

pub returns : goal.returns
returns g c = record {
  answers = first_of (search rules, grind (arith, common_steps));
  reads = (c.in_ok-space.ensures.reads.0 ∙ c.in_ok-heads.ensures.reads.0, c.in_ok-space.ensures.reads.1 ∙ c.in_ok-heads.ensures.reads.1);
  follows = g.met.K.Keeper.follows_on _ c.heads.new.self _ c.heads.ensures.follows c.space.ensures.follows;
  leaves = λ kept told found left.
      one-of found kept _ _ (g.met.K.Keeper.parts _ c.heads.new.self _ found c.heads.ensures.follows c.space.ensures.follows left)
      (c.heads.ensures.leaves kept told found)
      (c.space.ensures.leaves kept (c.in_ok-heads.ensures.reads.0 ∙ told) found);
}
