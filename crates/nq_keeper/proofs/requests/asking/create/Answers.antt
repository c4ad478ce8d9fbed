use Rattle.std.proofs.Common.{rules, arith, ap, ◌∙◌}
use Rattle.std.proofs.lemmas.Grind.{common_steps}
use Rattle.nq_keeper.specs.RequestsCapped.{capped}
use Rattle.nq_model.specs.protocol.Change.{heads_of, space_of}
use Rattle.nq_model.specs.protocol.Decided.{effect_of_create}
use Rattle.nq_model.specs.protocol.Kept.{find_name}
use Rattle.nq_keeper.proofs.Asking.{row-there}
use Rattle.nq_keeper.proofs.Leaving.{one-of}
use Rattle.nq_keeper.proofs.requests.asking.create.Goals as goal

pub returns-in_err-numbers : goal.returns-in_err-numbers
returns-in_err-numbers g c = record {
  answers = first_of (search rules, grind (arith, common_steps));
  reads = first_of (search rules, grind (arith, common_steps));
  follows = g.met.K.Keeper.follows_on _ c.by_name.new.self _ c.by_name.ensures.follows c.read_numbers.ensures.follows;
  leaves = λ kept told found left.
      one-of found kept _ _ (g.met.K.Keeper.parts _ c.by_name.new.self _ found c.by_name.ensures.follows c.read_numbers.ensures.follows left)
      (c.by_name.ensures.leaves kept told found)
      (c.read_numbers.ensures.leaves kept (c.in_ok-found.ensures.reads.0 ∙ told) found);
}

pub returns : goal.returns
returns g c = record {
  answers = λ kept told.
      let numbers = c.in_ok-numbers.ensures.answers kept (c.in_ok-found.ensures.reads.0 ∙ told) in
      c.create.ensures
      ∙ ap (λ n. capped (effect_of_create n.space n.heads c.is_some-is_there.result c.args.name.now c.args.blocks)) numbers
      ∙ ap (λ there. capped (effect_of_create (space_of kept) (heads_of kept) there c.args.name.now c.args.blocks))
      (c.is_some-is_there.ensures ∙ row-there (find_name c.args.name.now kept.files) c.in_ok-found.found (c.in_ok-found.ensures.told kept told));
  reads = (c.in_ok-numbers.ensures.reads.0 ∙ c.in_ok-found.ensures.reads.0, c.in_ok-numbers.ensures.reads.1 ∙ c.in_ok-found.ensures.reads.1);
  follows = g.met.K.Keeper.follows_on _ c.by_name.new.self _ c.by_name.ensures.follows c.read_numbers.ensures.follows;
  leaves = λ kept told found left.
      one-of found kept _ _ (g.met.K.Keeper.parts _ c.by_name.new.self _ found c.by_name.ensures.follows c.read_numbers.ensures.follows left)
      (c.by_name.ensures.leaves kept told found)
      (c.read_numbers.ensures.leaves kept (c.in_ok-found.ensures.reads.0 ∙ told) found);
}
