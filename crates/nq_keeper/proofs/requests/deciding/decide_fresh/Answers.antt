use Rattle.std.proofs.Common.{sym, ◌∙◌}
use Rattle.nq_model.specs.protocol.Decided.{effect_of, fresh_decided}
use Rattle.nq_keeper.proofs.Concluding.{decided-as, fits-kept, given-as, given_of, gives-as, leaves-as, leaves-then, of-sequence, within-kept}
use Rattle.nq_keeper.proofs.requests.deciding.decide_fresh.Goals as goal

pub conclude-requires-clause-fits : goal.conclude-requires-clause-fits
conclude-requires-clause-fits g c =
    λ kept e.
    fits-kept c.args.gate c.args.request c.args.who c.args.seq c.in_ok-effect.effect kept (g.met.K.Keeper.within c.effect.new.keeper kept e)
    (c.in_ok-effect.ensures.answers kept (sym c.in_ok-effect.ensures.reads.0 ∙ e)) c.requires.host

pub conclude-requires-clause-within : goal.conclude-requires-clause-within
conclude-requires-clause-within g c =
    λ kept e can.
    within-kept c.args.gate c.args.request c.args.who c.args.seq c.in_ok-effect.effect kept (g.met.K.Keeper.within c.effect.new.keeper kept e)
    (c.in_ok-effect.ensures.answers kept (sym c.in_ok-effect.ensures.reads.0 ∙ e)) c.has_text.ensures
    (of-sequence kept c.args.gate c.args.request c.args.who c.args.seq c.requires.asked (c.requires.later kept (sym c.in_ok-effect.ensures.reads.0 ∙ e)))
    (c.requires.asked.changes kept c.args.gate)
    can

pub returns : goal.returns
returns g c = record {
  gives = gives-as (λ kept. fresh_decided c.args.who c.args.seq c.in_ok-effect.effect) (λ kept. fresh_decided c.args.who c.args.seq
      (effect_of kept c.args.gate c.args.request)) (λ kept. given_of c.args.who c.args.seq c.in_ok-effect.effect) (λ kept. given_of c.args.who
      c.args.seq (effect_of kept c.args.gate c.args.request)) c.conclude.result (g.K.Keeper.content c.args.keeper.now)
      (g.K.Keeper.content c.effect.new.keeper) (g.K.Keeper.content c.conclude.new.keeper) _ _ _ c.in_ok-effect.ensures.reads.0 c.in_ok-effect.ensures.reads.1
      (λ kept e. decided-as c.args.gate c.args.request c.args.who c.args.seq c.in_ok-effect.effect kept (g.met.K.Keeper.within c.args.keeper.now kept
      e) (c.in_ok-effect.ensures.answers kept e))
      (λ kept e. given-as c.args.gate c.args.request c.args.who c.args.seq c.in_ok-effect.effect kept (g.met.K.Keeper.within c.args.keeper.now kept e)
      (c.in_ok-effect.ensures.answers kept e))
      c.conclude.ensures.gives;
  follows = g.met.K.Keeper.follows_on _ c.effect.new.keeper _ c.effect.ensures.follows c.conclude.ensures.follows;
  leaves = λ kept e found left.
      leaves-as kept found (given_of c.args.who c.args.seq c.in_ok-effect.effect) (given_of c.args.who c.args.seq (effect_of kept c.args.gate c.args.request))
      (given-as c.args.gate c.args.request c.args.who c.args.seq c.in_ok-effect.effect kept (g.met.K.Keeper.within c.args.keeper.now kept e)
      (c.in_ok-effect.ensures.answers kept e))
      (leaves-then _ _ found kept (given_of c.args.who c.args.seq c.in_ok-effect.effect)
      (g.met.K.Keeper.parts _ c.effect.new.keeper _ found c.effect.ensures.follows c.conclude.ensures.follows left)
      (c.effect.ensures.leaves kept e found)
      (c.conclude.ensures.leaves kept (c.in_ok-effect.ensures.reads.0 ∙ e) found));
}
