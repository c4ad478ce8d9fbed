use Rattle.std.proofs.Common.{◌∙◌, ap, length, refl, arith}
use Rattle.std.proofs.lemmas.List.{length-reverse}
use Rattle.std.specs.Prelude.{reverse}
use Rattle.nq_storm.proofs.Asking.{cut_short, once_more}
use Rattle.nq_storm.proofs.Whole.{begins, counts_on, drawn, further, is_cut, is_whole}
use Rattle.nq_storm.proofs.storms.storm.Goals as goal

pub loop-earlier-init : goal.loop-earlier-init
loop-earlier-init g c = record {
  words = c.new-words.ensures;
  many = rw c.requires.empty refl;
  storm = λ head plays. begins head _ _ c.args.ran.now _ _ _ c.requires.empty plays c.new-delivered.ensures;
  asks = refl;
  stormy = rw c.requires.empty tt;
  faults = refl;
  follows = g.met.K.Keeper.follows_itself c.args.world.now.server.keeper;
  settings = c.requires.settings;
}

pub loop-earlier-preserved : goal.loop-earlier-preserved
loop-earlier-preserved g c =
    let word = drawn c.args.start c.loop-earlier.earlier c.draw-word.result _ c.draw-word.new.self c.loop-earlier.invariant.words c.draw-word.ensures in
    record {
      words = further c.args.start c.loop-earlier.earlier c.draw-word.result _ c.draw-word.new.self c.loop-earlier.invariant.words c.draw-word.ensures;
      many = c.pass_moment.ensures.more c.in-Done.is;
      storm = λ head plays.
          c.pass_moment.ensures.passes c.in-Done.is head c.args.start _ word (c.loop-earlier.invariant.storm head plays);
      asks = once_more c.loop-earlier.earlier _ _ _ c.loop-earlier.invariant.asks (c.pass_moment.ensures.asked c.in-Done.is);
      stormy = c.pass_moment.ensures.stormy c.loop-earlier.invariant.stormy;
      faults = c.in-Done.ensures.keeps.counts ∙ c.loop-earlier.invariant.faults;
      follows = g.met.K.Keeper.follows_on _ _ _ c.loop-earlier.invariant.follows c.pass_moment.ensures.keeps.keeper;
      settings = c.pass_moment.ensures.keeps.settings;
    }

pub returns-in_default : goal.returns-in_default
returns-in_default g c =
    let other = c.in_default.not-Done in
    let ran = c.loop-earlier.ran in
    let same = c.pass_moment.ensures.same other in
    let count = length-reverse ran ∙ c.loop-earlier.invariant.many in
    record {
      storms = λ head plays.
          let here = c.loop-earlier.invariant.storm head plays in
          is_cut c.pass_moment.result head c.args.start c.args.events c.loop-earlier.earlier _ _ ran c.pass_moment.new.ran _ _ _ _ _ other same
          c.loop-earlier.invariant.many c.loop-earlier-test.true here
          (c.pass_moment.ensures.halts other head (reverse ran) count here.at);
      asks = rw (ap length same ∙ c.loop-earlier.invariant.many) (cut_short c.pass_moment.result c.loop-earlier.earlier _ _ _ other
          c.loop-earlier.invariant.asks c.pass_moment.ensures.asks);
      early = λ ended. rw (ap length same ∙ c.loop-earlier.invariant.many) c.loop-earlier-test.true;
      whole = λ done. absurd (other done);
      stormy = c.pass_moment.ensures.stormy c.loop-earlier.invariant.stormy;
      faults = counts_on c.pass_moment.result _ _ _ c.loop-earlier.invariant.faults c.pass_moment.ensures.keeps.counts;
      follows = g.met.K.Keeper.follows_on _ _ _ c.loop-earlier.invariant.follows c.pass_moment.ensures.keeps.keeper;
    }

pub returns : goal.returns
returns g c = record {
  storms = λ head plays. is_whole head c.args.start c.args.events _ _ c.loop-earlier.ran _ _ _ (c.loop-earlier.invariant.many
      ∙ omega (arith, c.loop-earlier.auto.earlier-end, c.loop-earlier-test.false)) (c.loop-earlier.invariant.storm head plays);
  asks = rw c.loop-earlier.invariant.many c.loop-earlier.invariant.asks;
  early = λ ended. absurd (ended refl);
  whole = λ done. c.loop-earlier.invariant.many ∙ omega (arith, c.loop-earlier.auto.earlier-end, c.loop-earlier-test.false);
  stormy = c.loop-earlier.invariant.stormy;
  faults = c.loop-earlier.invariant.faults;
  follows = c.loop-earlier.invariant.follows;
}
