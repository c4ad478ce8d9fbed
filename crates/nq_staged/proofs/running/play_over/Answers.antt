use Rattle.std.proofs.Common.{[], arith, length, refl, subst, sym}
use Rattle.nq_replay.proofs.Readied.{is-ready}
use Rattle.nq_replay.specs.Text.{HoldsOfAsides}
use Rattle.nq_replay.specs.Playing.{beginning}
use Rattle.nq_replay.proofs.Heads.{are_for_world, few_lines}
use Rattle.nq_replay.proofs.Never.{reasoned}
use Rattle.nq_staged.specs.Playing.{play}
use Rattle.nq_staged.specs.Text.{IsOfHost}
use Rattle.nq_staged.proofs.running.play_over.Goals as goal

pub play-requires : goal.play-requires
play-requires g c =
    let ready = is-ready IsOfHost c.args.script.now.script c.args.script.now.asides.items c.requires.ready in
    record {
      hosts = let same = c.requires.settings.hosts_are in omega arith;
      asides = subst (λ asides. HoldsOfAsides (IsOfHost (length c.args.world.now.inner.clients)) asides) (sym c.deref.ensures.value)
          (subst (λ n. HoldsOfAsides (IsOfHost n) c.args.script.now.asides.items) (sym c.requires.settings.hosts_are) c.requires.ready.asides_are);
      can = are_for_world c.args.script.now.script c.args.world.now.inner ready c.requires.settings;
      few = few_lines c.args.script.now.script ready;
    }

pub returns : goal.returns
unfolding play
returns g c = record {
  comes = λ plays.
      let head = c.args.script.now.script.head in
      let came = c.play.ensures.comes (beginning head) [] refl refl plays in
      rw (← c.requires.ready.first, ← c.deref.ensures.value) came;
  reason = reasoned c.play.result _ _ (c.requires.never _ (g.met.L.Keeper.follows_itself c.args.world.now.inner.server.keeper))
      (c.requires.never _ c.play.ensures.keeps.keeper) c.play.ensures.keeps.counts c.play.ensures.stops;
}
