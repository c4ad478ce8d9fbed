use Rattle.std.proofs.Common.{subst, sym}
use Rattle.std.proofs.lemmas.Result.{IfOk-weaker}
use Rattle.nq_names.specs.Playing.{PlaysOutside}
use Rattle.nq_replay.specs.RulesLaws.{goes-nowhere}
use Rattle.nq_world.specs.Playing.{GoesOn, WorldOver}
use Rattle.nq_world.specs.declared.stepped.Stepped.{Stepped}
use Rattle.nq_naming.proofs.playing.FindingWorldOuterWorld.sent.Goals as goal

pub returns-clause-same : goal.returns-clause-same
returns-clause-same g c = λ head m at. record {
  plays = subst (λ (i : WorldOver _). PlaysOutside head m.events c.sent.new.self (g.K.Keeper.content i.server.keeper)) (sym c.sent.ensures.inner)
      (c.sent.ensures.same head m.events _ at.plays);
  said = at.said;
  finds = at.finds;
}

pub returns-clause-packets : goal.returns-clause-packets
returns-clause-packets g c = IfOk-weaker c.sent.result _ _ (λ packets says head m at. says head m.events _ at.plays) c.sent.ensures.packets

pub returns-clause-keeps : goal.returns-clause-keeps
returns-clause-keeps g c =
    subst (λ (i : WorldOver _). GoesOn g.K.Keeper.faults g.K.Keeper.follows Stepped.Done c.args.self.now.names.inner i) (sym c.sent.ensures.inner)
    (goes-nowhere g.K.Keeper.faults g.K.Keeper.follows g.met.K.Keeper.follows_itself c.args.self.now.names.inner)
