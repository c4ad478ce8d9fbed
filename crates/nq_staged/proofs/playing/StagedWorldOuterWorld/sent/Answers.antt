use Rattle.std.proofs.Common.{subst, sym}
use Rattle.nq_replay.specs.RulesLaws.{goes-nowhere}
use Rattle.nq_staged.specs.Worlds.{PlaysOutside}
use Rattle.nq_world.specs.Playing.{GoesOn, WorldOver}
use Rattle.nq_world.specs.declared.stepped.Stepped.{Stepped}
use Rattle.nq_staged.proofs.playing.StagedWorldOuterWorld.sent.Goals as goal

pub returns-clause-same : goal.returns-clause-same
returns-clause-same g c = λ head events plays.
    subst (λ (i : WorldOver _). PlaysOutside head events c.sent.new.self (g.K.Keeper.content i.server.keeper)) (sym c.sent.ensures.inner)
    (c.sent.ensures.same head events _ plays)

pub returns-clause-keeps : goal.returns-clause-keeps
returns-clause-keeps g c =
    subst (λ (i : WorldOver _). GoesOn g.K.Keeper.faults g.K.Keeper.follows Stepped.Done c.args.self.now.inner i) (sym c.sent.ensures.inner)
    (goes-nowhere g.K.Keeper.faults g.K.Keeper.follows g.met.K.Keeper.follows_itself c.args.self.now.inner)
