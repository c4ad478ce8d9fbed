use Rattle.std.proofs.Common.{length, subst}
use Rattle.nq_name_server.specs.declared.run.event.NameEvent.{NameEvent}
use Rattle.nq_naming.proofs.Moments.{more-moment, step-goes}
use Rattle.nq_naming.specs.Text.{IsOfHost}
use Rattle.nq_replay.specs.Rules.{play_event}
use Rattle.nq_replay.specs.RulesLaws.{goes-nowhere}
use Rattle.nq_naming.proofs.playing.FindingWorldOuterWorld.act.Goals as goal

pub step-requires : goal.step-requires
step-requires g c = (subst (IsOfHost (length c.args.self.now.names.inner.clients)) c.in-List.is c.requires).0

pub returns-in-List-clause-goes : goal.returns-in-List-clause-goes
unfolding play_event
returns-in-List-clause-goes g c = λ head m at.
    let event = NameEvent.List c.in-List.host c.in-List.prefix in
    rw c.in-List.is
    (step-goes _ head m event c.step.result c.step.new.self _ _
    (λ plays. more-moment head m event c.args.self.now.names c.step.new.self _ _ c.args.self.now.found.items at plays)
    (c.step.ensures.steps head m.events at.plays))

pub returns-in-List-clause-keeps : goal.returns-in-List-clause-keeps
returns-in-List-clause-keeps g c = record { counts = c.step.ensures.faults; keeper = c.step.ensures.follows; settings = c.step.ensures.settings }

pub find-requires : goal.find-requires
find-requires g c = subst (IsOfHost (length c.args.self.now.names.inner.clients)) c.in-Find.is c.requires

pub returns-in-Ok-clause-goes : goal.returns-in-Ok-clause-goes
returns-in-Ok-clause-goes g c = λ head m at. rw c.in-Find.is (c.in-Ok.ensures head m _ at)

pub returns-in-Ok-clause-keeps : goal.returns-in-Ok-clause-keeps
returns-in-Ok-clause-keeps g c = goes-nowhere g.K.Keeper.faults g.K.Keeper.follows g.met.K.Keeper.follows_itself c.args.self.now.names.inner
