use Rattle.std.proofs.Common.{◌∙◌, refl, sym}
use Rattle.nq_replay.proofs.Dropping.{dropped}
use Rattle.nq_replay.proofs.Steps.{has_flag}
use Rattle.nq_storm.proofs.Passing.{can_come, filled_event, keeps_refused, keeps_taken, never_done, not_given}
use Rattle.nq_storm.proofs.moments.give.Goals as goal

pub push_filled-requires : goal.push_filled-requires
push_filled-requires g c = filled_event c.args.event.now c.requires.stormy

pub step-requires : goal.step-requires
step-requires g c = can_come c.args.event.now c.args.world.now c.requires.settings c.requires.stormy

pub returns-in-Done : goal.returns-in-Done
returns-in-Done g c = record {
  gives = λ head events at room.
      let steps = c.in-Done.ensures.steps head events at.plays in (
        steps.0,
        record {
          plays = steps.1;
          marks = c.note.ensures (has_flag head events c.args.event.now c.args.world.now _ c.args.delivered.now at.plays room steps.0) events at.marks;
        },
      );
  kept = λ done. c.in-Ok.ensures.ok;
  same = λ other. absurd (other refl);
  keeps = keeps_taken g.K.Keeper.faults g.K.Keeper.follows c.args.world.now c.step.new.self c.requires.settings c.in-Done.ensures.faults
      c.step.ensures.follows c.step.ensures.settings;
}

pub returns-in_default : goal.returns-in_default
returns-in_default g c = record {
  gives = λ head events at room.
      not_given head events c.args.event.now c.step.result c.ending_of.result c.args.world.now c.step.new.self _ _ _ c.ending_of.ensures
      (c.step.ensures.steps head events at.plays) at.plays c.in_default.not-Done;
  kept = λ done. absurd (never_done c.step.result (sym c.ending_of.ensures ∙ done));
  same = λ other. dropped c.args.ran.now c.push_filled.new.self c.drop_last.new.self c.args.event.now c.in-Ok.ensures.ok c.drop_last.ensures;
  keeps = keeps_refused g.K.Keeper.faults g.K.Keeper.follows c.step.result c.ending_of.result c.args.world.now c.step.new.self c.requires.settings
      c.ending_of.ensures c.in_default.not-Done c.step.ensures.faults c.step.ensures.follows c.step.ensures.settings;
}

pub returns-in-Err-clause-gives : goal.returns-in-Err-clause-gives
returns-in-Err-clause-gives g c = λ head events at room. (tt, at.plays)

pub returns-in-Err-clause-keeps : goal.returns-in-Err-clause-keeps
returns-in-Err-clause-keeps g c = record {
  counts = refl;
  keeper = g.met.K.Keeper.follows_itself c.args.world.now.server.keeper;
  settings =
      c.requires.settings;
}
