use Rattle.std.proofs.Common.{refl}
use Rattle.nq_names.proofs.Leading.{refused-leads}
use Rattle.nq_world.proofs.Refused.{refused-counts}
use Rattle.nq_names.proofs.world.NameWorld.step_settled.Goals as goal

pub returns-in_default : goal.returns-in_default
returns-in_default g c = record {
  steps = λ head events ready plays. refused-leads head events c.args.event.now c.test.result _ _ c.in_default.not-Done c.test.ensures.own
      (c.test.ensures.tests head events _ ready plays) plays;
  goes = record {
    counts = refused-counts c.test.result _ c.test.ensures.own;
    keeper = g.met.K.Keeper.follows_itself c.args.self.now.inner.server.keeper;
    settings = record { hosts_are = refl; longest_is = refl; term_is = refl };
  };
}
