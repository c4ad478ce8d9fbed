use Rattle.std.proofs.Common.{ap, ◌∙◌}
use Rattle.nq_client.proofs.Outcomes.{not_all, tick_within}
use Rattle.nq_client.specs.State.{client_of}
use Rattle.nq_client.proofs.client.Client.tick.Goals as goal

pub invariant_of-self-2 : goal.invariant_of-self-2
invariant_of-self-2 c = (
  c.gives_heard.ensures.begun,
  tick_within c.self.inside.step.state c.reserve.new.step.state c.gives_heard.new.self.state c.args.now c.self.inside.taken
      c.reserve.ensures.kept.client (ap client_of c.gives_heard.ensures.state ∙ c.make_tick.ensures.client) c.self.invariant.1
      (not_all c.self.inside.step.state c.self.inside.taken c.self.invariant.1 c.if-self-eq-MOST_TAKEN.false) c.requires.early,
)
