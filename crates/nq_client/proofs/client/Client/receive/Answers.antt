use Rattle.std.proofs.Common.{ap, sym, subst, ◌∙◌}
use Rattle.nq_datagrams.specs.declared.Heard.{Heard}
use Rattle.nq_client.proofs.Outcomes.{heard_within, not_all}
use Rattle.nq_client.specs.Receiving.{IsHeeded}
use Rattle.nq_client.specs.State.{client_of}
use Rattle.nq_client.proofs.client.Client.receive.Goals as goal

pub invariant_of-self-2 : goal.invariant_of-self-2
invariant_of-self-2 c =
    let state = c.self.inside.step.state in
    let taken = c.self.inside.taken in
    let within = c.self.invariant.1 in
    let heeded = subst (λ (heard : Heard). IsHeeded state.asked heard) (sym c.kept-heard.ensures) c.in-Some.ensures.heeded in
    let after = ap client_of c.gives_heard.ensures.state ∙ c.in-Ok-hear.ensures.client in
    let few = not_all state taken within c.if-self-eq-MOST_TAKEN.false in (
      c.gives_heard.ensures.begun,
      heard_within state c.gives_heard.new.self.state c.args.packet c.kept-heard.result taken after heeded within few,
    )
