use Rattle.std.proofs.Common.{◌<◌, ◌+◌, ◌^◌, sym, ap, subst, ◌∙◌, arith}
use Rattle.nq_base.specs.declared.Request.{Request}
use Rattle.nq_client.proofs.Outcomes.{begins}
use Rattle.nq_client.proofs.Received.{no-notice}
use Rattle.nq_client.proofs.Spent.{given_up}
use Rattle.nq_client.proofs.Ties.{tied-cancelled}
use Rattle.nq_client.specs.Receiving.{on_call}
use Rattle.nq_client.specs.State.{client_of}
use Rattle.nq_client.specs.Tied.{Tied}
use Rattle.nq_model.specs.protocol.Client.{ClientStep}
use Rattle.nq_model.specs.protocol.Hear.{cancels, evicted, goes_on}
use Rattle.nq_client.proofs.step.Step.hears_call.Goals as goal

pub evicted-requires-clause-silent : goal.evicted-requires-clause-silent
evicted-requires-clause-silent c =
    let begun = c.requires.begun in
    let xid : c.args.self.now.state.xid + 3 < 2 ^ 32 = c.requires.numbers.xid in
    record { asks = begun.silent; first = begun.vacated; xid = omega arith }

pub goes_on-requires-clause-tied : goal.goes_on-requires-clause-tied
goes_on-requires-clause-tied c =
    subst (λ o. Tied o c.evicted.new.self.state.dirty.push) (sym c.evicted.ensures.kept.asked)
    (subst (λ d. Tied c.cancel.new.asked d.push) (sym c.evicted.ensures.kept.dirty)
    (subst (λ o. Tied o c.args.self.now.state.dirty.push) (sym c.cancel.ensures)
    (tied-cancelled c.in-Evicted.file c.args.self.now.state.asked c.args.self.now.state.dirty.push c.requires.tied)))

pub returns-in-Evicted : goal.returns-in-Evicted
returns-in-Evicted c =
    c.goes_on.ensures
    ∙ ap goes_on
    (c.evicted.ensures.step
    ∙ ap (λ (t : ClientStep). evicted t c.in-Evicted.file c.in-Evicted.tag)
    (given_up c.args.self.now c.in-Evicted.file c.cancel.new.asked c.cancel.ensures c.requires.begun.silent
    ∙ ap (λ (t : ClientStep). cancels t c.in-Evicted.file) (begins c.args.self.now c.requires.begun)))
    ∙ sym (ap (λ (r : Request). on_call (client_of c.args.self.now.state) r) c.in-Evicted.is)

pub returns-in_default : goal.returns-in_default
returns-in_default c =
    begins c.args.self.now c.requires.begun
    ∙ no-notice (client_of c.args.self.now.state) c.args.request.now c.in_default.not-Evicted
