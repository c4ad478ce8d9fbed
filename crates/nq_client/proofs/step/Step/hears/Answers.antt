use Rattle.std.proofs.Common.{◌≡◌, sym, ap, subst, ◌∙◌}
use Rattle.nq_client.proofs.Outcomes.{begins}
use Rattle.nq_client.proofs.Received.{numbers-after, reply-made, tied-after}
use Rattle.nq_client.specs.Receiving.{Counts, IsHeeded, after_reply, on_heard}
use Rattle.nq_client.specs.State.{client_of}
use Rattle.nq_client.specs.Step.{step_of}
use Rattle.nq_datagrams.specs.declared.Heard.{Heard}
use Rattle.nq_model.specs.protocol.Client.{begun}
use Rattle.nq_model.specs.protocol.Hear.{goes_on}
use Rattle.nq_client.proofs.step.Step.hears.Goals as goal

pub goes_on-requires-clause-tied : goal.goes_on-requires-clause-tied
goes_on-requires-clause-tied c =
    let s = c.args.self.now in
    let counts : Counts s.state.asked c.in-Reply.reply = subst (λ (h : Heard). IsHeeded s.state.asked h) c.in-Reply.is c.requires.heeded in
    let made : step_of c.replied.new.self ≡ after_reply (begun (client_of s.state)) c.args.packet s.state.asked c.in-Reply.reply =
    reply-made (step_of s) (step_of c.replied.new.self) (client_of s.state) c.args.packet c.in-Reply.reply s.state.asked
    (begins s c.requires.begun) counts c.in_ok-replied-in-Reply.ensures.done in
    tied-after (client_of s.state) c.replied.new.self c.args.packet c.in-Reply.reply s.state.asked made c.requires.tied counts

pub goes_on-requires-clause-numbers : goal.goes_on-requires-clause-numbers
goes_on-requires-clause-numbers c =
    let s = c.args.self.now in
    let counts : Counts s.state.asked c.in-Reply.reply = subst (λ (h : Heard). IsHeeded s.state.asked h) c.in-Reply.is c.requires.heeded in
    let made : step_of c.replied.new.self ≡ after_reply (begun (client_of s.state)) c.args.packet s.state.asked c.in-Reply.reply =
    reply-made (step_of s) (step_of c.replied.new.self) (client_of s.state) c.args.packet c.in-Reply.reply s.state.asked
    (begins s c.requires.begun) counts c.in_ok-replied-in-Reply.ensures.done in
    numbers-after s c.replied.new.self c.args.packet c.in-Reply.reply s.state.asked made c.requires.tied counts c.requires.numbers

pub returns-in_ok-replied-in-Reply-clause-heard : goal.returns-in_ok-replied-in-Reply-clause-heard
returns-in_ok-replied-in-Reply-clause-heard c =
    let s = c.args.self.now in
    let counts : Counts s.state.asked c.in-Reply.reply = subst (λ (h : Heard). IsHeeded s.state.asked h) c.in-Reply.is c.requires.heeded in
    let made : step_of c.replied.new.self ≡ after_reply (begun (client_of s.state)) c.args.packet s.state.asked c.in-Reply.reply =
    reply-made (step_of s) (step_of c.replied.new.self) (client_of s.state) c.args.packet c.in-Reply.reply s.state.asked
    (begins s c.requires.begun) counts c.in_ok-replied-in-Reply.ensures.done in
    c.goes_on.ensures
    ∙ ap goes_on made
    ∙ sym (ap (λ (h : Heard). on_heard (client_of s.state) c.args.packet h) c.in-Reply.is)
