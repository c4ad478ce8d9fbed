use Rattle.std.proofs.Common.{Option, sym, ap, ◌∙◌}
use Rattle.nq_base.specs.declared.Request.{Request}
use Rattle.nq_client.proofs.Renewing.{renewed-as, spelled-as}
use Rattle.nq_client.specs.Asking.{renews_by}
use Rattle.nq_client.specs.Step.{step_of}
use Rattle.nq_client.proofs.step.Step.renews.Goals as goal

pub sends_request-requires-clause-spelled : goal.sends_request-requires-clause-spelled
sends_request-requires-clause-spelled c =
    spelled-as c.renewal.result c.in-Some.request c.renewal.ensures.spelled c.in-Some.is

pub returns-in-Some : goal.returns-in-Some
returns-in-Some c =
    let t = step_of c.args.self.now in
    c.sends_request.ensures
    ∙ ap (λ (o : Option Request). renews_by t o) (sym c.in-Some.is ∙ c.renewal.ensures.request)
    ∙ renewed-as c.args.in_tick t c.requires.idle

pub returns-in-None : goal.returns-in-None
returns-in-None c =
    let t = step_of c.args.self.now in
    ap (λ (o : Option Request). renews_by t o) (sym c.in-None.is ∙ c.renewal.ensures.request)
    ∙ renewed-as c.args.in_tick t c.requires.idle
