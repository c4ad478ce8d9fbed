use Rattle.std.proofs.Common.{◌≡◌, false, Option, is_some, sym, ap, ◌∙◌}
use Rattle.nq_client.proofs.Needs.{needed, spelled}
use Rattle.nq_client.specs.Asking.{meets_or_renews}
use Rattle.nq_client.specs.State.{client_of}
use Rattle.nq_client.specs.Step.{step_of}
use Rattle.nq_client.specs.declared.asking.Need.{Need}
use Rattle.nq_client.proofs.step.Step.send_next.Goals as goal

pub meets-requires-clause-spelled : goal.meets-requires-clause-spelled
meets-requires-clause-spelled c =
    spelled (client_of c.args.self.now.state) c.next.result c.in-Some.need c.next.ensures c.in-Some.is

pub returns-in-Some : goal.returns-in-Some
returns-in-Some c =
    let t = step_of c.args.self.now in
    let idle : is_some c.args.self.now.state.asked ≡ false = cc in
    c.meets.ensures
    ∙ ap (λ (o : Option Need). meets_or_renews c.args.in_tick t o) (sym c.in-Some.is ∙ c.next.ensures)
    ∙ needed c.args.in_tick t idle c.requires.none

pub returns-in-None : goal.returns-in-None
returns-in-None c =
    let t = step_of c.args.self.now in
    let idle : is_some c.args.self.now.state.asked ≡ false = cc in
    c.renews.ensures
    ∙ ap (λ (o : Option Need). meets_or_renews c.args.in_tick t o) (sym c.in-None.is ∙ c.next.ensures)
    ∙ needed c.args.in_tick t idle c.requires.none
