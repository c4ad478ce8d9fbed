use Rattle.std.proofs.Common.{sym, ap, ◌∙◌}
use Rattle.std.specs.Option.{option_map}
use Rattle.nq_client.proofs.Reported.{told, untold}
use Rattle.nq_client.specs.State.{under_way}
use Rattle.nq_client.specs.Step.{step_of}
use Rattle.nq_model.specs.protocol.Client.{ClientStep}
use Rattle.nq_model.specs.protocol.Hear.{reports}
use Rattle.nq_client.proofs.step.Step.follows_loss.Goals as goal

pub returns-in-Some-clause-step : goal.returns-in-Some-clause-step
returns-in-Some-clause-step c =
    let s = c.vacates_noticed.new.self in
    c.names_losses.ensures.step
    ∙ told (step_of s) c.args.file c.in-Some.q (option_map under_way s.state.call) (sym c.in-Some.is ∙ c.waiting.ensures)
    ∙ ap (λ (t : ClientStep). reports t c.args.file) c.vacates_noticed.ensures.step

pub returns-in-None-clause-step : goal.returns-in-None-clause-step
returns-in-None-clause-step c =
    let s = c.vacates_noticed.new.self in
    untold (step_of s) c.args.file (option_map under_way s.state.call) (sym c.in-None.is ∙ c.waiting.ensures)
    ∙ ap (λ (t : ClientStep). reports t c.args.file) c.vacates_noticed.ensures.step
