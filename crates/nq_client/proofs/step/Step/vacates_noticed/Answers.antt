use Rattle.std.proofs.Common.{IsTrue, sym, subst, ◌∙◌}
use Rattle.nq_client.specs.Step.{step_of}
use Rattle.nq_client_parts.proofs.NoticeList.{of-file}
use Rattle.nq_client.proofs.Vacated.{vacated-taken}
use Rattle.nq_model.specs.protocol.Client.{is_clean_in}
use Rattle.nq_client.proofs.step.Step.vacates_noticed.Goals as goal

pub vacates_lease-requires-clause-silent : goal.vacates_lease-requires-clause-silent
vacates_lease-requires-clause-silent c =
    let silent = c.requires.silent in
    record { asks = silent.asks; first = silent.first; xid = silent.xid }

pub vacates_lease-requires-clause-clean : goal.vacates_lease-requires-clause-clean
vacates_lease-requires-clause-clean c =
    subst (λ f. IsTrue (is_clean_in f c.args.self.now.state.dirty.dirty c.args.self.now.state.dirty.push))
    (sym (of-file c.args.file c.args.self.now.state.notices.items c.in-Some.notice (sym c.take_notice.ensures.found ∙ c.in-Some.is)))
    c.requires.clean

pub returns-in-Some-clause-step : goal.returns-in-Some-clause-step
returns-in-Some-clause-step c =
    c.vacates_lease.ensures.step
    ∙ vacated-taken (step_of c.args.self.now) c.args.file c.in-Some.notice c.take_notice.new.self.items (sym c.in-Some.is ∙ c.take_notice.ensures.found) c.take_notice.ensures.items
