use Rattle.std.proofs.Common.{sym, ◌∙◌}
use Rattle.nq_server.proofs.DecidedSteps.{is-ok, none-some}
use Rattle.nq_server.proofs.aside.put_heard.Goals as goal

pub unwrap-requires : goal.unwrap-requires
unwrap-requires c =
    is-ok c.put_row.result (λ err. none-some c.args.row.now (sym (c.put_row.ensures.full.0 err).0 ∙ c.requires))
