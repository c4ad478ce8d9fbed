use Rattle.std.proofs.Common.{sym, ap, ◌∙◌}
use Rattle.nq_model.specs.protocol.Table.{find_row}
use Rattle.nq_name_server.proofs.Replying.{found_host}
use Rattle.nq_name_server.proofs.server.NameServer.own_row.Goals as goal

pub returns-then-row-clause-host : goal.returns-then-row-clause-host
returns-then-row-clause-host c =
    let host = c.args.request.now.who.host in
    let rows = c.self.inside.table.rows in
    let found = c.in_ok-row.ensures ∙ ap (λ n. find_row n c.key_of.result.host rows) c.key_of.ensures.file ∙ ap (λ h. find_row c.args.number h rows)
    c.key_of.ensures.host in
    found_host c.args.number host c.in_ok-row.row rows (sym found)
