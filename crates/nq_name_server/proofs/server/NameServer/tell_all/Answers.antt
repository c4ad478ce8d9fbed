use Rattle.std.proofs.Common.{◌≡◌, ◌++◌, length, ap, subst, ◌∙◌}
use Rattle.std.specs.Prelude.{IfOk, OnOk}
use Rattle.nq_base.specs.declared.Access.{Access}
use Rattle.nq_lease.proofs.Telling.{told-of-file}
use Rattle.nq_lease.specs.Rows.{rows_of}
use Rattle.nq_name_server.specs.Sending.{all_sent}
use Rattle.nq_name_server.specs.Served.{Served}
use Rattle.nq_name_server.specs.Serving.{notice_after, notices, readers}
use Rattle.nq_name_server.proofs.server.NameServer.tell_all.Goals as goal

pub returns-clause-told : goal.returns-clause-told
returns-clause-told c =
    let rows = c.rows_of-rows.ensures ∙ ap (λ (s : Served). rows_of c.args.number s.table.rows) c.self.view_is in
    subst
    (λ rs. OnOk c.tell_among.result (c.tell_among.new.out.datagrams ≡ c.args.out.now.datagrams
    ++ all_sent (notices c.args.prefix.now c.args.self.now.notice rs)))
    (ap (readers c.args.number c.args.host) rows ∙ told-of-file c.args.number c.args.host Access.Write c.args.self.now.table.rows)
    (subst (λ (s : Served). OnOk c.tell_among.result (c.tell_among.new.out.datagrams ≡ c.args.out.now.datagrams
    ++ all_sent (notices c.args.prefix.now s.notice (readers c.args.number c.args.host c.rows_of-rows.result.now)))) c.self.view_is
    c.tell_among.ensures.told)

pub returns-clause-counted : goal.returns-clause-counted
returns-clause-counted c =
    let rows = c.rows_of-rows.ensures ∙ ap (λ (s : Served). rows_of c.args.number s.table.rows) c.self.view_is in
    subst
    (λ rs. IfOk c.tell_among.result (λ n. n ≡ notice_after c.args.self.now.notice (length rs)))
    (ap (readers c.args.number c.args.host) rows ∙ told-of-file c.args.number c.args.host Access.Write c.args.self.now.table.rows)
    (subst (λ (s : Served). IfOk c.tell_among.result (λ n. n ≡ notice_after s.notice
    (length (readers c.args.number c.args.host c.rows_of-rows.result.now)))) c.self.view_is c.tell_among.ensures.counted)
