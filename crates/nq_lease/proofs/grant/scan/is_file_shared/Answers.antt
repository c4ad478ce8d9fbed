use Rattle.std.proofs.Common.{refl, ap, ◌∙◌}
use Rattle.std.specs.List.{list_any}
use Rattle.nq_lease.specs.Rows.{is_of}
use Rattle.nq_model.specs.protocol.Ask.{shares}
use Rattle.nq_lease.proofs.Within.{any-within}
use Rattle.nq_lease.proofs.grant.scan.is_file_shared.Goals as goal

pub returns : goal.returns
returns c =
    let p = shares c.args.file c.args.host in
    c.any_shared.ensures ∙ ap (list_any p) c.rows_of.ensures ∙ any-within p (is_of c.args.file) (λ r e. rw e refl) c.args.table.now.rows
