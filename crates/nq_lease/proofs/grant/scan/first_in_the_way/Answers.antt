use Rattle.std.proofs.Common.{refl, ap, ◌∙◌}
use Rattle.std.specs.List.{find}
use Rattle.nq_lease.specs.Rows.{is_of}
use Rattle.nq_model.specs.protocol.Ask.{conflicts}
use Rattle.nq_lease.proofs.Within.{find-within}
use Rattle.nq_lease.proofs.grant.scan.first_in_the_way.Goals as goal

pub returns : goal.returns
returns c =
    let p = conflicts c.args.file c.args.host c.args.access in
    c.first_of.ensures ∙ ap (find p) c.rows_of.ensures ∙ find-within p (is_of c.args.file) (λ r e. rw e refl) c.args.table.now.rows
