use Rattle.nq_lease.specs.Rows.{is_of, is_below, is_upto}
use Rattle.nq_lease.proofs.OfFile.{parts-of, filter-parts}
use Rattle.nq_lease.proofs.rows.of_file.Goals as goal

pub returns : goal.returns
returns c =
    let file = c.args.file in
    let rows = c.args.rows.now in
    rw (c.span_of-first.ensures.first, c.span_of-first.ensures.end) (filter-parts (is_below file) (is_upto file) (is_of file) rows
    (parts-of file rows c.requires))
