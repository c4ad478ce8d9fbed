use Rattle.std.proofs.Common.{refl}
use Rattle.std.proofs.lemmas.List.Sums.{prefix_len-le-length}
use Rattle.nq_lease.specs.Rows.{is_of, is_below, is_upto}
use Rattle.nq_lease.proofs.OfFile.{parts-of, parts-le}
use Rattle.nq_lease.proofs.rows.span_of.Goals as goal

pub returns : goal.returns
returns c =
    let file = c.args.file in
    let rows = c.args.rows.now in
    let parts = parts-of file rows c.requires in
    rw (c.first_of.ensures, c.end_of.ensures) (record {
      ordered = parts-le (is_below file) (is_upto file) (is_of file) rows parts;
      within = prefix_len-le-length (is_upto file) rows;
      first = refl;
      end = refl;
    })
