use Rattle.std.proofs.Common.{◌≡◌, Bool, true, false, Some, None, refl, sym, ◌∙◌, ap}
use Rattle.std.specs.Bool.{then_some}
use Rattle.std.specs.List.{slice_get, prefix_len}
use Rattle.nq_base.specs.declared.Row.{Row}
use Rattle.nq_model.specs.protocol.Table.{is_row_of}
use Rattle.nq_lease.specs.Rows.{is_before}
use Rattle.nq_lease.proofs.Splits.{find-split, taken}
use Rattle.nq_lease.proofs.Order.{split-at}
use Rattle.nq_lease.proofs.rows.at_place.Goals as goal

if-passes : (q : Row → Bool) (row : Row) (b : Bool) → b ≡ q row → then_some b row ≡ taken q (Some row)
if-passes q row true e = rw (← e) refl
if-passes q row false e = rw (← e) refl

pub returns : goal.returns
returns c =
    let p = is_before c.args.file c.args.host in
    let q = is_row_of c.args.file c.args.host in
    let rows = c.args.rows.now in
    let found = find-split p q rows (split-at c.args.file c.args.host rows c.requires.ordered) in
    let at : slice_get rows (prefix_len p rows) ≡ Some c.in_ok-row.row = ap (slice_get rows) (sym c.requires.place) ∙ sym c.nth.ensures ∙ c.in_ok-row.was in
    c.then_some.ensures ∙ if-passes q c.in_ok-row.row c.is_of.result c.is_of.ensures ∙ ap (taken q) (sym at) ∙ sym found

pub returns-in_err-row : goal.returns-in_err-row
returns-in_err-row c =
    let p = is_before c.args.file c.args.host in
    let q = is_row_of c.args.file c.args.host in
    let rows = c.args.rows.now in
    let found = find-split p q rows (split-at c.args.file c.args.host rows c.requires.ordered) in
    let at : slice_get rows (prefix_len p rows) ≡ None = ap (slice_get rows) (sym c.requires.place) ∙ sym c.nth.ensures ∙ c.in_err-row.was in
    c.from_residual.ensures ∙ ap (taken q) (sym at) ∙ sym found
