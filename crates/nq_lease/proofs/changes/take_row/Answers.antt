use Rattle.std.proofs.Common.{◌≡◌, Some, None, arith, sym, ◌∙◌, vec_capacity}
use Rattle.std.specs.List.{prefix_len}
use Rattle.nq_model.specs.protocol.Table.{is_row_of, find_row}
use Rattle.nq_lease.specs.Rows.{is_before}
use Rattle.nq_lease.proofs.Keeping.{stands, end-there, drop-is-remove, kept-taken}
use Rattle.nq_lease.proofs.Splits.{filter-none}
use Rattle.nq_lease.proofs.changes.take_row.Goals as goal

pub returns-in-None-clause-rows : goal.returns-in-None-clause-rows
returns-in-None-clause-rows c =
    let none : find_row c.args.file c.args.host c.args.rows.now.items ≡ None = rw (← c.as_slice-2.ensures.value) (sym c.at_place.ensures ∙ c.in-None.is) in
    sym (filter-none (is_row_of c.args.file c.args.host) c.args.rows.now.items none)

pub take_end-requires-clause-there : goal.take_end-requires-clause-there
take_end-requires-clause-there c =
    let rows = c.args.rows.now.items in
    let place : c.place_of-place.result ≡ prefix_len (is_before c.args.file c.args.host) rows = rw (← c.as_slice.ensures.value) c.place_of-place.ensures in
    let there : find_row c.args.file c.args.host rows ≡ Some c.in-Some.old = rw (← c.as_slice-2.ensures.value) (sym c.at_place.ensures ∙ c.in-Some.is) in
    let at = stands c.args.file c.args.host rows c.in-Some.old c.place_of-place.result c.requires.ordered there place in
    rw c.end_of.ensures (end-there _ _ c.place_of-place.result c.in-Some.old at c.requires.are_ends)

pub remove-requires : goal.remove-requires
remove-requires c =
    let rows = c.args.rows.now.items in
    let place : c.place_of-place.result ≡ prefix_len (is_before c.args.file c.args.host) rows = rw (← c.as_slice.ensures.value) c.place_of-place.ensures in
    let there : find_row c.args.file c.args.host rows ≡ Some c.in-Some.old = rw (← c.as_slice-2.ensures.value) (sym c.at_place.ensures ∙ c.in-Some.is) in
    let at = stands c.args.file c.args.host rows c.in-Some.old c.place_of-place.result c.requires.ordered there place in
    omega (arith, at.within)

pub returns-in-Some-clause-rows : goal.returns-in-Some-clause-rows
returns-in-Some-clause-rows c =
    let rows = c.args.rows.now.items in
    let place : c.place_of-place.result ≡ prefix_len (is_before c.args.file c.args.host) rows = rw (← c.as_slice.ensures.value) c.place_of-place.ensures in
    let there : find_row c.args.file c.args.host rows ≡ Some c.in-Some.old = rw (← c.as_slice-2.ensures.value) (sym c.at_place.ensures ∙ c.in-Some.is) in
    c.remove.ensures.items ∙ sym (drop-is-remove c.args.file c.args.host _ c.in-Some.old _ c.requires.ordered there place)

pub returns-in-Some-clause-kept : goal.returns-in-Some-clause-kept
returns-in-Some-clause-kept c =
    let rows = c.args.rows.now.items in
    let place : c.place_of-place.result ≡ prefix_len (is_before c.args.file c.args.host) rows = rw (← c.as_slice.ensures.value) c.place_of-place.ensures in
    let there : find_row c.args.file c.args.host rows ≡ Some c.in-Some.old = rw (← c.as_slice-2.ensures.value) (sym c.at_place.ensures ∙ c.in-Some.is) in
    rw c.remove.ensures.items (kept-taken c.args.file c.args.host rows (vec_capacity c.args.rows.now) c.args.ends.now.items
    (vec_capacity c.args.ends.now) c.place_of-place.result c.in-Some.old c.take_end.new.ends.items _ _ c.requires there place
    (λ time. rw c.end_of.ensures at c.take_end.ensures.counts time)
    c.take_end.ensures.ends
    c.take_end.ensures.all
    (omega (arith, c.remove.ensures.capacity))
    (omega (arith, c.take_end.ensures.capacity)))
