use Rattle.std.proofs.Common.{◌≡◌, ◌<◌, Some, None, length, arith, sym, ◌∙◌, vec_capacity}
use Rattle.std.proofs.lemmas.List.Sums.{prefix_len-le-length}
use Rattle.std.specs.List.{prefix_len}
use Rattle.nq_model.specs.protocol.Table.{find_row}
use Rattle.nq_lease.specs.Rows.{is_before}
use Rattle.nq_lease.proofs.Keeping.{stands, end-there, kept-added, kept-replaced}
use Rattle.nq_lease.proofs.Order.{put-new, put-old}
use Rattle.nq_lease.proofs.changes.put_row.Goals as goal

pub take_end-requires-clause-there : goal.take_end-requires-clause-there
take_end-requires-clause-there c =
    let row = c.args.row.now in
    let rows = c.args.rows.now.items in
    let place : c.place_of-place.result ≡ prefix_len (is_before row.file row.who.host) rows = rw (← c.as_slice.ensures.value) c.place_of-place.ensures in
    let there : find_row row.file row.who.host rows ≡ Some c.in-Some.old = rw (← c.as_slice-2.ensures.value) (sym c.at_place.ensures ∙ c.in-Some.is) in
    let at = stands row.file row.who.host rows c.in-Some.old c.place_of-place.result c.requires.ordered there place in
    rw c.end_of.ensures (end-there _ _ c.place_of-place.result c.in-Some.old at c.requires.are_ends)

pub write-requires : goal.write-requires
write-requires c =
    let row = c.args.row.now in
    let rows = c.args.rows.now.items in
    let place : c.place_of-place.result ≡ prefix_len (is_before row.file row.who.host) rows = rw (← c.as_slice.ensures.value) c.place_of-place.ensures in
    let there : find_row row.file row.who.host rows ≡ Some c.in-Some.old = rw (← c.as_slice-2.ensures.value) (sym c.at_place.ensures ∙ c.in-Some.is) in
    let at = stands row.file row.who.host rows c.in-Some.old c.place_of-place.result c.requires.ordered there place in
    omega (arith, at.within)

pub returns-in-Some-clause-ok : goal.returns-in-Some-clause-ok
returns-in-Some-clause-ok c =
    let row = c.args.row.now in
    let rows = c.args.rows.now.items in
    let place : c.place_of-place.result ≡ prefix_len (is_before row.file row.who.host) rows = rw (← c.as_slice.ensures.value) c.place_of-place.ensures in
    let there : find_row row.file row.who.host rows ≡ Some c.in-Some.old = rw (← c.as_slice-2.ensures.value) (sym c.at_place.ensures ∙ c.in-Some.is) in
    c.write.ensures.items ∙ rw place (sym (put-old row rows c.in-Some.old c.requires.ordered there))

pub returns-in-Some-clause-kept : goal.returns-in-Some-clause-kept
returns-in-Some-clause-kept c =
    let row = c.args.row.now in
    let rows = c.args.rows.now.items in
    let place : c.place_of-place.result ≡ prefix_len (is_before row.file row.who.host) rows = rw (← c.as_slice.ensures.value) c.place_of-place.ensures in
    let there : find_row row.file row.who.host rows ≡ Some c.in-Some.old = rw (← c.as_slice-2.ensures.value) (sym c.at_place.ensures ∙ c.in-Some.is) in
    rw c.write.ensures.items (kept-replaced rows (vec_capacity c.args.rows.now) c.args.ends.now.items (vec_capacity c.args.ends.now)
    c.place_of-place.result c.in-Some.old row c.take_end.new.ends.items c.add.new.ends.items _ _ c.requires there place
    (λ time. rw c.end_of.ensures at c.take_end.ensures.counts time)
    (λ time. rw c.end_of-in-Some.ensures at c.add.ensures.counts time)
    c.add.ensures.ends
    (omega (arith, c.take_end.ensures.all, c.add.ensures.all))
    c.write.ensures.capacity
    (omega (arith, c.take_end.ensures.capacity, c.add.ensures.capacity)))

pub add-requires-in-None-2-clause-place : goal.add-requires-in-None-2-clause-place
add-requires-in-None-2-clause-place c =
    let row = c.args.row.now in
    let rows = c.args.rows.now.items in
    let place : c.place_of-place.result ≡ prefix_len (is_before row.file row.who.host) rows = rw (← c.as_slice.ensures.value) c.place_of-place.ensures in
    let within = prefix_len-le-length (is_before row.file row.who.host) rows in
    omega (arith, place, within)

pub returns-else-len-ge-MOST_ROWS-clause-ok : goal.returns-else-len-ge-MOST_ROWS-clause-ok
returns-else-len-ge-MOST_ROWS-clause-ok c =
    let row = c.args.row.now in
    let rows = c.args.rows.now.items in
    let place : c.place_of-place.result ≡ prefix_len (is_before row.file row.who.host) rows = rw (← c.as_slice.ensures.value) c.place_of-place.ensures in
    let none : find_row row.file row.who.host rows ≡ None = rw (← c.as_slice-2.ensures.value) (sym c.at_place.ensures ∙ c.in-None.is) in
    c.add-in-None-2.ensures.items ∙ rw place (sym (put-new row rows c.requires.ordered none))

pub returns-else-len-ge-MOST_ROWS-clause-kept : goal.returns-else-len-ge-MOST_ROWS-clause-kept
returns-else-len-ge-MOST_ROWS-clause-kept c =
    let row = c.args.row.now in
    let rows = c.args.rows.now.items in
    let place : c.place_of-place.result ≡ prefix_len (is_before row.file row.who.host) rows = rw (← c.as_slice.ensures.value) c.place_of-place.ensures in
    let none : find_row row.file row.who.host rows ≡ None = rw (← c.as_slice-2.ensures.value) (sym c.at_place.ensures ∙ c.in-None.is) in
    let room : length rows < 2048 = omega (arith, c.len.ensures, c.if-len-ge-MOST_ROWS.false) in
    rw c.add-in-None-2.ensures.items (kept-added rows (vec_capacity c.args.rows.now) c.args.ends.now.items (vec_capacity c.args.ends.now)
    c.place_of-place.result row c.add-in-None.new.ends.items _ _ c.requires none room place
    (λ time. rw c.end_of-in-None.ensures at c.add-in-None.ensures.counts time)
    c.add-in-None.ensures.ends
    c.add-in-None.ensures.all
    c.add-in-None-2.ensures.capacity
    c.add-in-None.ensures.capacity)
