use Rattle.std.proofs.Common.{◌≡◌, ◌<◌, length, refl, sym, ap, ◌∙◌, arith}
use Rattle.std.proofs.lemmas.List.{length-set}
use Rattle.std.specs.List.{prefix_len}
use Rattle.nq_lease.specs.Rows.{is_below, is_upto}
use Rattle.nq_lease.proofs.Marking.{marks-begin, marks-end, marks-one, marks-none}
use Rattle.nq_lease.proofs.changes.mark.Goals as goal
use Rattle.nq_lease.proofs.changes.mark.Goals.{then-is_in_the_way, else-is_in_the_way}

pub loop-place-init : goal.loop-place-init
loop-place-init c =
    let rows = c.args.rows.now.items in
    let first : c.span_of-first.result.0 ≡ prefix_len (is_below c.args.file) rows = rw (← c.as_slice.ensures.value) c.span_of-first.ensures.first in
    record { items = marks-begin c.args.file c.args.host c.args.access rows _ c.requires first; long = refl; capacity = omega arith }

pub loop-place-preserved : goal.loop-place-preserved
loop-place-preserved c =
    let rows = c.args.rows.now.items in
    let within : c.loop-place.place < length rows = omega (arith, c.span_of-first.ensures.within, c.as_slice.ensures.len, c.args.rows.now.ok.0) in
    elim c.if-is_in_the_way.branch [
      | then-is_in_the_way w ↦ rw w.rows-is (record {
        items = w.write.ensures.items ∙ marks-one c.args.file c.args.host c.args.access rows c.loop-place.rows.items c.loop-place.place
            c.index.result.now within c.loop-place.invariant.items c.index.ensures (sym c.is_in_the_way.ensures ∙ w.if-is_in_the_way.true);
        long = ap length w.write.ensures.items ∙ length-set c.loop-place.rows.items c.loop-place.place _ ∙ c.loop-place.invariant.long;
        capacity = omega (arith, w.write.ensures.capacity, c.loop-place.invariant.capacity);
      })
      | else-is_in_the_way w ↦ rw w.rows-is (record {
        items = marks-none c.args.file c.args.host c.args.access rows c.loop-place.rows.items c.loop-place.place c.index.result.now within
            c.loop-place.invariant.items c.index.ensures (sym c.is_in_the_way.ensures ∙ w.if-is_in_the_way.false);
        long = c.loop-place.invariant.long;
        capacity = c.loop-place.invariant.capacity;
      })
    ]

pub returns-clause-rows : goal.returns-clause-rows
returns-clause-rows c =
    let rows = c.args.rows.now.items in
    let end : c.span_of-first.result.1 ≡ prefix_len (is_upto c.args.file) rows = rw (← c.as_slice.ensures.value) c.span_of-first.ensures.end in
    let there : c.loop-place.place ≡ c.span_of-first.result.1 = omega (arith, c.loop-place.auto.place-end, c.span_of-first.ensures.ordered) in
    c.loop-place.invariant.items ∙ marks-end c.args.file c.args.host c.args.access rows _ c.requires (there ∙ end)
