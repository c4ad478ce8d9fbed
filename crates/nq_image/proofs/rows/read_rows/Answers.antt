use Rattle.std.proofs.Common.{◌≡◌, rules, Err, Ok, Option, arith, [], ◌∷◌, ap, length, ◌+◌, ◌≤◌, take, ℕ, sym, ◌∙◌, subst, List}
use Rattle.std.specs.List.{sum_by}
use Rattle.std.proofs.lemmas.List.{length-append}
use Rattle.std.proofs.lemmas.List.Elements.{All-push}
use Rattle.nq_image.specs.Check.{tested}
use Rattle.nq_image.specs.declared.fault.ImageFault.TheVariants.{BadField}
use Rattle.nq_image.specs.declared.rows.Slot.{Slot}
use Rattle.nq_image.specs.Rows.{blocks_of, row_checks, rows_checks, slot_of, slots_of}
use Rattle.nq_image.proofs.Walks.{few-more, row-passes, row-fails, no-row-left, reads-wrong}
use Rattle.nq_image.proofs.rows.read_rows.Goals as goal

pub returns-in_err-slot-clause-told : goal.returns-in_err-slot-clause-told
returns-in_err-slot-clause-told c =
    let P : List ℕ → Type 0 = λ row. tested (row_checks c.args.version c.loop.at c.deref.result.now row) (slot_of row) ≡ Err c.in_err-slot.field-0.0 in
    let Q : List (Option Slot) → Type 0 = λ slots. tested (row_checks c.args.version c.loop.at slots (take 96 c.loop.rest.now))
    (slot_of (take 96 c.loop.rest.now)) ≡ Err c.in_err-slot.field-0.0 in
    let wrong = subst Q c.deref.ensures.value (subst P c.split_at.ensures.front (sym c.read_row.ensures.told ∙ c.in_err-slot.was)) in
    let whole = tested (rows_checks c.args.version c.args.count c.args.place [] c.args.rows.now) (slots_of c.args.count c.args.rows.now) in
    let is : c.from_residual.result ≡ Err (BadField c.in_err-slot.field-0.0) = search rules in
    reads-wrong (λ slots. slots.items) c.from_residual.result c.in_err-slot.field-0.0 whole is
    (row-fails c.args.version c.args.count c.loop.counter c.loop.at c.loop.slots.items c.loop.rest.now c.in_err-slot.field-0.0 whole (omega arith)
    wrong c.loop.invariant.same)

pub loop-preserved : goal.loop-preserved
loop-preserved c =
    let P : List ℕ → Type 0 = λ row. tested (row_checks c.args.version c.loop.at c.deref.result.now row) (slot_of row) ≡ Ok c.in_ok-slot.slot in
    let Q : List (Option Slot) → Type 0 = λ slots. tested (row_checks c.args.version c.loop.at slots (take 96 c.loop.rest.now))
    (slot_of (take 96 c.loop.rest.now)) ≡ Ok c.in_ok-slot.slot in
    let right = subst Q c.deref.ensures.value (subst P c.split_at.ensures.front (sym c.read_row.ensures.told ∙ c.in_ok-slot.was)) in
    let whole = tested (rows_checks c.args.version c.args.count c.args.place [] c.args.rows.now) (slots_of c.args.count c.args.rows.now) in
    let F : List (Option Slot) → Type 0 = λ slots. sum_by blocks_of slots + blocks_of c.in_ok-slot.slot ≤ 16384 in
    record {
      size = omega arith;
      at = omega arith;
      few = rw c.in_ok-push.ensures.items (few-more c.loop.slots.items c.in_ok-slot.slot (subst F c.deref.ensures.value c.in_ok-slot.ensures.few));
      all = omega (arith, ap length c.in_ok-push.ensures.items, length-append c.loop.slots.items (c.in_ok-slot.slot ∷ []));
      short = rw c.in_ok-push.ensures.items (All-push (λ slot. blocks_of slot ≤ 1024) c.loop.slots.items c.in_ok-slot.slot c.loop.invariant.short
          c.in_ok-slot.ensures.short);
      same = rw (c.in_ok-push.ensures.items, c.split_at.ensures.back) (row-passes c.args.version c.args.count c.loop.counter c.loop.at
          c.loop.slots.items c.loop.rest.now c.in_ok-slot.slot whole (omega arith) right c.loop.invariant.same);
    }

pub returns-clause-told : goal.returns-clause-told
returns-clause-told c =
    let whole = tested (rows_checks c.args.version c.args.count c.args.place [] c.args.rows.now) (slots_of c.args.count c.args.rows.now) in
    no-row-left c.args.version c.args.count c.loop.counter c.loop.at c.loop.slots.items c.loop.rest.now whole (omega arith) c.loop.invariant.same
