use Rattle.std.proofs.Common.{◌≡◌, true, false, arith, [], ◌∷◌, ap, length, ℕ, sym, ◌∙◌, subst, List}
use Rattle.std.proofs.lemmas.List.{length-append}
use Rattle.nq_image.specs.Check.{tested}
use Rattle.nq_image.specs.Layout.{word_in, are_zeros}
use Rattle.nq_image.specs.Tables.{is_id, ids_checks, ids_of}
use Rattle.nq_image.proofs.Walks.{id-passes, id-fails, no-id-left, rest-behind-ids}
use Rattle.nq_image.proofs.ids.read_ids.Goals as goal

pub returns-then-not-is_id-clause-told : goal.returns-then-not-is_id-clause-told
returns-then-not-is_id-clause-told c =
    let whole = tested (ids_checks c.args.next c.args.place [] c.args.slots.now c.args.block.now) (ids_of c.args.slots.now c.args.block.now) in
    let P : ℕ → Type 0 = λ id. is_id c.args.next c.deref.result.now c.slot-item.result id ≡ false in
    let Q : List ℕ → Type 0 = λ ids. is_id c.args.next ids c.slot-item.result (word_in 0 c.loop-slot.rest.now) ≡ false in
    let told : c.is_id.result ≡ false = cc in
    let wrong = subst Q c.deref.ensures.value (subst P c.word_in-id.ensures (sym c.is_id.ensures ∙ told)) in
    id-fails c.args.next c.loop-slot.at c.loop-slot.slot-index c.loop-slot.ids.items c.loop-slot.rest.now c.args.slots.now c.slot-item.result whole
    c.loop-slot-test.true c.slot-item.is wrong c.loop-slot.invariant.same

pub loop-slot-preserved : goal.loop-slot-preserved
loop-slot-preserved c =
    let whole = tested (ids_checks c.args.next c.args.place [] c.args.slots.now c.args.block.now) (ids_of c.args.slots.now c.args.block.now) in
    let P : ℕ → Type 0 = λ id. is_id c.args.next c.deref.result.now c.slot-item.result id ≡ true in
    let Q : List ℕ → Type 0 = λ ids. is_id c.args.next ids c.slot-item.result (word_in 0 c.loop-slot.rest.now) ≡ true in
    let told : c.is_id.result ≡ true = cc in
    let right = subst Q c.deref.ensures.value (subst P c.word_in-id.ensures (sym c.is_id.ensures ∙ told)) in
    record {
      size = omega arith;
      at = omega arith;
      all = omega (arith, ap length c.in_ok-push.ensures.items, length-append c.loop-slot.ids.items (c.word_in-id.result ∷ []));
      same = rw (c.in_ok-push.ensures.items, c.split_at.ensures.back, c.word_in-id.ensures) (id-passes c.args.next c.loop-slot.at
          c.loop-slot.slot-index c.loop-slot.ids.items c.loop-slot.rest.now c.args.slots.now c.slot-item.result whole c.loop-slot-test.true
          c.slot-item.is right c.loop-slot.invariant.same);
    }

pub returns-then-not-are_zeros-clause-told : goal.returns-then-not-are_zeros-clause-told
returns-then-not-are_zeros-clause-told c =
    let whole = tested (ids_checks c.args.next c.args.place [] c.args.slots.now c.args.block.now) (ids_of c.args.slots.now c.args.block.now) in
    let wrong : are_zeros c.loop-slot.rest.now ≡ false = cc in
    rest-behind-ids c.args.next c.loop-slot.at c.loop-slot.slot-index c.loop-slot.ids.items c.loop-slot.rest.now c.args.slots.now whole (omega arith)
    wrong c.loop-slot.invariant.same

pub returns-clause-told : goal.returns-clause-told
returns-clause-told c =
    let whole = tested (ids_checks c.args.next c.args.place [] c.args.slots.now c.args.block.now) (ids_of c.args.slots.now c.args.block.now) in
    let zeros : are_zeros c.loop-slot.rest.now ≡ true = cc in
    no-id-left c.args.next c.loop-slot.at c.loop-slot.slot-index c.loop-slot.ids.items c.loop-slot.rest.now c.args.slots.now whole (omega arith) zeros
    c.loop-slot.invariant.same
