use Rattle.std.proofs.Common.{◌≡◌, ◌≤◌, ◌++◌, refl, sym, ◌∙◌, ap, subst, length, map, arith, append-nil}
use Rattle.std.proofs.lemmas.Map.Iter.{rest_more, rest_all}
use Rattle.std.specs.Map.Iter.{deref_pair}
use Rattle.nq_client_parts.proofs.OfEntries.{lost, lost-more, lost_count-more, lost-less}
use Rattle.nq_model.specs.protocol.Hear.{loss_of}
use Rattle.nq_client_parts.proofs.dirty.entries.add_losses.Goals as goal

pub loop-key-init : goal.loop-key-init
loop-key-init c =
    let start : c.into_iter-key-iterator.result ≡ c.args.entries.now.entries = c.into_iter-key-iterator.ensures.into_iter_gives.0 in
    rw start (refl, c.requires)

pub unwrap-requires : goal.unwrap-requires
unwrap-requires c =
    let split = rest_more deref_pair c.loop-key.key-iterator c.next.new.self c.next.result (c.in-Some.key, c.in-Some.writes) c.in-Some.is
    c.next.ensures.steps in
    let more = lost_count-more c.args.file _ _ _ split (sym c.if-eq.ensures) in
    c.push.ensures.succeeds (omega (arith, more, c.loop-key.invariant.1))

pub loop-key-preserved-then-eq : goal.loop-key-preserved-then-eq
loop-key-preserved-then-eq c =
    let split = rest_more deref_pair c.loop-key.key-iterator c.next.new.self c.next.result (c.in-Some.key, c.in-Some.writes) c.in-Some.is
    c.next.ensures.steps in
    let pushed = rw c.unwrap.ensures at c.push.ensures.ok in
    let more = lost_count-more c.args.file _ _ _ split (sym c.if-eq.ensures) in (
      ap (λ items. items ++ lost c.args.file c.next.new.self) pushed
          ∙ lost-more c.args.file c.loop-key.into.items _ _ _ split (sym c.if-eq.ensures)
          ∙ c.loop-key.invariant.0,
      omega (arith, more, c.loop-key.invariant.1, c.push.ensures.spare),
    )

pub loop-key-preserved : goal.loop-key-preserved
loop-key-preserved c =
    let split = rest_more deref_pair c.loop-key.key-iterator c.next.new.self c.next.result (c.in-Some.key, c.in-Some.writes) c.in-Some.is
    c.next.ensures.steps in
    let same = lost-less c.args.file _ _ _ split (sym c.if-eq.ensures) in (
      ap (λ ps. c.loop-key.into.items ++ map loss_of ps) same ∙ c.loop-key.invariant.0,
      subst (λ ps. length ps ≤ c.loop-key.into.spare) (sym same) c.loop-key.invariant.1,
    )

pub returns : goal.returns
returns c =
    let none = rest_all deref_pair c.loop-key.key-iterator c.next.new.self c.next.result c.in-None.is c.next.ensures.steps in
    sym (append-nil c.loop-key.into.items)
    ∙ ap (λ es. c.loop-key.into.items ++ lost c.args.file es) (sym none)
    ∙ c.loop-key.invariant.0
