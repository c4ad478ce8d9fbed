use Rattle.std.proofs.Common.{[], ◌∷◌, ap, sym, ◌∙◌, arith}
use Rattle.std.specs.Option.{option_map}
use Rattle.std.proofs.lemmas.Bool.{true≢false}
use Rattle.std.proofs.lemmas.List.{length-append}
use Rattle.nq_base.specs.Plain.{plain}
use Rattle.nq_journal.proofs.Rests.{emptied, not_emptied, shorter, ends_here, goes_on, not_read, unfinished, one_more, entries_more}
use Rattle.nq_journal.proofs.parsing.parse_rest.Goals as goal

pub returns-then-is_empty : goal.returns-then-is_empty
returns-then-is_empty c =
    let known = c.loop-line.invariant in
    ends_here _ _ _ _ c.in-Some.line.now c.in-Some.after.now known.are known.split c.in-Some.ensures (c.is.ensures.same.0 c.if-is.true)
    (emptied c.in-Some.after.now c.if-is_empty.ensures)

pub returns-then-is : goal.returns-then-is
returns-then-is c =
    let known = c.loop-line.invariant in
    goes_on _ _ _ _ _ _ c.in-Some.line.now c.in-Some.after.now known.are known.number c.saturating_add.ensures known.split c.in-Some.ensures
    (c.is.ensures.same.0 c.if-is.true) (not_emptied c.in-Some.after.now c.if-is_empty.ensures)

pub returns-in_default-2 : goal.returns-in_default-2
returns-in_default-2 c =
    let known = c.loop-line.invariant in
    not_read _ _ _ _ _ c.in-Some.line.now c.in-Some.after.now known.are known.number known.split c.in-Some.ensures
    (λ last. true≢false (sym (c.is.ensures.same.1 last) ∙ c.if-is.false)) (sym c.in_ok-entry.ensures.step ∙ ap (option_map plain) c.in_default-2.is)

pub loop-line-smaller : goal.loop-line-smaller
loop-line-smaller c = shorter c.loop-line.rest.now c.in-Some.line.now c.in-Some.after.now c.in-Some.ensures

pub loop-line-preserved : goal.loop-line-preserved
loop-line-preserved c =
    let known = c.loop-line.invariant in
    let found = rw c.in-Some-2.is at c.in_ok-entry.ensures.found in
    rw c.in_ok-push.ensures.ok
    record {
      are = entries_more c.args.version c.loop-line.journal.entries c.in-Some-2.entry known.are found.1 found.0.1;
      split =
          one_more c.args.version c.loop-line.journal.entries c.in-Some-2.entry _ _ c.in-Some.line.now c.in-Some.after.now known.split c.in-Some.ensures
          found.0.0;
      number = omega (arith, length-append c.loop-line.journal.entries (c.in-Some-2.entry ∷ []), known.number, c.saturating_add-number.ensures);
    }

pub returns : goal.returns
returns c =
    let known = c.loop-line.invariant in
    unfinished _ _ _ _ _ known.are known.number known.split c.in_default.ensures
