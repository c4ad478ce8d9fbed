use Rattle.std.proofs.Common.{◌+◌, [], arith, refl, ap, sym, ◌∙◌}
use Rattle.std.proofs.lemmas.List.{append-nil}
use Rattle.nq_journal.specs.Text.{journal_text}
use Rattle.nq_journal.proofs.Pieces.{text_at, text_whole, entry_more, stopped, failed, extended, all_given, flushed, fit_more, all_fit}
use Rattle.nq_journal.proofs.Pieces.{memory_not_all, failed_not_all}
use Rattle.nq_journal.proofs.printing.print.Goals as goal
use Rattle.nq_journal.proofs.printing.print.Goals.{then-len-ge-PIECE+in-All, else-len-ge-PIECE}

pub returns-in_default-push_line-clause-puts : goal.returns-in_default-push_line-clause-puts
returns-in_default-push_line-clause-puts g c =
    let version = c.args.version in
    let items = c.entries-entry-items.result.now in
    stopped _ _ _ _ _ _ _ _ c.loop-entry.invariant.given
    (ap (journal_text version) (sym c.entries-entry-items.ensures) ∙ text_at version items c.loop-entry.entry-index)

pub returns-in-Failed-clause-puts : goal.returns-in-Failed-clause-puts
returns-in-Failed-clause-puts g c =
    let version = c.args.version in
    let items = c.entries-entry-items.result.now in
    let place = c.loop-entry.entry-index in
    let step = entry_more version items place c.entry-item.result (omega arith) c.entry-item.is in
    let grown = extended _ _ _ _ _ _ _ c.push_line.new.out.items _ c.loop-entry.invariant.given c.in-Ok-push_line.ensures.written step in
    failed _ _ _ _ _ _ _ _ _ grown
    (ap (journal_text version) (sym c.entries-entry-items.ensures) ∙ text_at version items (place + 1))
    (rw (← c.deref.ensures.value) c.in-Failed.ensures.puts)

pub loop-entry-preserved : goal.loop-entry-preserved
loop-entry-preserved g c =
    let items = c.entries-entry-items.result.now in
    let place = c.loop-entry.entry-index in
    let step = entry_more c.args.version items place c.entry-item.result (omega arith) c.entry-item.is in
    let grown = extended _ _ _ _ _ _ _ c.push_line.new.out.items _ c.loop-entry.invariant.given c.in-Ok-push_line.ensures.written step in
    record {
      given = elim c.if-len-ge-PIECE.branch [
        | then-len-ge-PIECE+in-All w ↦
            rw (w.out-is, w.text-is)
            (flushed _ _ _ _ _ _ _ _ _ grown (rw (← w.deref.ensures.value) w.in-All.ensures.puts) w.in-All.ensures.cause w.clear.ensures.items)
        | else-len-ge-PIECE w ↦ rw (w.out-is, w.text-is) grown
      ];
      fits = fit_more items place c.entry-item.result (omega arith) c.entry-item.is c.loop-entry.invariant.fits c.in-Ok-push_line.ensures.fits;
    }

pub returns-in_default-push_end-clause-puts : goal.returns-in_default-push_end-clause-puts
returns-in_default-push_end-clause-puts g c =
    let items = c.entries-entry-items.result.now in
    stopped _ _ _ _ _ _ _ _ c.loop-entry.invariant.given
    (text_whole c.args.version items _ c.loop-entry.entry-index c.entries-entry-items.ensures (omega arith))

pub returns-in-All-put-clause-puts : goal.returns-in-All-put-clause-puts
returns-in-All-put-clause-puts g c =
    let items = c.entries-entry-items.result.now in
    let whole = text_whole c.args.version items _ c.loop-entry.entry-index c.entries-entry-items.ensures (omega arith) in
    let grown = extended _ _ _ _ _ _ _ c.push_end.new.out.items _ c.loop-entry.invariant.given c.in-Ok-push_end.ensures whole in
    all_given _ _ _ _ _ _ _ grown (rw (← c.deref-2.ensures.value) c.in-All-put.ensures.puts)

pub returns-in-All-put-clause-grammar : goal.returns-in-All-put-clause-grammar
returns-in-All-put-clause-grammar g c = λ _. record {
  version_known = c.requires.version;
  has = c.requires.has;
  fits = all_fit c.entries-entry-items.result.now _ c.loop-entry.entry-index c.entries-entry-items.ensures (omega arith) c.loop-entry.invariant.fits;
  spelled = refl;
}

pub returns-clause-puts : goal.returns-clause-puts
returns-clause-puts g c =
    let items = c.entries-entry-items.result.now in
    let whole = text_whole c.args.version items _ c.loop-entry.entry-index c.entries-entry-items.ensures (omega arith) in
    let grown = extended _ _ _ _ _ _ _ c.push_end.new.out.items _ c.loop-entry.invariant.given c.in-Ok-push_end.ensures whole in
    failed _ _ _ _ _ _ _ [] _ grown (sym (append-nil _)) (rw (← c.deref-2.ensures.value) c.in-Failed-put.ensures.puts)

pub returns-in_default-clause-grammar : goal.returns-in_default-clause-grammar
returns-in_default-clause-grammar g c = memory_not_all

pub returns-in_default-push_line-clause-grammar : goal.returns-in_default-push_line-clause-grammar
returns-in_default-push_line-clause-grammar g c = memory_not_all

pub returns-in_default-push_end-clause-grammar : goal.returns-in_default-push_end-clause-grammar
returns-in_default-push_end-clause-grammar g c = memory_not_all

pub returns-in-Failed-clause-grammar : goal.returns-in-Failed-clause-grammar
returns-in-Failed-clause-grammar g c = failed_not_all

pub returns-clause-grammar : goal.returns-clause-grammar
returns-clause-grammar g c = failed_not_all

pub returns-in_default-push_line-clause-cause : goal.returns-in_default-push_line-clause-cause
returns-in_default-push_line-clause-cause g c = c.loop-entry.invariant.given.calm

pub returns-in_default-push_end-clause-cause : goal.returns-in_default-push_end-clause-cause
returns-in_default-push_end-clause-cause g c = c.loop-entry.invariant.given.calm
