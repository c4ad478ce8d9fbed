use Rattle.std.proofs.Common.{rules, ◌≡◌, true, reverse, sym, ◌∙◌, subst}
use Rattle.std.proofs.lemmas.Bool.{and_from}
use Rattle.nq_base.specs.declared.Entry.{Entry}
use Rattle.nq_base.specs.declared.Entry.TheVariants.{L}
use Rattle.nq_model.specs.laws.JournalTest.{exists, loss_covers}
use Rattle.nq_model.specs.laws.Reported.{loss_told}
use Rattle.nq_model.specs.laws.ReportedTest.{names}
use Rattle.nq_model.specs.laws.SynchronizedTest.{is_named_loss}
use Rattle.nq_check.proofs.settled.is_named_loss.Goals as goal

pub returns-else-not-loss_covers : goal.returns-else-not-loss_covers
returns-else-not-loss_covers c =
    let whole = reverse c.args.linked.now.whole.now in
    let answered = reverse c.args.answered.now in
    let write = c.args.write.now in
    let s = c.in-L in
    let loss = L s.who s.file s.block s.first s.last in
    let covers : c.loss_covers.result ≡ true = search rules in
    let covered : loss_covers loss write ≡ true = subst (λ (e : Entry). loss_covers e write ≡ true) s.is (sym c.loss_covers.ensures ∙ covers) in
    λ t. subst (λ (e : Entry). is_named_loss whole answered write e ≡ true) (sym s.is)
    (and_from (loss_covers loss write) (exists (names whole s.who (loss_told s.file s.block s.first s.last)) answered) covered (c.is_named_at.ensures t))
