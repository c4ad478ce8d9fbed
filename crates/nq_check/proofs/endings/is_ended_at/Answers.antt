use Rattle.std.proofs.Common.{◌≡◌, ◌+◌, ◌<◌, true, false, not, length, drop, reverse, take, ap, subst, sym, ◌∙◌, arith}
use Rattle.std.proofs.lemmas.Bool.{and_from}
use Rattle.nq_base.specs.declared.Entry.TheVariants.{L}
use Rattle.nq_check.specs.Losses.{is_ended}
use Rattle.nq_check.proofs.Cutoffs.{ended_first}
use Rattle.nq_model.specs.laws.CutOffTest.{ends_first}
use Rattle.nq_model.specs.laws.JournalTest.{exists, loss_covers}
use Rattle.nq_check.proofs.endings.is_ended_at.Goals as goal

pub returns-else-covers_behind : goal.returns-else-covers_behind
returns-else-covers_behind c =
    let whole = c.args.whole.now in
    let place = c.args.place in
    let s = c.in-L in
    let loss = L s.who s.file s.block s.first s.last in
    let within : place < length whole = c.requires.linked.within in
    let none : exists (loss_covers c.args.entry.now) (drop (place + 1) whole) ≡ false = sym c.covers_behind.ensures ∙ c.if-covers_behind.false in
    λ t. subst (λ e. is_ended whole place e ≡ true) (sym s.is)
    (and_from (ends_first loss s.who s.file (reverse (take place whole))) (not (exists (loss_covers loss) (drop (place + 1) whole)))
    (ended_first c.own_key-key.result s.who s.file s.block s.first s.last whole c.back_from-last.result place c.own_key-key.ensures (omega arith)
    c.back_from-last.ensures.free (c.ends_behind.ensures t))
    (ap not (subst (λ e. exists (loss_covers e) (drop (place + 1) whole) ≡ false) s.is none)))
