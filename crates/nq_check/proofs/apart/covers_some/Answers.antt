use Rattle.std.proofs.Common.{◌≡◌, true, reverse, subst, sym}
use Rattle.nq_base.specs.declared.Entry.{Entry}
use Rattle.nq_model.specs.laws.JournalTest.{covers, exists}
use Rattle.nq_check.specs.Covered.{covers_some}
use Rattle.nq_check.proofs.apart.covers_some.Goals as goal

pub returns-in-L : goal.returns-in-L
returns-in-L c =
    let whole = reverse c.args.whole.now in
    let s = c.in-L in
    λ t. subst (λ (e : Entry). covers_some whole e ≡ true) (sym s.is)
    (subst (λ (e : Entry). exists (covers e) whole ≡ true) s.is (c.is_there.ensures t))
