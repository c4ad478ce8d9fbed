use Rattle.std.proofs.Common.{◌≡◌, true, ◌+◌, ◌∷◌, take, drop, reverse, subst, sym}
use Rattle.nq_check.specs.Losses.{is_told}
use Rattle.nq_rules.specs.Named.{is_reported}
use Rattle.nq_rules.proofs.Places.{taken_here}
use Rattle.nq_model.specs.laws.Reported.{loss_told}
use Rattle.nq_check.proofs.reports.is_told.Goals as goal

pub returns-in-L : goal.returns-in-L
returns-in-L c =
    let whole = c.args.whole.now in
    let place = c.args.place in
    let s = c.in-L in
    let loss = loss_told s.file s.block s.first s.last in
    let before = reverse (take place whole) in
    let after = drop (place + 1) whole in
    λ t. subst (λ e. is_told whole place e ≡ true) (sym s.is)
    (subst (λ e. is_reported (reverse whole) (e ∷ before) s.who loss after ≡ true) s.is
    (subst (λ l. is_reported (reverse whole) l s.who loss after ≡ true) (taken_here whole place c.args.entry.now c.requires.there.1)
    (c.is_reported.ensures t)))
