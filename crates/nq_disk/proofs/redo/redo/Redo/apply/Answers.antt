use Rattle.std.proofs.Common.{◌+◌, ◌≤◌, ℕ, List, Result, length, ap, sym, subst, ◌∙◌, inl, inr}
use Rattle.nq_disk.specs.Record.{ranges_in}
use Rattle.nq_disk.specs.Whole.{Settled}
use Rattle.nq_disk.proofs.Batching.{as-after, as-long, as-open, as-ranges}
use Rattle.nq_disk.proofs.RedoGoing.{on-ok, then-ok}
use Rattle.nq_disk.proofs.redo.redo.Redo.apply.Goals as goal

pub returns-clause-applied : goal.returns-clause-applied
returns-clause-applied g c = on-ok c.change.result _ (λ is old told closed fit.
    let area = c.args.self.now.area in
    let rs = c.args.batch.now in
    let shut = closed old (g.met.D.Disk.told_may_stay c.args.self.now.disk old told) in
    let spells = c.body.ensures in
    let same = ap (λ (n : ℕ). ranges_in n c.ranges-2.result.now) c.count.ensures.counts ∙ c.ranges-2.ensures in
    let open_now = as-open area c.requires rs c.count.ensures.fits old shut fit c.body.result.now spells in
    let ranges = as-ranges area c.requires rs c.count.ensures.fits old shut fit c.body.result.now spells c.count.result c.ranges-2.result.now same in
    subst (λ (r : Result (List ℕ) ℕ). Settled area r (g.D.Disk.told c.change.new.disk) (g.D.Disk.may_leave c.change.new.disk))
    (as-after area c.requires rs c.count.ensures.fits old shut fit c.body.result.now spells)
    (then-ok c.change.result _ is c.change.ensures.settled old told open_now ranges))

pub returns-clause-whole : goal.returns-clause-whole
returns-clause-whole g c = λ old told closed fit image left.
    let area = c.args.self.now.area in
    let rs = c.args.batch.now in
    let shut = closed old (g.met.D.Disk.told_may_stay c.args.self.now.disk old told) in
    let spells = c.body.ensures in
    let same = ap (λ (n : ℕ). ranges_in n c.ranges-2.result.now) c.count.ensures.counts ∙ c.ranges-2.ensures in
    let open_now = as-open area c.requires rs c.count.ensures.fits old shut fit c.body.result.now spells in
    let ranges = as-ranges area c.requires rs c.count.ensures.fits old shut fit c.body.result.now spells c.count.result c.ranges-2.result.now same in
    elim (c.change.ensures.leaves old told (subst (λ (b : List ℕ). length b + 1 ≤ area.size) (sym spells) fit.short) closed open_now ranges image left) [
      | inl before ↦ inl before
      | inr behind ↦ inr (
        as-long area c.requires rs c.count.ensures.fits old shut fit c.body.result.now spells image behind.0,
        behind.1 ∙ as-after area c.requires rs c.count.ensures.fits old shut fit c.body.result.now spells,
      )
    ]
