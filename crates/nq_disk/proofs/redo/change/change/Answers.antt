use Rattle.std.proofs.Common.{◌⊎◌, ℕ, List, inr}
use Rattle.nq_disk.specs.Whole.{OpensAs, OpensAsOne, staged}
use Rattle.nq_disk.proofs.RedoGoing.{on-ok, then-ok, through}
use Rattle.nq_disk.proofs.redo.change.change.Goals as goal

pub returns-in_err-stage-clause-leaves : goal.returns-in_err-stage-clause-leaves
returns-in_err-stage-clause-leaves g c = λ old told short closed open_now same image left. c.stage.ensures.leaves old told short closed image left

pub returns-clause-settled : goal.returns-clause-settled
returns-clause-settled g c = on-ok c.settle.result _ (λ is old told open_now same.
    let staged_now = staged c.args.area c.args.body.now old in
    let told_then = c.in_ok-stage.ensures.staged old told in
    then-ok c.settle.result _ is c.settle.ensures.settled staged_now told_then (c.in_ok-stage.ensures.settles staged_now told_then) open_now same)

pub returns-clause-leaves : goal.returns-clause-leaves
returns-clause-leaves g c = λ old told short closed open_now same image left.
    let staged_now = staged c.args.area c.args.body.now old in
    let told_then = c.in_ok-stage.ensures.staged old told in
    through (λ (i : List ℕ). OpensAsOne c.args.area (g.D.Disk.may_leave c.args.disk.now) i ⊎ OpensAs c.args.area staged_now i) _ _ image
    (g.met.D.Disk.parts c.args.disk.now c.stage.new.disk c.settle.new.disk image c.stage.ensures.follows c.settle.ensures.follows left)
    (c.stage.ensures.leaves old told short closed image)
    (λ l. inr (c.settle.ensures.leaves staged_now told_then (c.in_ok-stage.ensures.settles staged_now told_then) open_now same image l))
