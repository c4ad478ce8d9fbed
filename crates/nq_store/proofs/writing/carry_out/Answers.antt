use Rattle.std.proofs.Common.{◌⊎◌, ℕ, List, length, refl, subst, inl, inr, arith}
use Rattle.nq_disk.specs.Batch.{IsFit}
use Rattle.nq_disk.specs.Saying.{Each}
use Rattle.nq_disk.specs.Whole.{IsClosed, OpensAfter, OpensAsOne, Settled, after}
use Rattle.nq_disk.specs.declared.redo.area.Area.{Area}
use Rattle.nq_store.specs.Changing.{zeroed}
use Rattle.nq_store.specs.Storing.{OpensWhole, StandsStill}
use Rattle.nq_store.proofs.Zeroing.{on-ok, then-ok, through}
use Rattle.nq_store.proofs.writing.carry_out.Goals as goal

pub returns-in_err-write_zeros-clause-whole : goal.returns-in_err-write_zeros-clause-whole
returns-in_err-write_zeros-clause-whole g c = λ old told s ready fit image left.
    inl (image, c.write_zeros.ensures.still old told s ready image left, (omega arith, refl))

pub returns-clause-settled : goal.returns-clause-settled
returns-clause-settled g c = on-ok c.apply.result _ (λ is old told s ready fit.
    let z = zeroed c.args.fresh.now old in
    let mid = c.in_ok-write_zeros.ensures.written old told in
    let Then : Area → Type 0 = λ a. Each (g.D.Disk.may_leave c.write_zeros.new.disk) (IsClosed a) → IsFit a (length z) c.args.batch.now
    → Settled a (after a c.args.batch.now z) (g.D.Disk.told c.apply.new.self.disk) (g.D.Disk.may_leave c.apply.new.self.disk) in
    subst Then c.requires.area (then-ok c.apply.result _ is c.apply.ensures.applied z mid)
    (λ image may. (c.write_zeros.ensures.still old told s ready image (g.met.D.Disk.leaves_ends c.args.redo.now.disk c.write_zeros.new.disk image
    c.write_zeros.ensures.follows (inr may))).closed)
    fit)

pub returns-clause-whole : goal.returns-clause-whole
returns-clause-whole g c = λ old told s ready fit image left.
    let z = zeroed c.args.fresh.now old in
    let mid = c.in_ok-write_zeros.ensures.written old told in
    let still : Each (g.D.Disk.leaves c.args.redo.now.disk c.write_zeros.new.disk) (StandsStill s old) = c.write_zeros.ensures.still old told s ready in
    let ends : (i : List ℕ) → g.D.Disk.may_leave c.write_zeros.new.disk i → g.D.Disk.leaves c.args.redo.now.disk c.write_zeros.new.disk i = λ i may.
    g.met.D.Disk.leaves_ends c.args.redo.now.disk c.write_zeros.new.disk i c.write_zeros.ensures.follows (inr may) in
    let Then : Area → Type 0 = λ a. Each (g.D.Disk.may_leave c.write_zeros.new.disk) (IsClosed a) → IsFit a (length z) c.args.batch.now
    → Each (g.D.Disk.leaves c.write_zeros.new.disk c.apply.new.self.disk) (λ i. OpensAsOne a (g.D.Disk.may_leave c.write_zeros.new.disk) i
    ⊎ OpensAfter a c.args.batch.now z i) in
    through (OpensWhole s c.args.batch.now old z) _ _ image
    (g.met.D.Disk.parts c.args.redo.now.disk c.write_zeros.new.disk c.apply.new.self.disk image c.write_zeros.ensures.follows c.apply.ensures.follows left)
    (λ l. inl (image, still image l, (omega arith, refl)))
    (λ l. elim (subst Then c.requires.area (c.apply.ensures.whole z mid) (λ i may. (still i (ends i may)).closed) fit image l) [
      | inl before ↦ inl (before.0, still before.0 (ends before.0 before.1), before.2)
      | inr behind ↦ inr behind
    ])
