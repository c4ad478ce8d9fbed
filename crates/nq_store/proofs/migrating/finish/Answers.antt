use Rattle.std.proofs.Common.{◌⊎◌, ℕ, List, length, refl, subst, ◌∙◌, inl, inr, arith}
use Rattle.nq_plan.specs.Standing.{image_area}
use Rattle.nq_disk.specs.Batch.{IsFit}
use Rattle.nq_disk.specs.Saying.{Each}
use Rattle.nq_disk.specs.Whole.{IsClosed, OpensAfter, OpensAsOne, Settled, after}
use Rattle.nq_disk.specs.declared.redo.area.Area.{Area}
use Rattle.nq_store.proofs.Zeroing.{through}
use Rattle.nq_store.proofs.migrating.finish.Goals as goal

pub returns-in_err-sync-clause-whole : goal.returns-in_err-sync-clause-whole
returns-in_err-sync-clause-whole g c = λ mid told closed fit image left. inl (image, c.sync.ensures.leaves image left, (omega arith, refl))

pub returns-in_err-apply-clause-whole : goal.returns-in_err-apply-clause-whole
returns-in_err-apply-clause-whole g c = λ mid told closed fit image left.
    let more : (i : List ℕ) → g.D.Disk.may_leave c.sync.new.self i → g.D.Disk.may_leave c.args.redo.now.disk i = λ i may. c.sync.ensures.leaves i
    (g.met.D.Disk.leaves_ends c.args.redo.now.disk c.sync.new.self i c.sync.ensures.follows (inr may)) in
    let Then : Area → Type 0 = λ a. Each (g.D.Disk.may_leave c.sync.new.self) (IsClosed a) → IsFit a (length mid) c.args.batch.now
    → Each (g.D.Disk.leaves c.sync.new.self c.apply.new.self.disk) (λ i. OpensAsOne a (g.D.Disk.may_leave c.sync.new.self) i
    ⊎ OpensAfter a c.args.batch.now mid i) in
    through (λ i. OpensAsOne image_area (g.D.Disk.may_leave c.args.redo.now.disk) i ⊎ OpensAfter image_area c.args.batch.now mid i) _ _ image
    (g.met.D.Disk.parts c.args.redo.now.disk c.sync.new.self c.apply.new.self.disk image c.sync.ensures.follows c.apply.ensures.follows left)
    (λ l. inl (image, c.sync.ensures.leaves image l, (omega arith, refl)))
    (λ l. elim (subst Then c.requires (c.apply.ensures.whole mid (c.sync.ensures.same ∙ told)) (λ i may. closed i (more i may)) fit image l) [
      | inl before ↦ inl (before.0, more before.0 before.1, before.2)
      | inr behind ↦ inr behind
    ])

pub returns-clause-settled : goal.returns-clause-settled
returns-clause-settled g c = λ mid told closed fit.
    let more : (i : List ℕ) → g.D.Disk.may_leave c.sync.new.self i → g.D.Disk.may_leave c.args.redo.now.disk i = λ i may. c.sync.ensures.leaves i
    (g.met.D.Disk.leaves_ends c.args.redo.now.disk c.sync.new.self i c.sync.ensures.follows (inr may)) in
    let Then : Area → Type 0 = λ a. Each (g.D.Disk.may_leave c.sync.new.self) (IsClosed a) → IsFit a (length mid) c.args.batch.now
    → Settled a (after a c.args.batch.now mid) (g.D.Disk.told c.apply.new.self.disk) (g.D.Disk.may_leave c.apply.new.self.disk) in
    subst Then c.requires (c.in_ok-apply.ensures.applied mid (c.sync.ensures.same ∙ told)) (λ i may. closed i (more i may)) fit

pub returns-clause-whole : goal.returns-clause-whole
returns-clause-whole g c = λ mid told closed fit image left.
    let more : (i : List ℕ) → g.D.Disk.may_leave c.sync.new.self i → g.D.Disk.may_leave c.args.redo.now.disk i = λ i may. c.sync.ensures.leaves i
    (g.met.D.Disk.leaves_ends c.args.redo.now.disk c.sync.new.self i c.sync.ensures.follows (inr may)) in
    let Then : Area → Type 0 = λ a. Each (g.D.Disk.may_leave c.sync.new.self) (IsClosed a) → IsFit a (length mid) c.args.batch.now
    → Each (g.D.Disk.leaves c.sync.new.self c.apply.new.self.disk) (λ i. OpensAsOne a (g.D.Disk.may_leave c.sync.new.self) i
    ⊎ OpensAfter a c.args.batch.now mid i) in
    through (λ i. OpensAsOne image_area (g.D.Disk.may_leave c.args.redo.now.disk) i ⊎ OpensAfter image_area c.args.batch.now mid i) _ _ image
    (g.met.D.Disk.parts c.args.redo.now.disk c.sync.new.self c.apply.new.self.disk image c.sync.ensures.follows c.apply.ensures.follows left)
    (λ l. inl (image, c.sync.ensures.leaves image l, (omega arith, refl)))
    (λ l. elim (subst Then c.requires (c.apply.ensures.whole mid (c.sync.ensures.same ∙ told)) (λ i may. closed i (more i may)) fit image l) [
      | inl before ↦ inl (before.0, more before.0 before.1, before.2)
      | inr behind ↦ inr behind
    ])
