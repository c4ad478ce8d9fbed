use Rattle.std.proofs.Common.{Ok, Err, subst, ◌∙◌, inr, ⊎_elim}
use Rattle.nq_store.specs.Storing.{StoredStore}
use Rattle.nq_store.proofs.Left.{back-given}
use Rattle.nq_store.proofs.Opened.{content-same, kept-same, opens-both, says-opened, sound-opened, stands-opened}
use Rattle.nq_store.proofs.Staying.{stays-refused}
use Rattle.nq_store.proofs.store.Store.open.Goals as goal

pub invariant_of-result : goal.invariant_of-result
invariant_of-result g c =
    let mid = c.in_ok-redo.redo.disk in
    let last = c.open_tables.new.redo.disk in
    let told = g.D.Disk.told in
    let may = g.D.Disk.may_leave in
    let opens = opens-both (Ok c.in-Ok.tables) (told c.args.disk) (told mid) (told last) (may mid) (may last) c.in_ok-redo.ensures.shut
    c.in-Ok.ensures.told in (
      c.open_tables.ensures.area,
      λ goes. sound-opened c.in-Ok.tables (told c.args.disk) (told last) (may last)
          (λ none. g.met.D.Disk.silent mid last c.open_tables.ensures.follows (g.met.D.Disk.silent c.args.disk mid c.in_ok-redo.ensures.follows none)) opens,
    )

pub returns-in-Ok-clause-content : goal.returns-in-Ok-clause-content
returns-in-Ok-clause-content g c =
    let mid = c.in_ok-redo.redo.disk in
    let last = c.open_tables.new.redo.disk in
    let told = g.D.Disk.told in
    let may = g.D.Disk.may_leave in
    let opens = opens-both (Ok c.in-Ok.tables) (told c.args.disk) (told mid) (told last) (may mid) (may last) c.in_ok-redo.ensures.shut c.in-Ok.ensures.told in
    content-same c.in-Ok.tables (told c.args.disk) (told last) (may last)
    (λ none. g.met.D.Disk.silent mid last c.open_tables.ensures.follows (g.met.D.Disk.silent c.args.disk mid c.in_ok-redo.ensures.follows none)) opens

pub returns-in-Ok-clause-stands : goal.returns-in-Ok-clause-stands
returns-in-Ok-clause-stands g c =
    let mid = c.in_ok-redo.redo.disk in
    let last = c.open_tables.new.redo.disk in
    let told = g.D.Disk.told in
    let may = g.D.Disk.may_leave in
    stands-opened c.in-Ok.tables (told c.args.disk) (told last) (may last)
    (opens-both (Ok c.in-Ok.tables) (told c.args.disk) (told mid) (told last) (may mid) (may last) c.in_ok-redo.ensures.shut c.in-Ok.ensures.told)

pub returns-in-Err-clause-wrong : goal.returns-in-Err-clause-wrong
returns-in-Err-clause-wrong g c =
    let mid = c.in_ok-redo.redo.disk in
    let last = c.open_tables.new.redo.disk in
    let told = g.D.Disk.told in
    let may = g.D.Disk.may_leave in
    let opens = opens-both (Err c.in-Err.fault) (told c.args.disk) (told mid) (told last) (may mid) (may last) c.in_ok-redo.ensures.shut
    c.in-Err.ensures.told in
    says-opened (StoredStore g.row.D.Denot) c.in-Err.fault last c.of.result (told c.args.disk) (told last) (may last) c.of.ensures opens

pub returns-in-Ok-clause-leaves : goal.returns-in-Ok-clause-leaves
returns-in-Ok-clause-leaves g c = λ bytes is image left.
    let mid = c.in_ok-redo.redo.disk in
    let last = c.open_tables.new.redo.disk in
    let s = c.in_ok-redo.ensures.shut bytes is in
    ⊎_elim (λ l. c.in_ok-redo.ensures.leaves bytes is image l)
    (λ l. inr (c.open_tables.ensures.leaves s.now s.told s.shut image l ∙ kept-same s.now bytes s.same))
    (g.met.D.Disk.parts c.args.disk mid last image c.in_ok-redo.ensures.follows c.open_tables.ensures.follows left)

pub returns-in-Err-clause-leaves : goal.returns-in-Err-clause-leaves
returns-in-Err-clause-leaves g c = λ bytes is image left.
    let mid = c.in_ok-redo.redo.disk in
    let last = c.open_tables.new.redo.disk in
    let s = c.in_ok-redo.ensures.shut bytes is in
    let there = subst (λ (d : g.row.D.Denot). g.D.Disk.leaves c.args.disk d image) (back-given c.in-Err.fault last c.of.result c.of.ensures) left in
    ⊎_elim (λ l. c.in_ok-redo.ensures.leaves bytes is image l)
    (λ l. inr (c.open_tables.ensures.leaves s.now s.told s.shut image l ∙ kept-same s.now bytes s.same))
    (g.met.D.Disk.parts c.args.disk mid last image c.in_ok-redo.ensures.follows c.open_tables.ensures.follows there)

pub returns-in-Err-clause-stays : goal.returns-in-Err-clause-stays
returns-in-Err-clause-stays g c = λ bytes is.
    let s = c.in_ok-redo.ensures.shut bytes is in
    stays-refused g.D.Disk.told c.in-Err.fault c.open_tables.new.redo.disk c.of.result bytes s.now c.of.ensures s.settled
    (c.in-Err.ensures.stays s.now s.told s.shut)
