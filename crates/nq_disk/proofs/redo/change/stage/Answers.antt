use Rattle.std.proofs.Common.{◌+◌, ◌⊎◌, ℕ, List, [], ◌∷◌, ap, ◌∙◌, inl, inr, subst}
use Rattle.nq_disk.specs.Bytes.{Torn, written}
use Rattle.nq_disk.specs.Calling.{told_after}
use Rattle.nq_disk.specs.Whole.{OpensAs, OpensAsOne, staged}
use Rattle.nq_disk.proofs.Changing.{while-opening, while-staging}
use Rattle.nq_disk.proofs.RedoGoing.{on-ok, then-writes, through}
use Rattle.nq_disk.proofs.redo.change.stage.Goals as goal

pub returns-in_err-write_synced-clause-leaves : goal.returns-in_err-write_synced-clause-leaves
returns-in_err-write_synced-clause-leaves g c = λ old told short closed image left.
    let from = c.write_synced.ensures.leaves image left in
    inl (from.0, from.1, while-staging c.args.area c.requires c.args.body.now short from.0 image (closed from.0 from.1) from.2)

pub returns-clause-staged : goal.returns-clause-staged
returns-clause-staged g c = on-ok c.write_synced-2.result _ (λ is old told.
    then-writes c.write_synced-2.result c.args.area.place (1 ∷ []) (g.D.Disk.told c.write_synced.new.disk) (g.D.Disk.told c.write_synced-2.new.disk)
    (written (c.args.area.place + 1) c.args.body.now old) is c.write_synced-2.ensures.writes
    (c.in_ok-write_synced.ensures.writes ∙ ap (told_after (c.args.area.place + 1) c.args.body.now) told))

pub returns-clause-leaves : goal.returns-clause-leaves
returns-clause-leaves g c = λ old told short closed image left.
    let behind = written (c.args.area.place + 1) c.args.body.now old in
    through (λ (i : List ℕ). OpensAsOne c.args.area (g.D.Disk.may_leave c.args.disk.now) i ⊎ OpensAs c.args.area (staged c.args.area c.args.body.now
    old) i) _ _ image
    (g.met.D.Disk.parts c.args.disk.now c.write_synced.new.disk c.write_synced-2.new.disk image c.write_synced.ensures.follows
    c.write_synced-2.ensures.follows left)
    (λ l.
    let from = c.write_synced.ensures.leaves image l in
    inl (from.0, from.1, while-staging c.args.area c.requires c.args.body.now short from.0 image (closed from.0 from.1) from.2))
    (λ l.
    let from = c.write_synced-2.ensures.leaves image l in
    let told_then = c.in_ok-write_synced.ensures.writes ∙ ap (told_after (c.args.area.place + 1) c.args.body.now) told in
    let is_behind = c.in_ok-write_synced.ensures.settles behind told_then from.0 from.1 in
    let may = g.met.D.Disk.told_may_stay c.args.disk.now old told in
    elim (while-opening c.args.area c.requires c.args.body.now short old image (closed old may)
    (subst (λ (i : List ℕ). Torn c.args.area.place 1 i image) is_behind from.2)) [
      | inl before ↦ inl (old, may, before)
      | inr after ↦ inr after
    ])
