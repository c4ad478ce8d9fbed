use Rattle.std.proofs.Common.{arith, refl, sym, ◌∙◌}
use Rattle.nq_disk.specs.Whole.{OpensAsOne}
use Rattle.nq_disk.proofs.RedoGoing.{through}
use Rattle.nq_disk.proofs.Replaying.{gate-read}
use Rattle.nq_disk.proofs.redo.replay.open_with.Goals as goal

pub returns-in_err-len-clause-leaves : goal.returns-in_err-len-clause-leaves
returns-in_err-len-clause-leaves g c = λ old told long image left. (image, c.read_record.ensures.leaves image left, (omega arith, refl))

pub returns-in_err-len-clause-again : goal.returns-in_err-len-clause-again
returns-in_err-len-clause-again g c = λ old told closed. c.read_record.ensures.same ∙ told

pub returns-clause-leaves : goal.returns-clause-leaves
returns-clause-leaves g c = λ old told long image left.
    through (OpensAsOne c.args.area (g.D.Disk.may_leave c.args.disk.now)) _ _ image
    (g.met.D.Disk.parts c.args.disk.now c.read_record.new.disk c.replay.new.disk image c.read_record.ensures.follows c.replay.ensures.follows left)
    (λ l. (image, c.read_record.ensures.leaves image l, (omega arith, refl)))
    (λ l. (
      old,
      g.met.D.Disk.told_may_stay c.args.disk.now old told,
      c.replay.ensures.leaves old (c.read_record.ensures.same ∙ told)
          (c.in_ok-len.ensures.settles old told) long (c.in_ok-len.ensures.long old told) (c.in_ok-len.ensures.record old told long) image l,
    ))

pub returns-clause-opens : goal.returns-clause-opens
returns-clause-opens g c = λ old told long.
    c.replay.ensures.opens old (c.read_record.ensures.same ∙ told) (c.in_ok-len.ensures.settles old told) long (c.in_ok-len.ensures.long old told)
    (c.in_ok-len.ensures.record old told long)

pub returns-clause-again : goal.returns-clause-again
returns-clause-again g c = λ old told closed.
    c.replay.ensures.quiet (λ gate. closed.shut (sym (gate-read c.args.area c.requires.area old c.read_record.new.content closed.long
    (c.in_ok-len.ensures.record old told closed.long)) ∙ gate))
    ∙ c.read_record.ensures.same ∙ told
