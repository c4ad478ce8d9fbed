use Rattle.std.proofs.Common.{None, sym, ap, ◌∙◌, subst, arith}
use Rattle.nq_server.specs.Sound.{IsOfBoot}
use Rattle.nq_server.specs.State.{phase_of}
use Rattle.nq_server.proofs.Booted.{at_boot, beside-booted, no-rows, none-drawn, none-run, of-boot}
use Rattle.nq_server.proofs.booting.state_after.Goals as goal

pub returns-clause-boots : goal.returns-clause-boots
returns-clause-boots c =
    λ kept is empty.
    ap (λ p. at_boot (phase_of p) c.args.begun.table c.args.longest c.args.now) c.phase_after.ensures ∙ beside-booted kept c.args.longest c.args.now
    None c.args.begun.started c.args.begun.table is empty

pub returns-clause-sound : goal.returns-clause-sound
returns-clause-sound c =
    let none = no-rows c.args.begun.table c.requires.empty in
    record {
      sound = record {
        early = c.requires.early;
        long = c.requires.long;
        short = c.requires.short;
        run = none-run c.args.now c.args.begun.table.rows none;
        of_boot = subst (λ p. IsOfBoot c.args.longest p c.args.begun.table.rows) (sym c.phase_after.ensures)
            (of-boot c.args.longest c.args.begun.started None c.args.begun.table.rows c.requires.term none);
      };
      drawn = omega (arith, none-drawn c.args.begun.table c.requires.empty);
      few = omega arith;
    }
