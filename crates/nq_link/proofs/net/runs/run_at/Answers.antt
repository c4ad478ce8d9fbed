use Rattle.std.proofs.Common.{◌-◌, ◌*◌, ◌/◌, ◌≤◌, arith}
use Rattle.nq_link.proofs.Repeating.{repeated-fewer, run_found}
use Rattle.nq_link.proofs.net.runs.run_at.Goals as goal

pub returns-clause-parts : goal.returns-clause-parts
returns-clause-parts c =
    let bytes = c.args.bytes.now in
    let at = c.args.at in
    let end = c.args.end in
    let some = c.requires.some in
    let within = c.requires.within in
    let most : 4 * ((end - at) / 4) ≤ end - at = omega arith in
    run_found bytes at ((end - at) / 4) (omega (arith, some)) (omega (arith, within, some, most))
    (repeated-fewer bytes at (end - 4 - at) (4 * ((end - at) / 4) - 4) (omega (arith, most)) c.requires.same)
