use Rattle.std.proofs.Common.{◌≡◌, ◌+◌, ◌-◌, ◌*◌, ◌/◌, length, arith}
use Rattle.nq_link.proofs.Repeating.{repeated-on}
use Rattle.nq_link.proofs.net.runs.Run.in_bytes.Goals as goal

pub run_at-requires-clause-same : goal.run_at-requires-clause-same
run_at-requires-clause-same c =
    let bytes = c.args.bytes.now in
    let middle = length bytes / 8 * 4 in
    let at = c.first_before-at.result in
    let end = c.last_behind-end.result in
    let one = c.first_before-at.ensures.before in
    let two = c.last_behind-end.ensures.behind in
    let back : middle + 4 - 4 ≡ middle = omega arith in
    repeated-on bytes at middle (middle - at) (end - (middle + 4)) (end - 4 - at) (omega (arith, one)) (omega (arith, one, two))
    c.first_before-at.ensures.same (rw back at c.last_behind-end.ensures.same)
