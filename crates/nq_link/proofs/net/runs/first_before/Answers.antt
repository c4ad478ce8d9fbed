use Rattle.std.proofs.Common.{◌-◌, arith}
use Rattle.nq_link.proofs.Repeating.{repeated-on}
use Rattle.nq_link.proofs.net.runs.first_before.Goals as goal

pub returns-clause-same : goal.returns-clause-same
returns-clause-same c =
    let bytes = c.args.bytes.now in
    let place = c.args.place in
    let far = c.first_by-far.result in
    let near = c.first_by-near.result in
    let at = c.first_by.result in
    let one = c.first_by-far.ensures.before in
    let two = c.first_by-near.ensures.before in
    let three = c.first_by.ensures.before in
    let first = repeated-on bytes at near (near - at) (far - near) (far - at) (omega (arith, three)) (omega (arith, two, three))
    c.first_by.ensures.same c.first_by-near.ensures.same in
    repeated-on bytes at far (far - at) (place - far) (place - at) (omega (arith, two, three)) (omega (arith, one, two, three)) first
    c.first_by-far.ensures.same
