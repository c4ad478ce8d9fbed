use Rattle.std.proofs.Common.{◌-◌, arith}
use Rattle.nq_link.proofs.Repeating.{repeated-on}
use Rattle.nq_link.proofs.net.runs.last_behind.Goals as goal

pub returns-clause-same : goal.returns-clause-same
returns-clause-same c =
    let bytes = c.args.bytes.now in
    let place = c.args.place in
    let far = c.last_by-far.result in
    let near = c.last_by-near.result in
    let end = c.last_by.result in
    let four = c.requires.before in
    let one = c.last_by-far.ensures.behind in
    let two = c.last_by-near.ensures.behind in
    let three = c.last_by.ensures.behind in
    let first = repeated-on bytes (place - 4) (far - 4) (far - place) (near - far) (near - place) (omega (arith, four, one)) (omega (arith, one, two))
    c.last_by-far.ensures.same c.last_by-near.ensures.same in
    repeated-on bytes (place - 4) (near - 4) (near - place) (end - near) (end - place) (omega (arith, four, one, two))
    (omega (arith, one, two, three)) first c.last_by.ensures.same
