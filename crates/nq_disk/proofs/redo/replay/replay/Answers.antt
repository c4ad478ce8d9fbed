use Rattle.std.proofs.Common.{◌≡◌, ◌≢◌, get_or, ◌∙◌, arith}
use Rattle.std.proofs.lemmas.Bool.Decides.{nat_tests}
use Rattle.nq_disk.proofs.Replaying.{bad-read, closed-read, open-read, opens-itself, ranges-read}
use Rattle.nq_disk.proofs.redo.replay.replay.Goals as goal

pub returns-then-content-ne1-clause-opens : goal.returns-then-content-ne1-clause-opens
returns-then-content-ne1-clause-opens g c = λ old told only long len_is read.
    let shut : get_or c.args.content.now 0 0 ≢ 1 = grind (arith, nat_tests) in
    closed-read c.args.area c.requires.area old c.args.content.now long read (g.D.Disk.told c.args.disk.now) (g.D.Disk.may_leave c.args.disk.now) shut
    told only

pub returns-then-content-ne1-clause-leaves : goal.returns-then-content-ne1-clause-leaves
returns-then-content-ne1-clause-leaves g c = λ old told only long len_is read image left. opens-itself c.args.area old image
    (only image (g.met.D.Disk.leaves_now c.args.disk.now image left))

pub returns-in-Some-clause-opens : goal.returns-in-Some-clause-opens
returns-in-Some-clause-opens g c = λ old told only long len_is read.
    let gate : get_or c.args.content.now 0 0 ≡ 1 = grind (arith, nat_tests) in
    (bad-read c.args.area c.requires.area old c.args.content.now long read c.args.len c.in-Some.place gate len_is c.in-Some.ensures, told)

pub returns-in-Some-clause-leaves : goal.returns-in-Some-clause-leaves
returns-in-Some-clause-leaves g c = λ old told only long len_is read image left. opens-itself c.args.area old image
    (only image (g.met.D.Disk.leaves_now c.args.disk.now image left))

pub returns-in_err-settle-clause-leaves : goal.returns-in_err-settle-clause-leaves
returns-in_err-settle-clause-leaves g c = λ old told only long len_is read image left.
    let gate : get_or c.args.content.now 0 0 ≡ 1 = grind (arith, nat_tests) in
    c.settle.ensures.leaves old told only (open-read c.args.area c.requires.area old c.args.content.now long read c.args.len gate len_is c.in_default.ensures)
    (c.ranges_of-count.ensures ∙ ranges-read c.args.area c.requires.area old c.args.content.now long read) image left

pub returns-clause-leaves : goal.returns-clause-leaves
returns-clause-leaves g c = λ old told only long len_is read image left.
    let gate : get_or c.args.content.now 0 0 ≡ 1 = grind (arith, nat_tests) in
    c.settle.ensures.leaves old told only (open-read c.args.area c.requires.area old c.args.content.now long read c.args.len gate len_is c.in_default.ensures)
    (c.ranges_of-count.ensures ∙ ranges-read c.args.area c.requires.area old c.args.content.now long read) image left

pub returns-clause-opens : goal.returns-clause-opens
returns-clause-opens g c = λ old told only long len_is read.
    let gate : get_or c.args.content.now 0 0 ≡ 1 = grind (arith, nat_tests) in
    c.in_ok-settle.ensures.settled old told only (open-read c.args.area c.requires.area old c.args.content.now long read c.args.len gate len_is
    c.in_default.ensures)
    (c.ranges_of-count.ensures ∙ ranges-read c.args.area c.requires.area old c.args.content.now long read)

pub returns-in-Some-clause-quiet : goal.returns-in-Some-clause-quiet
returns-in-Some-clause-quiet g c = λ shut.
    let gate : get_or c.args.content.now 0 0 ≡ 1 = grind (arith, nat_tests) in
    absurd (shut gate)

pub returns-in_err-settle-clause-quiet : goal.returns-in_err-settle-clause-quiet
returns-in_err-settle-clause-quiet g c = λ shut.
    let gate : get_or c.args.content.now 0 0 ≡ 1 = grind (arith, nat_tests) in
    absurd (shut gate)

pub returns-clause-quiet : goal.returns-clause-quiet
returns-clause-quiet g c = λ shut.
    let gate : get_or c.args.content.now 0 0 ≡ 1 = grind (arith, nat_tests) in
    absurd (shut gate)
