use Rattle.std.proofs.Common.{◌≤◌, arith}
use Rattle.std.proofs.lemmas.Bool.{iff_false}
use Rattle.nq_script.specs.Heads.{blocks_of}
use Rattle.nq_script.proofs.HeadReading.{next-found, next-fits}
use Rattle.nq_script.proofs.heads.next_file.Goals as goal

pub has_room-requires : goal.has_room-requires
has_room-requires c =
    let few : blocks_of c.args.files.now ≤ 16384 = c.requires.fit.few_blocks in
    let same = c.requires.sum in omega arith

pub returns-then-not-has_room-clause-none : goal.returns-then-not-has_room-clause-none
returns-then-not-has_room-clause-none c = λ _ f spelled fit.
    iff_false c.has_room.ensures c.if-not-has_room.true
    (next-fits c.args.line.now c.args.files.now _ f c.args.blocks c.in-Some.ensures.found c.requires.sum spelled fit).0

pub returns-then-not-is_new-clause-none : goal.returns-then-not-is_new-clause-none
returns-then-not-is_new-clause-none c = λ _ f spelled fit.
    iff_false c.is_new.ensures c.if-not-is_new.true
    (next-fits c.args.line.now c.args.files.now _ f c.args.blocks c.in-Some.ensures.found c.requires.sum spelled fit).1

pub returns-clause-found : goal.returns-clause-found
returns-clause-found c =
    next-found c.args.line.now c.args.files.now _ c.args.blocks c.in-Some.ensures.found c.requires.fit c.requires.sum
    (c.has_room.ensures.0 c.if-not-has_room.false) (c.is_new.ensures.0 c.if-not-is_new.false)
