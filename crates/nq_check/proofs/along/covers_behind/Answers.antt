use Rattle.std.proofs.Common.{◌+◌, ◌<◌, length, arith}
use Rattle.nq_model.specs.laws.JournalTest.{loss_covers}
use Rattle.nq_check.proofs.Standing.{behind_is}
use Rattle.nq_check.proofs.along.covers_behind.Goals as goal

pub returns : goal.returns
returns c =
    let within : c.args.place < length c.args.whole.now = c.requires.within in
    behind_is (loss_covers c.args.loss.now) c.args.whole.now (c.args.place + 1) c.is_between.result (omega arith) c.is_between.ensures.yes
    c.is_between.ensures.no
