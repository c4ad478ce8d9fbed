use Rattle.std.proofs.Common.{sym, arith}
use Rattle.std.proofs.lemmas.List.{take_all}
use Rattle.nq_whole.proofs.pieces.front_of.Goals as goal

pub returns-then-bytes-lt-SIZE-clause-front : goal.returns-then-bytes-lt-SIZE-clause-front
returns-then-bytes-lt-SIZE-clause-front c = sym (take_all 4096 c.args.bytes.now (omega (arith, c.if-bytes-lt-SIZE.true)))
