use Rattle.std.proofs.Common.{◌≡◌, arith}
use Rattle.nq_name_server.proofs.Files.{removes-zero}
use Rattle.nq_name_server.proofs.change.removal.Goals as goal

pub returns-then-file-eq0 : goal.returns-then-file-eq0
returns-then-file-eq0 c = λ kept within.
    let view = c.file.view_is in
    let test = c.if-file-eq0.true in
    let none : c.args.file ≡ 0 = omega arith in
    removes-zero c.args.who c.args.file kept within none
