use Rattle.std.proofs.Common.{rules, sym}
use Rattle.std.specs.Prelude.{IsTrue}
use Rattle.nq_check.proofs.along.is_somewhere_near.Goals as goal

pub returns-then-is_there : goal.returns-then-is_there
returns-then-is_there c =
    let yes : IsTrue c.is_there.result = search rules in
    sym (c.is_there.ensures yes)
