use Rattle.std.proofs.Common.{refl}
use Rattle.nq_bend.proofs.Coming.{alike}
use Rattle.nq_observe.proofs.Telling.{tells_all}
use Rattle.nq_bend.proofs.puts.acts_of.Goals as goal

pub returns : goal.returns
returns c =
    let same = c.if-not-is_alike.ensures refl in
    alike c.args.head.now c.args.script.head c.args.script.lines same.0 same.1 same.2
    (tells_all c.args.script.head c.args.script.lines c.requires.text c.requires.spelled)
