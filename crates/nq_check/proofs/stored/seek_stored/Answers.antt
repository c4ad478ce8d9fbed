use Rattle.std.proofs.Common.{rules, length, ◌≤◌, sym, arith}
use Rattle.std.specs.Prelude.{IsTrue}
use Rattle.std.proofs.lemmas.Option.{slice_get_within}
use Rattle.nq_check.proofs.Fated.{lost_not_stored}
use Rattle.nq_check.proofs.stored.seek_stored.Goals as goal

pub returns-then-is_there : goal.returns-then-is_there
returns-then-is_there c =
    let yes : IsTrue c.is_there.result = search rules in
    sym (c.is_there.ensures yes)

pub returns-then-is_there-2 : goal.returns-then-is_there-2
returns-then-is_there-2 c =
    let whole = c.args.whole.now in
    let yes : IsTrue c.is_there-then-accounted-whole.result = search rules in
    let long : length whole ≤ c.args.accounted = omega arith in
    lost_not_stored whole c.args.accounted c.args.at c.args.write.now long c.requires.accounted c.requires.there
    (slice_get_within whole c.args.at c.args.write.now c.requires.there) (c.is_there-then-accounted-whole.ensures yes)
