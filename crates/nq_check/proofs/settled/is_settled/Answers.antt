use Rattle.std.proofs.Common.{rules, reverse}
use Rattle.std.specs.Prelude.{IsTrue}
use Rattle.nq_model.specs.laws.JournalTest.{exists, is_stored}
use Rattle.nq_model.specs.laws.SynchronizedTest.{is_named_loss}
use Rattle.nq_rules.proofs.Places.{exists_there}
use Rattle.nq_check.proofs.OwnWrite.{or_here, or_there}
use Rattle.nq_check.proofs.settled.is_settled.Goals as goal

pub returns-then-is_there : goal.returns-then-is_there
returns-then-is_there c =
    let yes : IsTrue c.is_there.result = search rules in
    λ t. or_here (is_stored (reverse c.args.stores.now) c.args.write.now)
    (exists (is_named_loss (reverse c.args.linked.now.whole.now) (reverse c.args.answered.now) c.args.write.now) (reverse c.args.linked.now.whole.now))
    (c.is_there.ensures yes)

pub returns-in-Some : goal.returns-in-Some
returns-in-Some c =
    let whole = c.args.linked.now.whole.now in
    let named = is_named_loss (reverse whole) (reverse c.args.answered.now) c.args.write.now in
    λ t. or_there (is_stored (reverse c.args.stores.now) c.args.write.now) (exists named (reverse whole))
    (exists_there named whole c.args.fate c.in-Some.entry.now c.in-Some.ensures (c.is_named_loss.ensures t))
