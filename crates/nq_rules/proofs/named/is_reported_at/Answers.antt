use Rattle.nq_rules.proofs.Places.{taken_here}
use Rattle.nq_rules.proofs.named.is_reported_at.Goals as goal

pub returns-in-L : goal.returns-in-L
returns-in-L c =
    let taken = rw c.in-L.is at (taken_here c.args.whole.now c.args.place c.args.entry.now c.requires.1) in
    rw (c.in-L.is, ← taken) c.is_reported.ensures
