use Rattle.std.proofs.Common.{◌≡◌, reverse, take}
use Rattle.nq_model.specs.laws.JournalTest.{exists, is_answer, is_call, somewhere}
use Rattle.nq_rules.specs.Kept.{is_put_kept}
use Rattle.nq_rules.proofs.synchronized.is_put_kept.Given as goal

abbrev pub invariant-loop-place : goal.invariant-loop-place
invariant-loop-place l =
    (l.called ≡ exists (is_call l.by l.n) (reverse (take l.place l.before)))
    × (l.answered ≡ exists (is_answer l.by l.n) (reverse (take l.place l.before)))
    × (l.found ≡ somewhere (is_put_kept (reverse l.before) l.by l.n) (reverse (take l.place l.before)))
