use Rattle.std.proofs.Common.{◌≡◌, reverse, take}
use Rattle.nq_model.specs.laws.JournalTest.{somewhere}
use Rattle.nq_model.specs.laws.SynchronizedTest.{is_settled_resize}
use Rattle.nq_rules.proofs.synchronized.is_resize_kept.Given as goal

abbrev pub invariant-loop-place : goal.invariant-loop-place
invariant-loop-place l = l.found ≡ somewhere (is_settled_resize (reverse l.whole) (reverse l.before) l.by l.n l.on) (reverse (take l.place l.before))
