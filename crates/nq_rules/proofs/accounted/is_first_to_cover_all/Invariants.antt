use Rattle.std.proofs.Common.{◌≡◌, reverse, take}
use Rattle.nq_model.specs.laws.JournalTest.{each}
use Rattle.nq_model.specs.laws.FateTest.{is_first_to_cover}
use Rattle.nq_rules.proofs.accounted.is_first_to_cover_all.Given as goal

abbrev pub invariant-loop-write : goal.invariant-loop-write
invariant-loop-write l = l.all ≡ each (is_first_to_cover (reverse l.before) l.entry) (reverse (take l.write-index l.whole))
