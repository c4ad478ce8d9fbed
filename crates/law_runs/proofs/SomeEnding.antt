-- A writing lease ends in silence; and a recovery ends after a crash.
use Rattle.std.proofs.Common.{◌≡◌, true, List, [], ◌∷◌, ◌++◌, refl, arith}
use Rattle.std.specs.List.{list_any}
use Rattle.std.specs.Prelude.{All}
use Rattle.nq_base.specs.declared.Event.{Event}
use Rattle.nq_model.specs.laws.EndingsComeLate.{was_caching}
use Rattle.law_runs.proofs.SomeLost.{delayed, rounds}
use Rattle.law_runs.specs.EndingsMet.{is_silent_end, ends_recovery, EndsSometime}
use Rattle.walk_steps.proofs.NoCrash.{one-first, no-crash-within, no-crash-after}
use Rattle.nq_model.specs.laws.Bounds.{BootsWithin}
use Rattle.nq_model.proofs.SkewTest.{skew-test-is-sound}
use Rattle.nq_model.specs.protocol.Skew.{is_within_skew}
use Rattle.nq_model.specs.protocol.World.{Head, run}
use Rattle.walk_steps.proofs.GivenRuns.{given-run}

-- one host that wants terms of five ticks, and one file of one block
abbrev one-host : Head
one-host = record { hosts = 1; term = 5; longest = 5; files = (97 ∷ [], 1) ∷ [] }

-- the lease ends in silence
silent : List Event
silent = rounds ++ delayed

-- the server crashes, and recovers
opening : List Event
opening = rounds ++ Event.Crash 5 ∷ delayed

silent-ends : list_any is_silent_end (run one-host silent).journal ≡ true
unfolding delayed rounds silent given-run
silent-ends = refl

recovery-ends : list_any ends_recovery (run one-host opening).journal ≡ true
unfolding delayed rounds opening given-run
recovery-ends = refl

cached : was_caching 1 (run one-host opening).journal (record { host = 0; inc = 1 }) 1 ≡ true
unfolding delayed rounds opening given-run
cached = refl

bounds-silent : All (BootsWithin 60) silent
unfolding delayed rounds silent
bounds-silent = no-crash-within 60 silent refl

bounds-opening : All (BootsWithin 60) opening
unfolding delayed rounds opening
bounds-opening =
    no-crash-after 60 rounds (Event.Crash 5 ∷ delayed) refl
    (one-first 60 (Event.Crash 5) delayed (omega arith, omega arith) (no-crash-within 60 delayed refl))

within-silent : is_within_skew 1 60 silent ≡ true
unfolding delayed rounds silent
within-silent = refl

within-opening : is_within_skew 1 60 opening ≡ true
unfolding delayed rounds opening
within-opening = refl

pub ends-sometime : EndsSometime
ends-sometime = record {
  most = 60;
  head = one-host;
  silent = silent;
  opening = opening;
  who = record { host = 0; inc = 1 };
  file = 1;
  bounds_silent = record { hosts = omega arith; first_long = omega arith; first_short = omega arith; boots = bounds-silent };
  within_silent = skew-test-is-sound 1 60 silent within-silent;
  ends = silent-ends;
  bounds_opening = record { hosts = omega arith; first_long = omega arith; first_short = omega arith; boots = bounds-opening };
  within_opening = skew-test-is-sound 1 60 opening within-opening;
  opens = recovery-ends;
  cached = cached;
}
