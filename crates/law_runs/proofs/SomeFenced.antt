-- A write is delayed, and bound; then the lease ends in silence while the client's pushes are lost, and its file is fenced.
use Rattle.std.proofs.Common.{◌≡◌, ◌⊎◌, ℕ, true, false, ◌++◌, Some, None, refl, sym, ◌∙◌, arith, inl, inr}
use Rattle.std.specs.Prelude.{slice_get, unwrap_or, is_some, All}
use Rattle.nq_base.specs.Block.{zeros}
use Rattle.nq_base.specs.declared.Entry.TheVariants.{W}
use Rattle.nq_base.specs.declared.Push.{Push}
use Rattle.walk_steps.proofs.ClientMoves.{none-some}
use Rattle.law_runs.proofs.SomeLost.{one-host, delayed, rounds, writer, there, unsaved, bounds-delayed, within}
use Rattle.nq_model.specs.laws.LossesAreExcused.{listed, under_way}
use Rattle.walk_steps.proofs.NoCrash.{no-crash-within}
use Rattle.nq_model.specs.laws.Bounds.{BootsWithin}
use Rattle.nq_model.proofs.JournalTests.{tells_exists, tells_covers}
use Rattle.nq_model.proofs.SkewTest.{skew-test-is-sound}
use Rattle.nq_model.specs.protocol.Client.{Client, is_clean}
use Rattle.nq_model.specs.protocol.ClientStep.{attached_client}
use Rattle.nq_model.specs.laws.JournalTest.{exists, covers}
use Rattle.nq_model.specs.protocol.Server.{standing}
use Rattle.nq_model.specs.protocol.Skew.{is_within_skew}
use Rattle.nq_model.specs.protocol.Table.{find_row}
use Rattle.nq_model.specs.protocol.World.{run}
use Rattle.walk_steps.proofs.Tests.{some-is}
use Rattle.law_runs.proofs.BoundOrFenced.{bound-or-fenced-in-every-run}
use Rattle.nq_model.specs.laws.WritesAreUndisturbed.{IsBoundAndDue, IsFencedAt, IsUncovered}
use Rattle.law_runs.specs.UndisturbedMet.{BoundAndFencedAreMet}
use Rattle.walk_steps.proofs.GivenRuns.{given-run}

-- the delayed write
abbrev push : Push
push = record { file = 1; block = 0; first = 1; last = 1; body = zeros }

-- ---- bound

listed-first : slice_get writer.dirty 0 ≡ Some push
unfolding delayed writer given-run
listed-first = refl

none-covers : (n : ℕ) → exists (λ e. covers e (W writer.who 1 0 n 0 false)) (run one-host delayed).journal ≡ false
unfolding delayed writer given-run
none-covers n = refl

uncovered : IsUncovered (run one-host delayed).journal writer.who push
uncovered n above below covered =
    let yes : exists (λ e. covers e (W writer.who 1 0 n 0 false))
    (run one-host delayed).journal ≡ true =
    (tells_exists (λ e. tells_covers e (W writer.who 1 0 n 0 false)) (run one-host delayed).journal).complete covered in
    let no = none-covers n in
    cc

is-bound : IsBoundAndDue (run one-host delayed) 0 writer 1
unfolding delayed writer given-run
is-bound = record {
  bound = record { lease = _; held = refl; for_writing = refl; row = _; stands = refl; holder = refl; lets_write = refl; began = refl; goes_on = refl };
  revision = _;
  known = refl;
  f = _;
  found = refl;
  is_due = refl;
}

-- ---- fenced

later-writer : Client
later-writer = unwrap_or (slice_get (run one-host (rounds ++ delayed)).clients 0) (attached_client (record { host = 0; inc = 1 }) 5 0)

is-later : is_some (slice_get (run one-host (rounds ++ delayed)).clients 0) ≡ true
unfolding delayed rounds given-run
is-later = refl

there-later : slice_get (run one-host (rounds ++ delayed)).clients 0 ≡ Some later-writer
unfolding later-writer
there-later = some-is (slice_get (run one-host (rounds ++ delayed)).clients 0) (attached_client (record { host = 0; inc = 1 }) 5 0) is-later

unclean-later : is_clean later-writer 1 ≡ false
unfolding delayed rounds later-writer given-run
unclean-later = refl

pushed-later : later-writer.push ≡ Some push
unfolding delayed rounds later-writer given-run
pushed-later = refl

no-row : find_row 1 later-writer.who.host (standing (run one-host (rounds ++ delayed)).server).rows ≡ None
unfolding delayed rounds later-writer given-run
no-row = refl

bounds-later : All (BootsWithin 60) (rounds ++ delayed)
unfolding delayed rounds
bounds-later = no-crash-within 60 (rounds ++ delayed) refl

within-later : is_within_skew 1 60 (rounds ++ delayed) ≡ true
unfolding delayed rounds
within-later = refl

is-fenced : IsFencedAt (run one-host (rounds ++ delayed)) 0 later-writer 1
is-fenced =
    case (bound-or-fenced-in-every-run 60 one-host (rounds ++ delayed) 0 later-writer 1
    (record { hosts = omega arith; first_long = omega arith; first_short = omega arith; boots = bounds-later })
    (skew-test-is-sound 1 60 (rounds ++ delayed) within-later) there-later unclean-later)
  where
    case : IsBoundAndDue (run one-host (rounds ++ delayed)) 0 later-writer 1 ⊎ IsFencedAt (run one-host (rounds ++ delayed)) 0 later-writer 1
        → IsFencedAt (run one-host (rounds ++ delayed)) 0 later-writer 1
    case (inl b) = none-some b.bound.row (sym no-row ∙ b.bound.stands)
    case (inr f) = f

pub bound-and-fenced-are-met : BoundAndFencedAreMet
bound-and-fenced-are-met = record {
  most = 60;
  head = one-host;
  events = delayed;
  later = rounds;
  host = 0;
  file = 1;
  push = push;
  on_file = refl;
  client = writer;
  bounds = record { hosts = omega arith; first_long = omega arith; first_short = omega arith; boots = bounds-delayed };
  within = skew-test-is-sound 1 60 delayed within;
  there = there;
  unclean = unsaved;
  unsaved = listed 0 listed-first;
  uncovered = uncovered;
  bound = is-bound;
  client_later = later-writer;
  bounds_later = record { hosts = omega arith; first_long = omega arith; first_short = omega arith; boots = bounds-later };
  within_later = skew-test-is-sound 1 60 (rounds ++ delayed) within-later;
  there_later = there-later;
  unclean_later = unclean-later;
  unsaved_later = under_way pushed-later;
  fenced = is-fenced;
}
