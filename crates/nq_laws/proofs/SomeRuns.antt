-- Four schedules, after which the journal has what the laws over runs speak of.
use Rattle.std.proofs.Common.{◌≡◌, ℕ, zero, suc, true, false, List, [], ◌∷◌, refl, arith}
use Rattle.std.specs.Prelude.{◌++◌, All}
use Rattle.nq_base.specs.Block.{filled, zeros}
use Rattle.nq_base.specs.declared.Call.{Call}
use Rattle.nq_base.specs.declared.Event.{Event}
use Rattle.nq_base.specs.declared.Loss.{Loss}
use Rattle.nq_base.specs.declared.Who.{Who}
use Rattle.nq_laws.specs.LawsAreMet.{is_refusal, LosesAfterSilence, LosesAfterRecovery, StoresAfterRestart, CutsAndGrows, LawsAreMet}
use Rattle.walk_steps.proofs.NoCrash.{one-first, no-crash-within, no-crash-after}
use Rattle.nq_model.specs.laws.Bounds.{BootsWithin, KeepsBounds}
use Rattle.nq_model.proofs.SkewTest.{skew-test-is-sound}
use Rattle.nq_model.specs.protocol.ClientStep.{next_incarnation}
use Rattle.nq_model.specs.laws.JournalTest.{exists}
use Rattle.nq_model.specs.laws.ReportedTest.{names}
use Rattle.nq_model.specs.protocol.World.{Head, run}
use Rattle.nq_model.specs.laws.Witnesses.{in_order, is_delayed_write, is_lost_write, is_loss, is_store, is_silence, is_silence_of, is_crash, is_opening}
use Rattle.nq_model.specs.laws.Witnesses.{is_start, is_read, is_cut, is_growth, is_write}
use Rattle.walk_steps.proofs.GivenRuns.{given-run}

-- one host that wants short leases, and one file
abbrev one-host : Head
one-host = record { hosts = 1; term = 5; longest = 5; files = (97 ∷ [], 2) ∷ [] }

abbrev body : List ℕ
body = filled 5

abbrev first-one : Who
first-one = record { host = 0; inc = 1 }

abbrev lost-one : Loss
lost-one = record { file = 1; block = 0; first = 1; last = 1 }

-- ---- the schedules, the newest event first

-- so many ticks of the host's clock and of the server's
abbrev rounds : ℕ → List Event
rounds zero = []
rounds (suc n) = Event.ServerTick ∷ Event.ClientTick 0 ∷ rounds n

-- thirteen ticks of the server's clock, in which nothing arrives; then the push arrives, and its reply
abbrev silence : List Event
silence = Event.Deliver 7 ∷ Event.Deliver 2 ∷ rounds 10 ++ Event.ServerTick ∷ Event.ServerTick ∷ Event.ServerTick ∷ []

-- host 0 gets a lease and delays a write
abbrev delays : List Event
delays = Event.Deliver 1 ∷ Event.Deliver 0 ∷ Event.Call 0 (Call.Write 1 0 body) ∷ []

-- the lease ends in silence, and the user syncs the file
abbrev pub silent : List Event
silent = Event.Call 0 (Call.Sync 1) ∷ silence ++ delays

-- the server crashes, and its recovery ends
abbrev pub crashed : List Event
crashed = silence ++ Event.Crash 5 ∷ delays

-- host 0 restarts before its push arrives; the next incarnation is attached after it, and reads
abbrev pub restarted : List Event
restarted =
    Event.Deliver 7
    ∷ Event.Deliver 6
    ∷ Event.Call 0 (Call.Read 1 0)
    ∷ Event.Deliver 5
    ∷ Event.Deliver 3
    ∷ Event.Deliver 2
    ∷ Event.Restart 0
    ∷ Event.Call 0 (Call.Sync 1)
    ∷ delays

-- host 0 puts block 1, shortens the file to one block, makes it longer again, and fetches the block
abbrev pub resized : List Event
resized =
    Event.Deliver 7
    ∷ Event.Deliver 6
    ∷ Event.Call 0 (Call.Fetch 1 1)
    ∷ Event.Deliver 5
    ∷ Event.Deliver 4
    ∷ Event.Call 0 (Call.Resize 1 2)
    ∷ Event.Deliver 3
    ∷ Event.Deliver 2
    ∷ Event.Call 0 (Call.Resize 1 1)
    ∷ Event.Deliver 1
    ∷ Event.Deliver 0
    ∷ Event.Call 0 (Call.Put 1 1 body)
    ∷ []

bounded : (events : List Event) → All (BootsWithin 60) events → KeepsBounds 60 one-host events
bounded events boots = record { hosts = omega arith; first_long = omega arith; first_short = omega arith; boots = boots }

-- ---- what came of them

silent-refused : exists (is_refusal first-one) (run one-host silent).packets ≡ true
unfolding filled zeros given-run
silent-refused = refl

silent-lost : in_order (names (run one-host silent).journal first-one lost-one ∷ is_loss first-one lost-one ∷ is_silence_of first-one 1 ∷ is_lost_write
    first-one lost-one ∷ []) (run one-host silent).journal ≡ true
unfolding filled zeros given-run
silent-lost = refl

crashed-refused : exists (is_refusal first-one) (run one-host crashed).packets ≡ true
unfolding filled zeros given-run
crashed-refused = refl

crashed-lost : in_order (is_loss first-one lost-one ∷ is_opening 2 ∷ is_crash 2 ∷ is_lost_write first-one lost-one ∷ []) (run one-host crashed).journal ≡ true
unfolding filled zeros given-run
crashed-lost = refl

crashed-none-silent : exists is_silence (run one-host crashed).journal ≡ false
unfolding filled zeros given-run
crashed-none-silent = refl

restarted-late : in_order (is_read (run one-host restarted).journal (next_incarnation first-one) 1 0 5 ∷ is_store first-one 1 0 1 ∷ is_start
    (next_incarnation first-one) ∷ is_delayed_write first-one 1 0 1 5 ∷ []) (run one-host restarted).journal ≡ true
unfolding filled zeros given-run
restarted-late = refl

resized-cut : in_order (is_read (run one-host resized).journal first-one 1 1 0 ∷ is_growth 1 1 ∷ is_cut 1 1 ∷ is_write 1 1 ∷ [])
    (run one-host resized).journal ≡ true
unfolding filled zeros given-run
resized-cut = refl

after-silence : LosesAfterSilence
after-silence = record {
  most = 60;
  head = one-host;
  events = silent;
  bounds = bounded silent (no-crash-within 60 silent refl);
  within = skew-test-is-sound 1 60 silent refl;
  who = first-one;
  loss = lost-one;
  refused = silent-refused;
  lost = silent-lost;
}

after-recovery : LosesAfterRecovery
after-recovery = record {
  most = 60;
  head = one-host;
  events = crashed;
  bounds =
      bounded crashed (no-crash-after 60 silence (Event.Crash 5 ∷ delays) refl
      (one-first 60 (Event.Crash 5) delays (omega arith, omega arith) (no-crash-within 60 delays refl)));
  within = skew-test-is-sound 1 60 crashed refl;
  who = first-one;
  loss = lost-one;
  boot = 2;
  refused = crashed-refused;
  lost = crashed-lost;
  none_silent = crashed-none-silent;
}

after-restart : StoresAfterRestart
after-restart = record {
  most = 60;
  head = one-host;
  events = restarted;
  bounds = bounded restarted (no-crash-within 60 restarted refl);
  within = skew-test-is-sound 1 60 restarted refl;
  who = first-one;
  file = 1;
  block = 0;
  number = 1;
  value = 5;
  late = restarted-late;
}

after-cut : CutsAndGrows
after-cut = record {
  most = 60;
  head = one-host;
  events = resized;
  bounds = bounded resized (no-crash-within 60 resized refl);
  within = skew-test-is-sound 1 60 resized refl;
  who = first-one;
  file = 1;
  block = 1;
  cut = resized-cut;
}

pub laws-are-met : LawsAreMet
laws-are-met = record { silence = after-silence; recovery = after-recovery; restart = after-restart; cut = after-cut }
