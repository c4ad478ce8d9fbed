-- A push that is torn, before its commit and after it.
use Rattle.std.proofs.Common.{◌≡◌, true, List, [], ◌∷◌, ◌++◌, Some, length, refl, sym, subst, arith}
use Rattle.std.specs.Prelude.{All, filter}
use Rattle.nq_base.specs.Block.{filled, zeros}
use Rattle.nq_base.specs.declared.Call.{Call}
use Rattle.nq_base.specs.declared.Event.{Event}
use Rattle.nq_base.specs.declared.Who.{Who}
use Rattle.nq_model.proofs.SkewTest.{skew-test-is-sound}
use Rattle.nq_model.specs.protocol.Kept.{find_file}
use Rattle.nq_model.specs.protocol.Skew.{IsWithinSkew, is_within_skew}
use Rattle.nq_model.specs.protocol.World.{Head}
use Rattle.nq_model.specs.laws.Bounds.{BootsWithin, KeepsBounds}
use Rattle.nq_model.specs.laws.Witnesses.{in_order, is_crash, is_delayed_write, is_store}
use Rattle.walk_steps.proofs.GivenRuns.{given-run}
use Rattle.walk_steps.proofs.NoCrash.{one-first, no-crash-within, no-crash-after}
use Rattle.nq_laws.specs.TornMet.{value_at, is_ok, IsFair, PushesAreTorn}
use Rattle.nq_laws.specs.TornRuns.{Happening, whole, torn_before, torn_after, boots_over, unheard, torn_off, torn_run, schedule}

-- one host, and one file of one block
abbrev one-host : Head
one-host = record { hosts = 1; term = 30; longest = 60; files = (97 ∷ [], 1) ∷ [] }

abbrev writer : Who
writer = record { host = 0; inc = 1 }

-- host 0 gets a lease, delays a write, and syncs the file, so that it sends a push; the newest first
abbrev synced : List Event
synced = Event.Call 0 (Call.Sync 1) ∷ Event.Deliver 1 ∷ Event.Deliver 0 ∷ Event.Call 0 (Call.Write 1 0 (filled 5)) ∷ []

abbrev until-push : List Happening
until-push = whole (Event.Call 0 (Call.Sync 1)) ∷ whole (Event.Deliver 1) ∷ whole (Event.Deliver 0) ∷ whole (Event.Call 0 (Call.Write 1 0 (filled 5))) ∷ []

abbrev push : Event
push = Event.Deliver 2

-- three rounds, in which the client sends its push again
abbrev rounds : List Event
rounds =
    Event.ServerTick ∷ Event.ClientTick 0 ∷ Event.ServerTick ∷ Event.ClientTick 0 ∷ Event.ServerTick ∷ Event.ClientTick 0 ∷ []

abbrev waiting : List Happening
waiting =
    whole Event.ServerTick ∷ whole (Event.ClientTick 0) ∷ whole Event.ServerTick ∷ whole (Event.ClientTick 0) ∷ whole Event.ServerTick ∷ whole
    (Event.ClientTick 0) ∷ []

-- then it comes, and its reply. Where the first push was torn after its commit, the number of its reply is taken
abbrev after-before : List Happening
after-before = whole (Event.Deliver 4) ∷ whole (Event.Deliver 3) ∷ waiting

abbrev after-after : List Happening
after-after = whole (Event.Deliver 5) ∷ whole (Event.Deliver 4) ∷ waiting

abbrev run-before : List Happening
run-before = after-before ++ torn_before push 60 ∷ until-push

abbrev run-after : List Happening
run-after = after-after ++ torn_after push 60 ∷ until-push

-- ---- their schedules

abbrev events-before : List Event
events-before = (Event.Deliver 4 ∷ Event.Deliver 3 ∷ rounds) ++ Event.Crash 60 ∷ synced

abbrev events-after : List Event
events-after = (Event.Deliver 5 ∷ Event.Deliver 4 ∷ rounds) ++ Event.Crash 60 ∷ push ∷ synced

schedule-before : schedule one-host run-before ≡ events-before
unfolding filled zeros given-run boots_over unheard torn_off
schedule-before = refl

schedule-after : schedule one-host run-after ≡ events-after
unfolding filled zeros given-run boots_over unheard torn_off
schedule-after = refl

bounded : (events : List Event) → All (BootsWithin 60) events → KeepsBounds 60 one-host events
bounded events boots = record { hosts = omega arith; first_long = omega arith; first_short = omega arith; boots = boots }

boots-before : All (BootsWithin 60) events-before
boots-before =
    no-crash-after 60 (Event.Deliver 4 ∷ Event.Deliver 3 ∷ rounds) (Event.Crash 60 ∷ synced) refl
    (one-first 60 (Event.Crash 60) synced (omega arith, omega arith) (no-crash-within 60 synced refl))

boots-after : All (BootsWithin 60) events-after
boots-after =
    no-crash-after 60 (Event.Deliver 5 ∷ Event.Deliver 4 ∷ rounds) (Event.Crash 60 ∷ push ∷ synced) refl
    (one-first 60 (Event.Crash 60) (push ∷ synced) (omega arith, omega arith) (no-crash-within 60 (push ∷ synced) refl))

within-before : is_within_skew 1 60 events-before ≡ true
within-before = refl

within-after : is_within_skew 1 60 events-after ≡ true
within-after = refl

fair : (happened : List Happening) (events : List Event) → schedule one-host happened ≡ events → All (BootsWithin 60) events
    → is_within_skew 1 60 events ≡ true
    → IsFair 60 one-host happened
fair happened events is boots within = record {
  bounds = subst (λ z. KeepsBounds 60 one-host z) (sym is) (bounded events boots);
  within = subst (λ z. IsWithinSkew 1 60 z) (sym is) (skew-test-is-sound 1 60 events within);
}

-- ---- what came of them

found-before : value_at 0 (find_file 1 (torn_run one-host (torn_before push 60 ∷ until-push)).world.server.kept.files) ≡ Some 0
unfolding filled zeros given-run boots_over unheard torn_off
found-before = refl

found-after : value_at 0 (find_file 1 (torn_run one-host (torn_after push 60 ∷ until-push)).world.server.kept.files) ≡ Some 5
unfolding filled zeros given-run boots_over unheard torn_off
found-after = refl

told-before : in_order (is_ok writer 2 ∷ is_store writer 1 0 1 ∷ is_crash 2 ∷ is_delayed_write writer 1 0 1 5 ∷ [])
    (torn_run one-host run-before).world.journal ≡ true
unfolding filled zeros given-run boots_over unheard torn_off
told-before = refl

told-after : in_order (is_ok writer 2 ∷ is_crash 2 ∷ is_store writer 1 0 1 ∷ is_delayed_write writer 1 0 1 5 ∷ [])
    (torn_run one-host run-after).world.journal ≡ true
unfolding filled zeros given-run boots_over unheard torn_off
told-after = refl

once-before : length (filter (is_store writer 1 0 1) (torn_run one-host run-before).world.journal) ≡ 1
unfolding filled zeros given-run boots_over unheard torn_off
once-before = refl

once-after : length (filter (is_store writer 1 0 1) (torn_run one-host run-after).world.journal) ≡ 1
unfolding filled zeros given-run boots_over unheard torn_off
once-after = refl

kept-before : value_at 0 (find_file 1 (torn_run one-host run-before).world.server.kept.files) ≡ Some 5
unfolding filled zeros given-run boots_over unheard torn_off
kept-before = refl

kept-after : value_at 0 (find_file 1 (torn_run one-host run-after).world.server.kept.files) ≡ Some 5
unfolding filled zeros given-run boots_over unheard torn_off
kept-after = refl

pub pushes-are-torn : PushesAreTorn
pushes-are-torn = record {
  most = 60;
  head = one-host;
  earlier = until-push;
  push = push;
  longest = 60;
  who = writer;
  file = 1;
  block = 0;
  number = 1;
  value = 5;
  old = 0;
  sync = 2;
  later_before = after-before;
  fair_before = fair run-before events-before schedule-before boots-before within-before;
  found_before = found-before;
  told_before = told-before;
  once_before = once-before;
  kept_before = kept-before;
  later_after = after-after;
  fair_after = fair run-after events-after schedule-after boots-after within-after;
  found_after = found-after;
  told_after = told-after;
  once_after = once-after;
  kept_after = kept-after;
}
