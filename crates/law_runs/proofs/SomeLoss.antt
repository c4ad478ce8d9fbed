-- After one delayed write whose lease ends in silence the write is lost, and the next sync names it.
use Rattle.std.proofs.Common.{◌≡◌, ℕ, List, [], ◌∷◌, refl, arith, inl}
use Rattle.std.specs.Prelude.{slice_get}
use Rattle.nq_base.specs.Block.{filled, zeros}
use Rattle.nq_base.specs.declared.Call.{Call}
use Rattle.nq_base.specs.declared.Event.{Event}
use Rattle.nq_base.specs.declared.Loss.{Loss}
use Rattle.walk_steps.proofs.NoCrash.{no-crash-within}
use Rattle.nq_model.specs.laws.LossesAreReported.{IsLossOf}
use Rattle.law_runs.specs.ReportsMet.{untold, IsLostAndNamed}
use Rattle.nq_model.proofs.SkewTest.{skew-test-is-sound}
use Rattle.nq_model.specs.laws.Journal.{Exists}
use Rattle.nq_model.specs.laws.Reported.{Names}
use Rattle.nq_model.specs.protocol.World.{Head, run}
use Rattle.walk_steps.proofs.GivenRuns.{given-run}

-- one host that wants short leases, one file of one block
abbrev pub one-host : Head
one-host = record { hosts = 1; term = 5; longest = 60; files = (97 ∷ [], 1) ∷ [] }

abbrev body : List ℕ
body = filled 5

-- host 0 writes; its lease ends while the push is under way, which is refused; the newest event first
abbrev pub one-loss : List Event
one-loss =
    Event.Deliver 7
    ∷ Event.Deliver 2
    ∷ Event.ServerTick
    ∷ Event.ClientTick 0
    ∷ Event.ServerTick
    ∷ Event.ClientTick 0
    ∷ Event.ServerTick
    ∷ Event.ClientTick 0
    ∷ Event.ServerTick
    ∷ Event.ClientTick 0
    ∷ Event.ServerTick
    ∷ Event.ClientTick 0
    ∷ Event.ServerTick
    ∷ Event.ClientTick 0
    ∷ Event.ServerTick
    ∷ Event.ClientTick 0
    ∷ Event.ServerTick
    ∷ Event.ClientTick 0
    ∷ Event.ServerTick
    ∷ Event.ClientTick 0
    ∷ Event.ServerTick
    ∷ Event.ClientTick 0
    ∷ Event.ServerTick
    ∷ Event.ServerTick
    ∷ Event.ServerTick
    ∷ Event.Deliver 1
    ∷ Event.Deliver 0
    ∷ Event.Call 0 (Call.Write 1 0 body)
    ∷ []

abbrev loss : Loss
loss = record { file = 1; block = 0; first = 1; last = 1 }

waits : untold (slice_get (run one-host one-loss).clients 0) ≡ loss ∷ []
unfolding filled zeros given-run
waits = refl

has-lost : Exists (IsLossOf (record { host = 0; inc = 1 }) loss) (run one-host one-loss).journal
unfolding filled zeros given-run
has-lost = inl (refl, refl)

is-named : Exists (Names (run one-host (Event.Call 0 (Call.Sync 1) ∷ one-loss)).journal (record { host = 0; inc = 1 }) loss)
    (run one-host (Event.Call 0 (Call.Sync 1) ∷ one-loss)).journal
unfolding filled zeros given-run
is-named = inl (refl, refl, inl (refl, refl, refl))

pub lost-and-named : IsLostAndNamed
lost-and-named = record {
  most = 60;
  head = one-host;
  events = one-loss;
  host = 0;
  op = Call.Sync 1;
  who = record { host = 0; inc = 1 };
  loss = loss;
  bounds = record { hosts = omega arith; first_long = omega arith; first_short = omega arith; boots = no-crash-within 60 one-loss refl };
  within = skew-test-is-sound 1 60 one-loss refl;
  waits = waits;
  lost = has-lost;
  named = is-named;
}
