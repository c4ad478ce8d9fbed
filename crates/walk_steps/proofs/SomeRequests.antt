-- A file is created: its request is sent twice, and the first packet of it is answered.
use Rattle.std.proofs.Common.{◌≡◌, List, [], ◌∷◌, Some, refl, arith}
use Rattle.std.specs.Prelude.{slice_get, unwrap_or}
use Rattle.nq_base.specs.Block.{filled, zeros}
use Rattle.nq_base.specs.declared.Call.{Call}
use Rattle.nq_base.specs.declared.Event.{Event}
use Rattle.nq_base.specs.declared.Reply.{Reply}
use Rattle.nq_base.specs.declared.Request.{Request}
use Rattle.walk_steps.proofs.NoCrash.{no-crash-within}
use Rattle.nq_model.specs.laws.OneRequestPerSequence.{IsOpenRequest}
use Rattle.walk_steps.specs.RequestsMet.{IsAskedTwice}
use Rattle.nq_model.proofs.SkewTest.{skew-test-is-sound}
use Rattle.nq_model.specs.protocol.Client.{Client, Job, Ticket}
use Rattle.nq_model.specs.protocol.ClientStep.{fresh_client}
use Rattle.nq_model.specs.protocol.Message.{reply}
use Rattle.nq_model.specs.protocol.Server.{to_host}
use Rattle.nq_model.specs.protocol.World.{Head, run}
use Rattle.walk_steps.proofs.GivenRuns.{given-run}

-- two hosts, one file of one block
abbrev two-hosts : Head
two-hosts = record { hosts = 2; term = 30; longest = 60; files = (97 ∷ [], 1) ∷ [] }

-- host 0 creates a file, and sends the request again after two ticks; the newest event first
abbrev one-create : List Event
one-create = Event.ClientTick 0 ∷ Event.ClientTick 0 ∷ Event.Call 0 (Call.Create (98 ∷ []) 1) ∷ []

-- the client then
abbrev creator : Client
creator = unwrap_or (slice_get (run two-hosts one-create).clients 0) (fresh_client (record { host = 0; inc = 1 }) 30 0)

abbrev create : Request
create = Request.Create (record { host = 0; inc = 1 }) 1 (98 ∷ []) 1

abbrev ticket : Ticket
ticket = record { xid = 1; first = 0; last = 2; request = create; job = Job.for_call }

runs : slice_get (run two-hosts one-create).clients 0 ≡ Some creator
unfolding filled zeros given-run
runs = refl

first-open : IsOpenRequest (run two-hosts one-create) 0 0 1 create creator.who 1
unfolding filled zeros given-run
first-open = record { kept = refl; asks = record { sent = refl; by = refl; sequence = refl }; above = omega arith }

again-open : IsOpenRequest (run two-hosts one-create) 0 1 1 create creator.who 1
unfolding filled zeros given-run
again-open = record { kept = refl; asks = record { sent = refl; by = refl; sequence = refl }; above = omega arith }

-- the client restarts: its request stays open
outlives : IsOpenRequest (run two-hosts (Event.Restart 0 ∷ one-create)) 0 0 1 create creator.who 1
unfolding filled zeros given-run
outlives = record { kept = refl; asks = record { sent = refl; by = refl; sequence = refl }; above = omega arith }

stays : slice_get (run two-hosts (Event.Deliver 0 ∷ one-create)).clients 0 ≡ Some creator
unfolding filled zeros given-run
stays = refl

has : creator.ticket ≡ Some ticket
unfolding filled zeros given-run
has = refl

told : slice_get (run two-hosts (Event.Deliver 0 ∷ one-create)).packets 2 ≡ Some (to_host 0 (reply 1 (Reply.Create 1 2)))
unfolding filled zeros given-run
told = refl

inc : 1 ≡ creator.who.inc
unfolding filled zeros given-run
inc = refl

pub asked-twice : IsAskedTwice
asked-twice = record {
  most = 60;
  head = two-hosts;
  events = one-create;
  host = 0;
  client = creator;
  request = create;
  seq = 1;
  ticket = ticket;
  place = 2;
  answer = Reply.Create 1 2;
  bounds = record { hosts = omega arith; first_long = omega arith; first_short = omega arith; boots = no-crash-within 60 one-create refl };
  within = skew-test-is-sound 2 60 one-create refl;
  runs = runs;
  first = first-open;
  again = again-open;
  bounds_restarted =
      record { hosts = omega arith; first_long = omega arith; first_short = omega arith; boots = no-crash-within 60 (Event.Restart 0 ∷ one-create) refl };
  within_restarted = skew-test-is-sound 2 60 (Event.Restart 0 ∷ one-create) refl;
  outlives = outlives;
  stays = stays;
  has = has;
  told = told;
  inc = inc;
}
