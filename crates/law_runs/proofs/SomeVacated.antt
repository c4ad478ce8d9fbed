-- After a lease was given up, its client holds another on the file, and can take a third.
use Rattle.std.proofs.Common.{◌≡◌, ℕ, true, false, List, [], ◌∷◌, Some, refl, arith}
use Rattle.std.specs.Prelude.{slice_get, unwrap_or, is_some, All}
use Rattle.nq_base.specs.Block.{zeros}
use Rattle.nq_base.specs.declared.Call.{Call}
use Rattle.nq_base.specs.declared.Event.{Event}
use Rattle.nq_base.specs.declared.Grant.{Grant}
use Rattle.nq_base.specs.declared.Mode.{Mode}
use Rattle.nq_base.specs.declared.Reply.{Reply}
use Rattle.nq_base.specs.declared.Request.{Request}
use Rattle.nq_base.specs.declared.Tag.{Tag}
use Rattle.nq_base.specs.declared.Who.{Who}
use Rattle.walk_steps.proofs.NoCrash.{no-crash-within}
use Rattle.walk_steps.proofs.SomeLease.{two-hosts}
use Rattle.nq_model.specs.laws.Bounds.{BootsWithin}
use Rattle.walk_steps.proofs.Tests.{some-is}
use Rattle.law_runs.specs.TagsMet.{IsPastSometime}
use Rattle.nq_model.proofs.SkewTest.{skew-test-is-sound}
use Rattle.nq_model.specs.protocol.Client.{Client, Lease, Ticket, for_call, lease_on}
use Rattle.nq_model.specs.protocol.Message.{call, reply}
use Rattle.nq_model.specs.protocol.Skew.{is_within_skew}
use Rattle.nq_model.specs.protocol.Server.{to_host}
use Rattle.nq_model.specs.protocol.World.{from_host, run}
use Rattle.nq_model.specs.protocol.ClientStep.{attached_client}
use Rattle.nq_model.specs.protocol.Hear.{is_reply_to}
use Rattle.walk_steps.proofs.GivenRuns.{given-run}

-- host 0 reads; host 1 wants to cut the file, so host 0 is told to give its lease up, and does; it reads again, and then
-- wants to write; the newest event first
again : List Event
again =
    Event.Deliver 8
    ∷ Event.Call 0 (Call.Write 1 0 zeros)
    ∷ Event.Deliver 7
    ∷ Event.Deliver 6
    ∷ Event.Call 0 (Call.Read 1 0)
    ∷ Event.Deliver 5
    ∷ Event.Deliver 3
    ∷ Event.Deliver 2
    ∷ Event.Call 1 (Call.Resize 1 1)
    ∷ Event.Deliver 1
    ∷ Event.Deliver 0
    ∷ Event.Call 0 (Call.Read 1 0)
    ∷ []

no-boots : All (BootsWithin 60) again
unfolding again
no-boots = no-crash-within 60 again refl

abbrev holder : Who
holder = record { host = 0; inc = 1 }

abbrev drawn : (number : ℕ) → Tag
drawn number = record { boot = 1; number = number }

holder-client : Client
holder-client = unwrap_or (slice_get (run two-hosts again).clients 0) (attached_client holder 30 0)

abbrev held-lease : Lease
held-lease = record { file = 1; mode = Mode.Reading; tag = drawn 2; term = 30; expiry = 30; blocks = 1; used = false }

abbrev given : Grant
given = record { mode = Mode.Writing; term = 30; tag = drawn 3; since = drawn 2; rev = 0; blocks = 1 }

abbrev asked : Ticket
asked = record { xid = 4; first = 0; last = 0; request = Request.GetLease holder 1 (record { mode = Mode.Writing; term = 30 }); job = for_call }

is-there : is_some (slice_get (run two-hosts again).clients 0) ≡ true
unfolding again given-run
is-there = refl

there : slice_get (run two-hosts again).clients 0 ≡ Some holder-client
unfolding holder-client
there = some-is (slice_get (run two-hosts again).clients 0) (attached_client holder 30 0) is-there

within : is_within_skew 2 60 again ≡ true
unfolding again
within = refl

vacated-sent : slice_get (run two-hosts again).packets 5 ≡ Some (from_host 0 (call 2 (Request.Vacated holder 1 (drawn 1))))
unfolding again given-run
vacated-sent = refl

grant-sent : slice_get (run two-hosts again).packets 9 ≡ Some (to_host 0 (reply 4 (Reply.GetLease 1 (Some given))))
unfolding again given-run
grant-sent = refl

runs-on : 1 ≡ holder-client.who.inc
unfolding again holder-client given-run
runs-on = refl

held : lease_on 1 holder-client.leases ≡ Some held-lease
unfolding again holder-client given-run
held = refl

asks : holder-client.ticket ≡ Some asked
unfolding again holder-client given-run
asks = refl

counts : is_reply_to holder-client 4 (Reply.GetLease 1 (Some given)) asked ≡ true
unfolding again holder-client given-run
counts = refl

pub is-past-sometime : IsPastSometime
is-past-sometime = record {
  most = 60;
  head = two-hosts;
  events = again;
  host = 0;
  client = holder-client;
  file = 1;
  tag = drawn 1;
  lease = held-lease;
  ticket = asked;
  grant = given;
  bounds = record { hosts = omega arith; first_long = omega arith; first_short = omega arith; boots = no-boots };
  within = skew-test-is-sound 2 60 again within;
  there = there;
  gave =
      record {
        k = 5;
        packet = from_host 0 (call 2 (Request.Vacated holder 1 (drawn 1)));
        xid = 2;
        who = holder;
        sent = vacated-sent;
        by = refl;
        says = refl;
        running = runs-on;
      };
  held = held;
  takeable =
      record {
        k = 9;
        packet = to_host 0 (reply 4 (Reply.GetLease 1 (Some given)));
        xid = 4;
        answer = Reply.GetLease 1 (Some given);
        sent = grant-sent;
        for_host = refl;
        brings = refl;
        asked = asks;
        counts = counts;
        grants = refl;
        on_file = refl;
      };
}
