-- A client can take a chained grant, and later holds its lease over a write of its own that was done.
use Rattle.std.proofs.Common.{◌≡◌, true, false, List, [], ◌∷◌, Some, refl, sym, arith}
use Rattle.std.specs.Prelude.{◌++◌, slice_get, unwrap_or, is_some, All}
use Rattle.nq_base.specs.Block.{zeros}
use Rattle.nq_base.specs.declared.Call.{Call}
use Rattle.nq_base.specs.declared.Event.{Event}
use Rattle.nq_base.specs.declared.Grant.{Grant}
use Rattle.nq_base.specs.declared.Mode.{Mode}
use Rattle.nq_base.specs.declared.Reply.{Reply}
use Rattle.nq_base.specs.declared.Request.{Request}
use Rattle.nq_base.specs.declared.Row.{Row}
use Rattle.nq_base.specs.declared.Tag.{Tag}
use Rattle.nq_base.specs.declared.Who.{Who}
use Rattle.nq_model.specs.laws.Chained.{has_done_write}
use Rattle.law_runs.specs.ChainsMet.{ChainsAreMet}
use Rattle.walk_steps.proofs.NoCrash.{no-crash-within}
use Rattle.walk_steps.proofs.SomeLease.{two-hosts}
use Rattle.nq_model.specs.laws.Bounds.{BootsWithin}
use Rattle.nq_model.proofs.SkewTest.{skew-test-is-sound}
use Rattle.nq_model.specs.protocol.Client.{Client, Lease, Ticket, for_call, lease_on}
use Rattle.nq_model.specs.protocol.Message.{reply}
use Rattle.nq_model.specs.protocol.Skew.{is_within_skew}
use Rattle.nq_model.specs.protocol.Server.{standing, to_host}
use Rattle.nq_model.specs.protocol.ClientStep.{attached_client}
use Rattle.nq_model.specs.protocol.Hear.{is_reply_to}
use Rattle.nq_model.specs.protocol.Kept.{host_row}
use Rattle.nq_model.specs.protocol.Table.{find_row}
use Rattle.nq_model.specs.protocol.World.{run}
use Rattle.walk_steps.proofs.Tests.{some-is}
use Rattle.walk_steps.proofs.GivenRuns.{given-run}

-- host 0 wants to write, and the server gives it the lease; the newest event first
asked-for : List Event
asked-for = Event.Deliver 0 ∷ Event.Call 0 (Call.Write 1 0 zeros) ∷ []

-- it takes the lease, writes to its cache, pushes, and the server stores what it pushed
pushed : List Event
pushed = Event.Deliver 2 ∷ Event.Call 0 (Call.Sync 1) ∷ Event.Deliver 1 ∷ []

within-asked : All (BootsWithin 60) asked-for
unfolding asked-for
within-asked = no-crash-within 60 asked-for refl

within-pushed : All (BootsWithin 60) (pushed ++ asked-for)
unfolding asked-for pushed
within-pushed = no-crash-within 60 (pushed ++ asked-for) refl

abbrev holder : Who
holder = record { host = 0; inc = 1 }

abbrev drawn : Tag
drawn = record { boot = 1; number = 1 }

asking-client : Client
asking-client = unwrap_or (slice_get (run two-hosts asked-for).clients 0) (attached_client holder 30 0)

pushing-client : Client
pushing-client = unwrap_or (slice_get (run two-hosts (pushed ++ asked-for)).clients 0) (attached_client holder 30 0)

abbrev held-lease : Lease
held-lease = record { file = 1; mode = Mode.Writing; tag = drawn; term = 30; expiry = 30; blocks = 1; used = true }

abbrev held-row : Row
held-row = record { file = 1; who = holder; mode = Mode.Writing; tag = drawn; since = drawn; until = 33; heard = 0; evicting = false }

abbrev given : Grant
given = record { mode = Mode.Writing; term = 30; tag = drawn; since = drawn; rev = 0; blocks = 1 }

abbrev asked : Ticket
asked = record { xid = 1; first = 0; last = 0; request = Request.GetLease holder 1 (record { mode = Mode.Writing; term = 30 }); job = for_call }

asking-is-there : is_some (slice_get (run two-hosts asked-for).clients 0) ≡ true
unfolding asked-for given-run
asking-is-there = refl

asking-there : slice_get (run two-hosts asked-for).clients 0 ≡ Some asking-client
unfolding asking-client
asking-there = some-is (slice_get (run two-hosts asked-for).clients 0) (attached_client holder 30 0) asking-is-there

asks : asking-client.ticket ≡ Some asked
unfolding asked-for asking-client given-run
asks = refl

counts : is_reply_to asking-client 1 (Reply.GetLease 1 (Some given)) asked ≡ true
unfolding asked-for asking-client given-run
counts = refl

grant-sent : slice_get (run two-hosts asked-for).packets 1 ≡ Some (to_host 0 (reply 1 (Reply.GetLease 1 (Some given))))
unfolding asked-for given-run
grant-sent = refl

stands-then : find_row 1 asking-client.who.host (standing (run two-hosts asked-for).server).rows ≡ Some held-row
unfolding asked-for asking-client given-run
stands-then = refl

is-asking : asking-client.who ≡ holder
unfolding asked-for asking-client given-run
is-asking = refl

pushing-is-there : is_some (slice_get (run two-hosts (pushed ++ asked-for)).clients 0) ≡ true
unfolding asked-for pushed given-run
pushing-is-there = refl

pushing-there : slice_get (run two-hosts (pushed ++ asked-for)).clients 0 ≡ Some pushing-client
unfolding pushing-client
pushing-there = some-is (slice_get (run two-hosts (pushed ++ asked-for)).clients 0) (attached_client holder 30 0) pushing-is-there

held : lease_on 1 pushing-client.leases ≡ Some held-lease
unfolding asked-for pushed pushing-client given-run
held = refl

is-pushing : pushing-client.who ≡ holder
unfolding asked-for pushed pushing-client given-run
is-pushing = refl

stands : find_row 1 pushing-client.who.host (standing (run two-hosts (pushed ++ asked-for)).server).rows ≡ Some held-row
unfolding asked-for pushed pushing-client given-run
stands = refl

done : has_done_write (host_row (run two-hosts (pushed ++ asked-for)).server.kept 0) pushing-client.who.inc 1 pushing-client.ticket ≡ true
unfolding asked-for pushed pushing-client given-run
done = refl

skew-asked : is_within_skew 2 60 asked-for ≡ true
unfolding asked-for
skew-asked = refl

skew-pushed : is_within_skew 2 60 (pushed ++ asked-for) ≡ true
unfolding asked-for pushed
skew-pushed = refl

pub chains-met : ChainsAreMet
chains-met = record {
  most = 60;
  head = two-hosts;
  earlier = asked-for;
  later = pushed;
  host = 0;
  bounds_earlier = record { hosts = omega arith; first_long = omega arith; first_short = omega arith; boots = within-asked };
  within_earlier = skew-test-is-sound 2 60 asked-for skew-asked;
  given = record {
    client = asking-client;
    ticket = asked;
    file = 1;
    grant = given;
    row = held-row;
    there = asking-there;
    takeable =
        record {
          k = 1;
          packet = to_host 0 (reply 1 (Reply.GetLease 1 (Some given)));
          xid = 1;
          answer = Reply.GetLease 1 (Some given);
          sent = grant-sent;
          for_host = refl;
          brings = refl;
          asked = asks;
          counts = counts;
          grants = refl;
          on_file = refl;
        };
    caching = refl;
    chained = record { own = record { stands = stands-then; holder = sym is-asking }; began = refl };
  };
  bounds = record { hosts = omega arith; first_long = omega arith; first_short = omega arith; boots = within-pushed };
  within = skew-test-is-sound 2 60 (pushed ++ asked-for) skew-pushed;
  held = record {
    client = pushing-client;
    lease = held-lease;
    row = held-row;
    there = pushing-there;
    held = held;
    caching = refl;
    chained = record { own = record { stands = stands; holder = sym is-pushing }; began = refl };
    done = done;
  };
}
