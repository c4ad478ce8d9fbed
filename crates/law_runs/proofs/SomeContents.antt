-- A write is delayed, pushed and stored; and then its block is clean.
use Rattle.std.proofs.Common.{◌≡◌, ℕ, true, List, [], ◌∷◌, Some, refl, sym, ap, ◌∙◌, arith}
use Rattle.std.specs.Prelude.{slice_get, unwrap_or, is_some}
use Rattle.nq_base.specs.Block.{filled, zeros, value_of}
use Rattle.nq_base.specs.declared.Call.{Call}
use Rattle.nq_base.specs.declared.Event.{Event}
use Rattle.nq_base.specs.declared.PushBase.{PushBase}
use Rattle.nq_base.specs.declared.Reply.{Reply}
use Rattle.nq_base.specs.declared.Request.{Request}
use Rattle.nq_base.specs.declared.Verdict.{Verdict}
use Rattle.nq_base.specs.declared.Who.{Who}
use Rattle.law_runs.specs.ContentsMet.{IsContentSometime}
use Rattle.walk_steps.proofs.NoCrash.{no-crash-within}
use Rattle.nq_model.proofs.SkewTest.{skew-test-is-sound}
use Rattle.nq_model.specs.protocol.Client.{Clean, Client, Job, Ticket, clean_at, revision_of}
use Rattle.nq_model.specs.protocol.ClientStep.{fresh_client}
use Rattle.nq_model.specs.protocol.Kept.{File, find_file, host_row}
use Rattle.nq_model.specs.protocol.Message.{reply}
use Rattle.nq_model.specs.protocol.Server.{to_host}
use Rattle.nq_model.specs.protocol.Skew.{is_within_skew}
use Rattle.nq_model.specs.protocol.World.{Head, run}
use Rattle.walk_steps.proofs.Tests.{some-is}
use Rattle.walk_steps.proofs.GivenRuns.{given-run}

-- one host, one file of one block
abbrev one-host : Head
one-host = record { hosts = 1; term = 30; longest = 60; files = (97 ∷ [], 1) ∷ [] }

-- a block that is filled with the number 5
abbrev five : List ℕ
five = filled 5

-- a write asks for a lease and is delayed under it, and a sync pushes it; the newest event first
abbrev stored : List Event
stored = Event.Deliver 2 ∷ Event.Call 0 (Call.Sync 1) ∷ Event.Deliver 1 ∷ Event.Deliver 0 ∷ Event.Call 0 (Call.Write 1 0 five) ∷ []

abbrev heard : List Event
heard = Event.Deliver 3 ∷ stored

abbrev writer : Who
writer = record { host = 0; inc = 1 }

abbrev none-yet : Client
none-yet = fresh_client writer 30 0

abbrev pusher : Client
pusher = unwrap_or (slice_get (run one-host stored).clients 0) none-yet

abbrev over : PushBase
over = record { boot = 1; base = 0 }

abbrev pushed : Ticket
pushed = record { xid = 2; first = 0; last = 0; request = Request.Write writer 1 1 0 1 1 (Some over) five; job = Job.pushing }

abbrev file-then : File
file-then = record { id = 1; name = 97 ∷ []; rev = 1; bodies = five ∷ [] }

abbrev after : Client
after = unwrap_or (slice_get (run one-host heard).clients 0) none-yet

abbrev kept-block : Clean
kept-block = record { file = 1; block = 0; body = five }

is-there : is_some (slice_get (run one-host stored).clients 0) ≡ true
unfolding filled zeros given-run
is-there = refl

runs : slice_get (run one-host stored).clients 0 ≡ Some pusher
runs = some-is (slice_get (run one-host stored).clients 0) none-yet is-there

has : pusher.ticket ≡ Some pushed
unfolding filled zeros given-run
has = refl

named : pusher.who ≡ writer
unfolding filled zeros given-run
named = refl

inc : (host_row (run one-host stored).server.kept 0).inc ≡ 1
unfolding filled zeros given-run
inc = refl

decided : (host_row (run one-host stored).server.kept 0).seq ≡ 1
unfolding filled zeros given-run
decided = refl

done : (host_row (run one-host stored).server.kept 0).verdict ≡ Verdict.Done
unfolding filled zeros given-run
done = refl

found : find_file 1 (run one-host stored).server.kept.files ≡ Some file-then
unfolding filled zeros given-run
found = refl

value : (host_row (run one-host stored).server.kept 0).value ≡ 1
unfolding filled zeros given-run
value = refl

told : slice_get (run one-host stored).packets 3 ≡ Some (to_host 0 (reply 2 (Reply.Write 1 1)))
unfolding filled zeros given-run
told = refl

is-there-after : is_some (slice_get (run one-host heard).clients 0) ≡ true
unfolding filled zeros given-run
is-there-after = refl

hears : slice_get (run one-host heard).clients 0 ≡ Some after
hears = some-is (slice_get (run one-host heard).clients 0) none-yet is-there-after

clean : clean_at 1 0 after.clean ≡ Some kept-block
unfolding filled zeros given-run
clean = refl

known : revision_of 1 after.revisions ≡ Some (record { file = 1; rev = 1 })
unfolding filled zeros given-run
known = refl

five-value : value_of five ≡ 5
unfolding filled zeros given-run
five-value = refl

within : is_within_skew 1 60 heard ≡ true
within = refl

pub is-content-sometime : IsContentSometime
is-content-sometime = record {
  most = 60;
  head = one-host;
  events = stored;
  host = 0;
  client = pusher;
  ticket = pushed;
  seq = 1;
  block = 0;
  number = 1;
  push = over;
  body = five;
  file = file-then;
  place = 3;
  after = after;
  kept = kept-block;
  bounds = record { hosts = omega arith; first_long = omega arith; first_short = omega arith; boots = no-crash-within 60 heard refl };
  within = skew-test-is-sound 1 60 heard within;
  runs = runs;
  has = has;
  asks = ap (λ w. Request.Write w 1 1 0 1 1 (Some over) five) (sym named);
  inc = inc ∙ ap (λ w. w.inc) (sym named);
  decided = decided;
  done = done;
  found = found;
  value = value;
  changed = refl;
  told = told ∙ ap (λ w. Some (to_host 0 (reply 2 (Reply.Write w.inc 1)))) (sym named);
  hears = hears;
  clean = clean;
  known = known;
  of_last = refl;
  not_zero = five-value;
}
