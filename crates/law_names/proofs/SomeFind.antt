-- A host lists the directory of the one file that there is.
use Rattle.std.proofs.Common.{◌≡◌, List, [], ◌∷◌, Some, None, false, refl, sym, subst, ap, arith}
use Rattle.std.proofs.lemmas.List.Elements.{All-nil, All-cons}
use Rattle.std.specs.Prelude.{All, slice_get}
use Rattle.nq_base.specs.Name.{IsName, IsNameByte, is_name}
use Rattle.nq_base.specs.declared.Event.{Event}
use Rattle.nq_base.specs.declared.Mode.{Mode}
use Rattle.nq_base.specs.declared.Who.{Who}
use Rattle.nq_directory.specs.Names.{name_before}
use Rattle.nq_directory.specs.Messages.{read_dir_arguments, read_dir_bytes, entry_bytes, front_bytes, results, answer_bytes}
use Rattle.nq_directory.specs.Reading.{call_as, call_in, results_of, results_in, end_at, prefix_at, entry_at, count_at, page_at, read_dir_at}
use Rattle.nq_directory.specs.Reading.{page_alone, wait_alone, answer_at, told_at, read_dir_in, dir_tag_at, dir_evicted_in, dir_vacated_in, told_in}
use Rattle.nq_model.proofs.SkewTest.{skew-test-is-sound}
use Rattle.nq_model.specs.protocol.Client.{Client, Lease}
use Rattle.nq_model.specs.protocol.ClientStep.{attached_client, fresh_client}
use Rattle.nq_model.specs.protocol.Skew.{IsWithinSkew}
use Rattle.nq_model.specs.protocol.World.{Head}
use Rattle.nq_directory.specs.declared.name_cache.found.Found.{Found}
use Rattle.nq_directory.specs.NameCacheNames.{DirList, Names}
use Rattle.nq_name_server.specs.declared.run.event.NameEvent.{NameEvent}
use Rattle.nq_name_server.specs.Lasting.{IsLive}
use Rattle.nq_name_server.specs.Outer.{Outside, outside_start}
use Rattle.nq_name_server.specs.Outside.{asks_as, found, outside_run, sends, served_as}
use Rattle.nq_name_server.specs.Theorem.{IsNamesSchedule}
use Rattle.nq_model.specs.laws.Bounds.{BootsWithin}
use Rattle.nq_xdr.specs.Message.{auth, numbers, outcome, spelling}
use Rattle.nq_xdr.specs.RpcReading.{behind_auth, call_at, ended, bounds_at, accepted_as, accepted_at, denied_as, denied_at, outcome_at, reply_at, message_at}
use Rattle.nq_wire.specs.Parts.{head, tag_bytes, want_bytes, grant_bytes, optional}
use Rattle.nq_wire.specs.Reading.{head_at, tag_at, granted_mode, grant_at, optional_at, name_of, name_at}
use Rattle.nq_xdr.specs.Item.{word, hyper, boolean, padding, opaque}
use Rattle.nq_xdr.specs.Reading.{bytes_at, word_at, hyper_at, boolean_at, body_at, opaque_at}
use Rattle.walk_steps.specs.Within.{AreGiven}
use Rattle.law_names.specs.Met.{FindsAreMet}
use Rattle.walk_steps.proofs.GivenRuns.{given-run}

-- one host, one file of one block
abbrev one-host : Head
one-host = record { hosts = 1; term = 30; longest = 60; files = (97 ∷ [], 1) ∷ [] }

-- the newest event first
abbrev one-list : List NameEvent
one-list = NameEvent.Plain (Event.Deliver 1) ∷ NameEvent.Plain (Event.Deliver 0) ∷ NameEvent.List 0 [] ∷ []

abbrev reached : Outside
reached = outside_run one-host one-list

abbrev asker : Who
asker = record { host = 0; inc = 1 }

-- what the host keeps then
abbrev lease : Lease
lease = record { file = 0; mode = Mode.Reading; tag = record { boot = 1; number = 1 }; term = 30; expiry = 30; blocks = 0; used = false }

abbrev list : DirList
list = record { prefix = []; lease = Some lease; names = record { file = 1; name = 97 ∷ [] } ∷ [] }

abbrev keeps : Names
keeps = record { who = asker; next = 2147483649; lists = list ∷ []; asked = None }

abbrev client : Client
client = attached_client asker 30 0

record Seen : Type 0 where
  sides : List Names
  clients : List Client
  ran : List Event
  there : Found
  absent : Found

abbrev seen-of : Outside → Seen
seen-of o = record {
  sides = o.sides;
  clients = o.world.clients;
  ran = o.ran;
  there = found o 0 (97 ∷ []);
  absent = found o 0 (98 ∷ []);
}

seen : seen-of reached ≡ record { sides = keeps ∷ []; clients = client ∷ []; ran = []; there = Found.File 1; absent = Found.Absent }
unfolding given-run is_name name_before read_dir_arguments read_dir_bytes entry_bytes front_bytes results answer_bytes call_as call_in results_of
    results_in end_at prefix_at entry_at count_at page_at read_dir_at page_alone wait_alone answer_at told_at read_dir_in dir_tag_at
    dir_evicted_in dir_vacated_in told_in attached_client fresh_client outside_start asks_as sends served_as auth numbers outcome spelling
    behind_auth call_at ended bounds_at accepted_as accepted_at denied_as denied_at outcome_at reply_at message_at head tag_bytes want_bytes
    grant_bytes optional head_at tag_at granted_mode grant_at optional_at name_of name_at word hyper boolean padding opaque bytes_at word_at
    hyper_at boolean_at body_at opaque_at
seen = refl

named : IsName (97 ∷ [])
named = (omega arith, omega arith, All-cons IsNameByte 97 [] (omega arith, omega arith, λ e. absurd (omega arith)) (All-nil IsNameByte))

schedule : IsNamesSchedule 60 one-host one-list
schedule =
    let none : reached.ran ≡ [] = ap (λ s. s.ran) seen in
    record {
      few = omega arith;
      prefixes = (tt, (tt, (omega arith, tt)));
      head_within = record {
        hosts = omega arith;
        long = omega arith;
        short = omega arith;
        files = ((named, omega arith, omega arith), tt);
        few_files = omega arith;
        few_blocks = omega arith;
        distinct = (tt, tt);
      };
      bounds = record {
        hosts = omega arith;
        first_long = omega arith;
        first_short = omega arith;
        boots = subst (λ es. All (BootsWithin 60) es)
            (sym none) (All-nil (BootsWithin 60));
      };
      given = subst (AreGiven one-host) (sym none) tt;
      skew = subst (IsWithinSkew 1 60) (sym none) (skew-test-is-sound 1 60 [] refl);
    }

starts-at : client.now ≡ 0
unfolding attached_client fresh_client
starts-at = refl

live : IsLive reached 0 keeps client list lease
live = record {
  side = ap (λ s. slice_get s.sides 0) seen;
  client = ap (λ s. slice_get s.clients 0) seen;
  listed = refl;
  held = refl;
  runs = let now = starts-at in omega arith;
}

pub finds-are-met : FindsAreMet
finds-are-met = record {
  most = 60;
  head = one-host;
  events = one-list;
  schedule = schedule;
  host = 0;
  names = keeps;
  client = client;
  list = list;
  lease = lease;
  live = live;
  name = 97 ∷ [];
  file = 1;
  there = ap (λ s. s.there) seen;
  other = 98 ∷ [];
  absent = ap (λ s. s.absent) seen;
}
