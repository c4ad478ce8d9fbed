-- A host asks for a lease to write, and gets it.
use Rattle.std.proofs.Common.{◌≡◌, ◌<◌, true, [], ◌∷◌, Some, None, refl, sym, subst, ap, arith}
use Rattle.std.proofs.lemmas.List.Elements.{All-cons, All-nil}
use Rattle.std.specs.Prelude.{All, IsSomeAnd, map, reverse}
use Rattle.nq_loop.specs.Serving.{datagram, HasBooted, HasCome}
use Rattle.nq_loop.specs.ServedRowsAreMet.{ServedRowsAreMet}
use Rattle.nq_base.specs.declared.Grant.{Grant}
use Rattle.nq_base.specs.declared.Mode.{Mode}
use Rattle.nq_base.specs.declared.Reply.{Reply}
use Rattle.nq_base.specs.declared.Request.{Request}
use Rattle.nq_base.specs.declared.Who.{Who}
use Rattle.nq_keeper.specs.Booting.{last_boot}
use Rattle.nq_datagrams.proofs.Readers.{server-reads-messages}
use Rattle.nq_datagrams.specs.Incoming.{datagram_in}
use Rattle.nq_datagrams.specs.Messages.{FitsMessage, bytes_of}
use Rattle.nq_base.specs.Entries.{EntryList}
use Rattle.nq_model.specs.protocol.Ask.{grant_of, caching_row, granted}
use Rattle.nq_model.specs.protocol.Kept.{Kept, new_file}
use Rattle.nq_model.specs.protocol.Message.{Message, Packet, call, reply, request}
use Rattle.nq_model.specs.protocol.Server.{Server, ServerStep, taken, to_host, with_table}
use Rattle.nq_model.specs.protocol.ServerStep.{boot, leases, receive}
use Rattle.nq_model.specs.protocol.Table.{is_writing, find_row, empty_table, with_rows, after_draw}
use Rattle.nq_model.specs.protocol.World.{Head, first_kept}
use Rattle.nq_server.specs.Holding.{Holding, IsServer, TakesIn}
use Rattle.nq_server.specs.State.{beside, server_of}
use Rattle.nq_server.specs.Stepping.{datagram_of_packet, next_of}
use Rattle.nq_server.specs.declared.Received.{Received}
use Rattle.nq_wire.specs.Outbox.{Datagrams}

-- one host, and one file of one block
abbrev head : Head
head = record { hosts = 1; term = 30; longest = 60; files = (97 ∷ [], 1) ∷ [] }

abbrev kept : Kept
kept = first_kept head

abbrev first : Server
first = boot kept 60 0 None

abbrev who : Who
who = record { host = 0; inc = 1 }

abbrev asks : Request
asks = Request.GetLease who 1 (record { mode = Mode.Writing; term = 30 })

abbrev grant : Grant
grant = record {
  mode = Mode.Writing;
  term = 30;
  tag = record { boot = 1; number = 1 };
  since = record { boot = 1; number = 1 };
  rev = 0;
  blocks = 1;
}

abbrev asked : Message
asked = call 1 asks

abbrev answered : Packet
answered = to_host 0 (reply 1 (Reply.GetLease 1 (Some grant)))

-- the server's step
abbrev step : ServerStep
step = receive first 0 0 (request 1 asks)

abbrev booted : Holding Kept
booted = record { keeper = first.kept; beside = beside first; taken = 0 }

abbrev after : Holding Kept
after = record { keeper = step.server.kept; beside = beside step.server; taken = 1 }

abbrev none-sent : Datagrams
none-sent = record { first = 0; datagrams = []; spare = 0 }

abbrev sent : Datagrams
sent = record { first = 0; datagrams = map datagram_of_packet step.sends; spare = 0 }

abbrev none-told : EntryList
none-told = record { entries = []; spare = 0 }

abbrev told : EntryList
told = record { entries = reverse step.entries; spare = 0 }

is-taken : step.outcome ≡ taken
unfolding grant_of caching_row granted new_file with_table boot leases empty_table with_rows after_draw
is-taken = refl

says : step.sends ≡ answered ∷ []
unfolding grant_of caching_row granted new_file with_table boot leases empty_table with_rows after_draw
says = refl

has-row : IsSomeAnd (find_row 1 0 after.beside.table.rows) (λ row. is_writing row.mode ≡ true)
unfolding grant_of caching_row granted new_file with_table boot leases empty_table with_rows after_draw
has-row = refl

asked-fits : FitsMessage asked
asked-fits = (omega arith, (record { host = omega arith; inc = omega arith }, omega arith, record { term = omega arith }), tt)

answered-fits : FitsMessage answered.message
answered-fits = (
  omega arith,
  (
    omega arith,
    record {
      term = omega arith;
      tag = record { boot = omega arith; number = omega arith };
      since = record { boot = omega arith; number = omega arith };
      rev = omega arith;
      blocks = omega arith;
    },
  ),
)

all-fit : All (λ p. FitsMessage p.message) step.sends
all-fit =
    subst (All (λ (p : Packet). FitsMessage p.message)) (sym says) (All-cons (λ (p : Packet). FitsMessage p.message) answered [] answered-fits (All-nil _))

same : receive first 0 0 (datagram_in (bytes_of asked)) ≡ step
same = ap (receive first 0 0) (server-reads-messages asked asked-fits)

takes : TakesIn (receive first 0 0 (datagram_in (bytes_of asked))) taken (Some after.keeper) after none-sent sent none-told told
takes =
    subst
    (λ t. TakesIn t taken (Some after.keeper) after none-sent sent none-told told)
    (sym same)
    (record {
      outcome = is-taken;
      makes = record {
        keeps = refl;
        holds = refl;
        sends = record { first = refl; added = refl; fit = all-fit };
        enters = refl;
      };
    })

some-is : (kept other : Kept) → Some kept ≡ Some other → kept ≡ other
some-is kept other e = cc

boots-over : (other : Kept) → Some kept ≡ Some other → (other.boot < last_boot) × IsServer (boot other 60 0 None) booted (Some booted.keeper)
boots-over other e =
    subst
    (λ k. (k.boot < last_boot) × IsServer (boot k 60 0 None) booted (Some booted.keeper))
    (some-is kept other e)
    (omega arith, record { keeps = refl; holds = refl; taken = refl })

has-booted : HasBooted Some (λ kept. 0) booted
has-booted = record { keeper = kept; longest = 60; now = 0; told = refl; boots = (boots-over, refl) }

has-come : HasCome Some (λ kept. 0) (datagram 0 (bytes_of asked)) booted after
has-come = record {
  answer = Received.Done;
  out = none-sent;
  out' = sent;
  log = none-told;
  log' = told;
  told = refl;
  does = (
    λ other e.
        subst
        (λ k. TakesIn (receive (server_of booted.beside k) 0 (next_of none-sent) (datagram_in (bytes_of asked))) taken (Some after.keeper) after
        none-sent sent none-told told)
        (some-is first.kept other e)
        takes,
    refl,
    refl,
  );
}

pub served-rows-are-met : ServedRowsAreMet
served-rows-are-met = record {
  came = datagram 0 (bytes_of asked) ∷ [];
  s = after;
  file = 1;
  host = 0;
  served = (booted, has-booted, has-come);
  writes = has-row;
}
