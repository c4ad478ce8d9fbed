-- What each event does to a world, from what it did to the world's parts.
use Rattle.std.proofs.Common.{◌≡◌, ◌≤◌, ◌<◌, ℕ, ◌+◌, List, [], Option, Some, None, length, get_or, refl, sym, ap, ◌∙◌, arith}
use Rattle.std.specs.Prelude.{Result, slice_get}
use Rattle.nq_base.specs.declared.Call.{Call}
use Rattle.nq_base.specs.declared.Event.{Event}
use Rattle.nq_base.specs.declared.Party.{Party}
use Rattle.nq_base.specs.declared.SkewBroken.{SkewBroken}
use Rattle.nq_client.specs.Counted.{Counted}
use Rattle.nq_clock.specs.Counts.{SkewCounts}
use Rattle.nq_clock.specs.Tracks.{Follows}
use Rattle.nq_datagrams.specs.Incoming.{datagram_in, hears_in}
use Rattle.nq_base.specs.Entries.{EntryList}
use Rattle.nq_model.specs.protocol.Client.{Client, ClientStep}
use Rattle.nq_model.specs.protocol.ClientStep.{client_call, client_tick, restart}
use Rattle.nq_model.specs.protocol.Kept.{Kept}
use Rattle.nq_model.specs.protocol.Profile.{most_taken_by_server, shortest_term}
use Rattle.nq_model.specs.protocol.SkewBroken.{skew_broken}
use Rattle.nq_model.specs.protocol.ServerStep.{at_time, crash, receive, tick}
use Rattle.nq_model.specs.protocol.Server.{Server, ServerStep}
use Rattle.nq_model.specs.protocol.World.{after_server, run, sending_host}
use Rattle.nq_link.specs.Packets.{Datagram, PacketList}
use Rattle.nq_server.specs.Holding.{Holding, IsTaken, Reboots}
use Rattle.nq_server.specs.State.{server_of}
use Rattle.nq_server.specs.Stepping.{next_of}
use Rattle.nq_server.specs.declared.received.Received.{Received}
use Rattle.nq_wire.specs.Outbox.{Datagrams}
use Rattle.walk_steps.proofs.Saying.{server-says-plainly}
use Rattle.nq_world.proofs.Moved.{acts-steps, client-steps, hearing-steps}
use Rattle.nq_world.proofs.Passing.{done-passes}
use Rattle.nq_world.proofs.Played.{clocks-stay}
use Rattle.nq_world.proofs.Served.{delivery-steps, given-delivery, reboot-serves, same-server, serves-steps, taken-serves}
use Rattle.nq_world.proofs.Unspent.{server-in-time}
use Rattle.nq_world.specs.Counting.{IsLastTime}
use Rattle.nq_world.specs.Moving.{ActsAt, Clocks, Ends, HasRoom, received}
use Rattle.nq_world.specs.Playing.{WorldOver, TakesIn, seen_of}
use Rattle.nq_base.specs.declared.ending.fault.Fault.{Fault}
use Rattle.nq_world.specs.declared.stepped.Stepped.{Stepped}

-- a world by its parts
abbrev pub world : {K : Type 0} → Holding K → List Counted → PacketList → EntryList → SkewCounts → (events term : ℕ) → WorldOver K
world server clients packets journal skew events term = record {
  server = server;
  clients = clients;
  datagrams = packets.datagrams;
  entries = journal.entries;
  skew = skew;
  events = events;
  term = term;
}

-- room was made, an event at a client was made or not, and it ended
pub record IsAtClient (host : ℕ) (step_of : Client → Option ClientStep) (made : Result Unit Fault) (answer : Stepped) (clients clients' : List Counted)
    (packets room packets' : PacketList) (journal journal' : EntryList) (sent : List (Party × List ℕ)) (events events' : ℕ) : Type 0 where
  pub acts : ActsAt host step_of made clients clients' sent journal.entries journal'.entries
  pub has_room : HasRoom room
  pub same : room.datagrams ≡ packets.datagrams
  pub ends : Ends made answer (Party.Client host) sent room packets' events events'

pub call-takes : {K : Type 0} (content : K → Option Kept) (host : ℕ) (op : Call) (made : Result Unit Fault) (answer : Stepped) (server : Holding K)
    (clients clients' : List Counted) (packets room packets' : PacketList) (journal journal' : EntryList) (skew : SkewCounts)
    (sent : List (Party × List ℕ)) (events events' term : ℕ)
    → IsAtClient host (λ c. Some (client_call c op)) made answer clients clients' packets room packets' journal journal' sent events events'
    → TakesIn content (Event.Call host op) answer (world server clients packets journal skew events term) (world server clients' packets' journal'
    skew events' term)
call-takes content host op made answer server clients clients' packets room packets' journal journal' skew sent events events' term x head earlier
    plays passes =
    acts-steps head earlier (Event.Call host op) host (λ c. Some (client_call c op)) made answer (world server clients packets journal skew events
    term) (world server clients' packets' journal' skew events' term) (content server.keeper) sent room packets' plays (record {
      fit = record { passes = passes; given = tt; boots = tt };
      is = client-steps (run head earlier) clients host (λ c. client_call c op) plays.shown.shows.clients;
      acts = x.acts;
      room = x.has_room;
      before = x.same;
      after = refl;
      ends = x.ends;
      clocks = clocks-stay made (Event.Call host op) skew (record { server = refl; client = λ h below. refl });
      server = refl;
      term = refl;
    })

pub restart-takes : {K : Type 0} (content : K → Option Kept) (host : ℕ) (made : Result Unit Fault) (answer : Stepped) (server : Holding K)
    (clients clients' : List Counted) (packets room packets' : PacketList) (journal journal' : EntryList) (skew : SkewCounts)
    (sent : List (Party × List ℕ)) (events events' term : ℕ)
    → IsAtClient host (λ c. Some (restart c)) made answer clients clients' packets room packets' journal journal' sent events events'
    → TakesIn content (Event.Restart host) answer (world server clients packets journal skew events term) (world server clients' packets' journal'
    skew events' term)
restart-takes content host made answer server clients clients' packets room packets' journal journal' skew sent events events' term x head earlier
    plays passes =
    acts-steps head earlier (Event.Restart host) host (λ c. Some (restart c)) made answer (world server clients packets journal skew events term)
    (world server clients' packets' journal' skew events' term) (content server.keeper) sent room packets' plays (record {
      fit = record { passes = passes; given = tt; boots = tt };
      is = client-steps (run head earlier) clients host restart plays.shown.shows.clients;
      acts = x.acts;
      room = x.has_room;
      before = x.same;
      after = refl;
      ends = x.ends;
      clocks = clocks-stay made (Event.Restart host) skew (record { server = refl; client = λ h below. refl });
      server = refl;
      term = refl;
    })

pub tick-takes : {K : Type 0} (content : K → Option Kept) (host : ℕ) (made : Result Unit Fault) (answer : Stepped) (server : Holding K)
    (clients clients' : List Counted) (packets room packets' : PacketList) (journal journal' : EntryList) (skew skew' : SkewCounts)
    (sent : List (Party × List ℕ)) (events events' term : ℕ)
    → IsAtClient host (λ c. Some (client_tick c (c.now + 1))) made answer clients clients' packets room packets' journal journal' sent events events'
    → Clocks made (Event.ClientTick host) skew skew'
    → TakesIn content (Event.ClientTick host) answer (world server clients packets journal skew events term) (world server clients' packets' journal'
    skew' events' term)
tick-takes content host made answer server clients clients' packets room packets' journal journal' skew skew' sent events events' term x clocks head
    earlier plays passes =
    acts-steps head earlier (Event.ClientTick host) host (λ c. Some (client_tick c (c.now + 1))) made answer (world server clients packets journal
    skew events term) (world server clients' packets' journal' skew' events' term) (content server.keeper) sent room packets' plays (record {
      fit = record { passes = passes; given = tt; boots = tt };
      is = client-steps (run head earlier) clients host (λ c. client_tick c (c.now + 1)) plays.shown.shows.clients;
      acts = x.acts;
      room = x.has_room;
      before = x.same;
      after = refl;
      ends = x.ends;
      clocks = clocks;
      server = refl;
      term = refl;
    })

pub hear-takes : {K : Type 0} (content : K → Option Kept) (number host : ℕ) (d : Datagram) (made : Result Unit Fault) (answer : Stepped)
    (server : Holding K) (clients clients' : List Counted) (packets room packets' : PacketList) (journal journal' : EntryList) (skew : SkewCounts)
    (sent : List (Party × List ℕ)) (events events' term : ℕ)
    → slice_get packets.datagrams number ≡ Some d
    → d.to ≡ Party.Client host
    → ((i : ℕ) → get_or d.bytes i 0 < 256)
    → IsAtClient host (λ c. hears_in c number d.bytes) made answer clients clients' packets room packets' journal journal' sent events events'
    → TakesIn content (Event.Deliver number) answer (world server clients packets journal skew events term) (world server clients' packets' journal'
    skew events' term)
hear-takes content number host d made answer server clients clients' packets room packets' journal journal' skew sent events events' term is to below
    x head earlier plays passes =
    let old : WorldOver _ = world server clients packets journal skew events term in
    acts-steps head earlier (Event.Deliver number) host (λ c. hears_in c number d.bytes) made answer old (world server clients' packets' journal' skew
    events' term) (content server.keeper) sent room packets' plays (record {
      fit = record { passes = passes; given = given-delivery (run head earlier) (seen_of old) number d plays.shown.shows is below; boots = tt };
      is = hearing-steps head earlier old (content server.keeper) number host d plays is to;
      acts = x.acts;
      room = x.has_room;
      before = x.same;
      after = refl;
      ends = x.ends;
      clocks = clocks-stay made (Event.Deliver number) skew (record { server = refl; client = λ h below. refl });
      server = refl;
      term = refl;
    })

-- room was made, an event at the server was made or not, and it ended
pub record IsAtServer (made : Result Unit Fault) (answer : Stepped) (packets room packets' : PacketList) (sent : List (Party × List ℕ))
    (events events' : ℕ) : Type 0 where
  pub has_room : HasRoom room
  pub same : room.datagrams ≡ packets.datagrams
  pub ends : Ends made answer Party.Server sent room packets' events events'

-- the number of the next packet
next-number : (out : Datagrams) (packets : ℕ) → out.datagrams ≡ [] → out.first ≡ packets → packets ≤ 999936 → next_of out ≡ packets
next-number out packets empty first few = let none = ap length empty in omega arith

pub receive-takes : {K : Type 0} (content : K → Option Kept) (number host : ℕ) (d : Datagram) (r : Received) (answer : Stepped)
    (server server' : Holding K) (clients : List Counted) (packets room packets' : PacketList) (journal journal' : EntryList) (skew : SkewCounts)
    (out out' : Datagrams) (before count events events' term : ℕ)
    → slice_get packets.datagrams number ≡ Some d
    → d.to ≡ Party.Server
    → host ≡ sending_host d.sender
    → ((i : ℕ) → get_or d.bytes i 0 < 256)
    → out.datagrams ≡ []
    → out.first ≡ length packets.datagrams
    → (r ≡ Received.Spent → server.taken ≡ most_taken_by_server)
    → IsTaken (λ kept. receive (server_of server.beside kept) host (next_of out) (datagram_in d.bytes)) r (content server.keeper)
    (content server'.keeper) before count server server' out out' journal journal'
    → IsAtServer (received r) answer packets room packets' out'.datagrams events events'
    → TakesIn content (Event.Deliver number) answer (world server clients packets journal skew events term) (world server' clients packets' journal'
    skew events' term)
receive-takes content number host d r answer server server' clients packets room packets' journal journal' skew out out' before count events events'
    term is to from below empty first all taken x head earlier plays passes =
    let old : WorldOver _ = world server clients packets journal skew events term in
    let told = content server.keeper in
    let s : Server = (run head earlier).server in
    let few = (done-passes head earlier (seen_of old) skew (Event.Deliver number) plays.shown passes).room in
    let next : next_of out ≡ length packets.datagrams = next-number out (length packets.datagrams) empty first few in
    let t : ServerStep = receive (server_of server.beside s.kept) host (next_of out) (datagram_in d.bytes) in
    let own : receive s (sending_host d.sender) (length packets.datagrams) (datagram_in d.bytes) ≡ t =
    ap (λ v. receive v (sending_host d.sender) (length packets.datagrams) (datagram_in d.bytes)) (sym (same-server s server.beside plays.holds))
    ∙ ap (λ n. receive (server_of server.beside s.kept) (sending_host d.sender) n (datagram_in d.bytes)) (sym next)
    ∙ ap (λ h. receive (server_of server.beside s.kept) h (next_of out) (datagram_in d.bytes)) (sym from) in
    serves-steps head earlier (Event.Deliver number) t (received r) answer old (world server' clients packets' journal' skew events' term) told
    (content server'.keeper) out'.datagrams room packets' plays (record {
      fit = record { passes = passes; given = given-delivery (run head earlier) (seen_of old) number d plays.shown.shows is below; boots = tt };
      is = delivery-steps head earlier old told number d plays is to ∙ ap (after_server (run head earlier)) own;
      says = server-says-plainly.receives (server_of server.beside s.kept) host (next_of out) (datagram_in d.bytes);
      serves = taken-serves (λ kept. receive (server_of server.beside kept) host (next_of out) (datagram_in d.bytes)) r s.kept told
          (content server'.keeper) before count server server' out out' journal journal' plays.keeps empty all taken;
      room = x.has_room;
      before = x.same;
      after = refl;
      ends = x.ends;
      clocks = clocks-stay (received r) (Event.Deliver number) skew (record { server = refl; client = λ h b. refl });
      clients = refl;
      term = refl;
    })

pub tick-server-takes : {K : Type 0} (content : K → Option Kept) (time : ℕ) (r : Received) (answer : Stepped) (server server' : Holding K)
    (clients : List Counted) (packets room packets' : PacketList) (journal journal' : EntryList) (skew skew' : SkewCounts) (out out' : Datagrams)
    (before count events events' term : ℕ)
    → time ≡ server.beside.time + 1
    → out.datagrams ≡ []
    → (r ≡ Received.Spent → server.taken ≡ most_taken_by_server)
    → IsTaken (λ kept. tick (server_of server.beside kept) time) r (content server.keeper) (content server'.keeper) before count server server' out
    out' journal journal'
    → IsAtServer (received r) answer packets room packets' out'.datagrams events events'
    → Clocks (received r) Event.ServerTick skew skew'
    → TakesIn content Event.ServerTick answer (world server clients packets journal skew events term) (world server' clients packets' journal' skew'
    events' term)
tick-server-takes content time r answer server server' clients packets room packets' journal journal' skew skew' out out' before count events events'
    term later empty all taken x clocks head earlier plays passes =
    let old : WorldOver _ = world server clients packets journal skew events term in
    let told = content server.keeper in
    let s : Server = (run head earlier).server in
    let t : ServerStep = tick (server_of server.beside s.kept) time in
    let now : time ≡ s.now + 1 = later ∙ ap (λ b. b.time + 1) plays.holds in
    let own : tick s (s.now + 1) ≡ t = ap (λ v. tick v (s.now + 1)) (sym (same-server s server.beside plays.holds))
    ∙ ap (tick (server_of server.beside s.kept)) (sym now) in
    serves-steps head earlier Event.ServerTick t (received r) answer old (world server' clients packets' journal' skew' events' term) told
    (content server'.keeper) out'.datagrams room packets' plays (record {
      fit = record { passes = passes; given = tt; boots = tt };
      is = ap (after_server (run head earlier)) own;
      says = server-says-plainly.ticks (server_of server.beside s.kept) time;
      serves = taken-serves (λ kept. tick (server_of server.beside kept) time) r s.kept told (content server'.keeper) before count server server' out
          out' journal journal' plays.keeps empty all taken;
      room = x.has_room;
      before = x.same;
      after = refl;
      ends = x.ends;
      clocks = clocks;
      clients = refl;
      term = refl;
    })

at-own-time : (s : Server) → at_time s s.now ≡ s
unfolding at_time
at-own-time s = refl

pub crash-takes : {K : Type 0} (content : K → Option Kept) (longest time : ℕ) (r : Received) (answer : Stepped) (server server' : Holding K)
    (clients : List Counted) (packets room packets' : PacketList) (journal journal' : EntryList) (skew : SkewCounts) (out : Datagrams)
    (before count events events' term : ℕ)
    → shortest_term ≤ longest
    → longest ≤ skew.window
    → time ≡ server.beside.time
    → out.datagrams ≡ []
    → Reboots longest time r (content server.keeper) (content server'.keeper) before count server server' journal journal'
    → IsAtServer (received r) answer packets room packets' out.datagrams events events'
    → TakesIn content (Event.Crash longest) answer (world server clients packets journal skew events term) (world server' clients packets' journal'
    skew events' term)
crash-takes content longest time r answer server server' clients packets room packets' journal journal' skew out before count events events' term long
    short now empty reboots x head earlier plays passes =
    let old : WorldOver _ = world server clients packets journal skew events term in
    let told = content server.keeper in
    let s : Server = (run head earlier).server in
    let u : Server = server_of server.beside s.kept in
    let same : u ≡ s = same-server s server.beside plays.holds in
    let t : ServerStep = crash (at_time u time) longest in
    let own : crash s longest ≡ t =
    ap (λ v. crash v longest) (sym same ∙ sym (at-own-time u) ∙ ap (at_time u) (sym now)) in
    let window : skew.window ≡ head.longest = plays.shown.window in
    let most = plays.shown.within.short in
    serves-steps head earlier (Event.Crash longest) t (received r) answer old (world server' clients packets' journal' skew events' term) told
    (content server'.keeper) out.datagrams room packets' plays (record {
      fit = record { passes = passes; given = (long, omega arith); boots = (long, omega arith) };
      is = ap (after_server (run head earlier)) own;
      says = server-says-plainly.crashes (at_time u time) longest;
      serves = reboot-serves longest time r s.kept told (content server'.keeper) before count server server' out journal journal' plays.keeps empty reboots;
      room = x.has_room;
      before = x.same;
      after = refl;
      ends = x.ends;
      clocks = clocks-stay (received r) (Event.Crash longest) skew (record { server = refl; client = λ h b. refl });
      clients = refl;
      term = refl;
    })

-- the test of skew finds nothing broken at a tick of the server's clock that the protocol takes in
pub broken-takes : {K : Type 0} (content : K → Option Kept) (broken : SkewBroken) (answer : Stepped) (old new : WorldOver K)
    → ((events : List Event) → Follows old.skew events → skew_broken (length old.skew.hosts) old.skew.window events ≡ Some broken)
    → TakesIn content Event.ServerTick answer old new
broken-takes content broken answer old new finds head events plays passes =
    let none : skew_broken (length old.skew.hosts) old.skew.window events ≡ None = (done-passes head events (seen_of old) old.skew Event.ServerTick
    plays.shown passes).allows in
    let some = finds events plays.shown.clocks in
    absurd (cc)

-- no event is taken in where the server's clock shows the last time: no run comes there
pub late-takes : {K : Type 0} (content : K → Option Kept) (event : Event) (answer : Stepped) (old new : WorldOver K)
    → IsLastTime old.server.beside.time
    → TakesIn content event answer old new
late-takes content event answer old new late head events plays passes =
    absurd (server-in-time head events old (content old.server.keeper) plays late)
