-- An event at the client of a host.
use Rattle.std.proofs.Common.{◌≡◌, ℕ, zero, suc, ◌+◌, List, [], ◌∷◌, ◌++◌, Option, Some, None, length, map, refl, sym, subst, ap, ◌∙◌, append-nil, arith}
use Rattle.std.specs.Option.{option_map}
use Rattle.std.specs.Prelude.{Result, Ok, Err, slice_get, slice_set}
use Rattle.nq_base.specs.Plain.{plain}
use Rattle.nq_base.specs.declared.Entry.{Entry}
use Rattle.nq_base.specs.declared.Event.{Event}
use Rattle.nq_base.specs.declared.Party.{Party}
use Rattle.nq_client.specs.Counted.{Counted}
use Rattle.nq_datagrams.specs.Incoming.{hears_in}
use Rattle.nq_model.specs.protocol.Client.{Client, ClientStep}
use Rattle.nq_model.specs.protocol.Kept.{Kept}
use Rattle.nq_model.specs.protocol.World.{Head, World, after_client, after_hearing, at_client, deliver, deliver_to, deliver_to_client, run, step}
use Rattle.nq_link.specs.Packets.{Datagram, PacketList}
use Rattle.nq_world.proofs.Little.{clients-send-little}
use Rattle.nq_world.proofs.Played.{IsFit, plays-on}
use Rattle.nq_world.proofs.Showing.{client-shown, deliveries-to-clients, found-packet}
use Rattle.nq_world.proofs.Unspent.{client-unspent}
use Rattle.nq_world.specs.Counting.{TookIn}
use Rattle.nq_world.specs.Moving.{ActsAt, Clocks, Ends, HasRoom, Moves, clients_in, step_at}
use Rattle.nq_world.specs.Playing.{WorldOver, IsAsBefore, Plays, Steps, seen_of}
use Rattle.nq_world.specs.Rooms.{IsSmall}
use Rattle.nq_world.specs.Shown.{Seen, Shows, sent_from}
use Rattle.nq_base.specs.declared.ending.fault.Fault.{Fault}
use Rattle.nq_base.specs.declared.ending.fault.Fault.TheVariants as fault
use Rattle.nq_world.specs.declared.stepped.Stepped.{Stepped}

-- ---- which step an event at a client is

found-client : (clients : List Counted) (host : ℕ) → slice_get (clients_in clients) host ≡ option_map (λ (c : Counted). c.client) (slice_get clients host)
found-client [] host = refl
found-client (c ∷ clients) zero = refl
found-client (c ∷ clients) (suc host) = found-client clients host

at-hearing : (w : World) (host : ℕ) (f : Client → ClientStep) (o : Option Counted) → at_client w host f (option_map (λ (c : Counted). c.client) o)
    ≡ after_hearing w host (step_at (λ c. Some (f c)) o)
at-hearing w host f None = refl
at-hearing w host f (Some c) = refl

pub client-steps : (w : World) (clients : List Counted) (host : ℕ) (f : Client → ClientStep) → clients_in clients ≡ w.clients
    → at_client w host f (slice_get w.clients host) ≡ after_hearing w host (step_at (λ c. Some (f c)) (slice_get clients host))
client-steps w clients host f same =
    ap (at_client w host f) (ap (λ cs. slice_get cs host) (sym same) ∙ found-client clients host) ∙ at-hearing w host f (slice_get clients host)

-- a datagram to a host that is not there changes nothing
lost : (w : World) (seen : Seen) (k host : ℕ) (d : Datagram) → Shows w seen → slice_get seen.datagrams k ≡ Some d → d.to ≡ Party.Client host
    → slice_get w.clients host ≡ None → deliver w k (slice_get w.packets k) ≡ w
lost w seen k host d shows e to none =
    let found = found-packet w seen k d shows e in
    let own : found.packet.to ≡ Party.Client host = sym (ap (λ x. x.to) found.is) ∙ to in
    ap (deliver w k) found.there ∙ ap (deliver_to w k found.packet) own ∙ ap (deliver_to_client w k host found.packet.message) none

heard-steps : (head : Head) (events : List Event) (seen : Seen) (clients : List Counted) (k host : ℕ) (d : Datagram) (o : Option Counted)
    → Shows (run head events) seen → seen.clients ≡ clients_in clients → slice_get seen.datagrams k ≡ Some d → d.to ≡ Party.Client host
    → slice_get clients host ≡ o
    → step (run head events) (Event.Deliver k) ≡ after_hearing (run head events) host (step_at (λ c. hears_in c k d.bytes) o)
heard-steps head events seen clients k host d None shows same e to none =
    lost (run head events) seen k host d shows e to
    (ap (λ cs. slice_get cs host) (sym shows.clients ∙ same) ∙ found-client clients host ∙ ap (option_map (λ (c : Counted). c.client)) none)
heard-steps head events seen clients k host d (Some c) shows same e to there =
    deliveries-to-clients head events seen k host d c.client shows e to
    (ap (λ cs. slice_get cs host) same ∙ found-client clients host ∙ ap (option_map (λ (x : Counted). x.client)) there)

pub hearing-steps : {K : Type 0} (head : Head) (events : List Event) (w : WorldOver K) (told : Option Kept) (k host : ℕ) (d : Datagram)
    → Plays head events w told → slice_get w.datagrams k ≡ Some d → d.to ≡ Party.Client host
    → step (run head events) (Event.Deliver k) ≡ after_hearing (run head events) host (step_at (λ c. hears_in c k d.bytes) (slice_get w.clients host))
hearing-steps head events w told k host d plays e to =
    heard-steps head events (seen_of w) w.clients k host d (slice_get w.clients host) plays.shown.shows refl e to refl

-- ---- what is seen after it

moves-shown : (w : World) (seen : Seen) (host : ℕ) (o : Option ClientStep) (old new : List Counted) (sent : List (Party × List ℕ)) (entries' : List Entry)
    → Shows w seen → seen.clients ≡ clients_in old → Moves host o old new sent seen.entries entries'
    → Shows (after_hearing w host o) (record {
      clients = clients_in new;
      datagrams = seen.datagrams ++ map (sent_from (Party.Client host)) sent;
      entries = entries';
    })
moves-shown w seen host None old new sent entries' shows same moves = record {
  clients = moves.clients ∙ sym same ∙ shows.clients;
  datagrams = ap (λ xs. seen.datagrams ++ map (sent_from (Party.Client host)) xs) moves.sends ∙ append-nil seen.datagrams ∙ shows.datagrams;
  fit = shows.fit;
  entries = ap (map plain) moves.tells ∙ shows.entries;
}
moves-shown w seen host (Some t) old new sent entries' shows same moves =
    let s = client-shown w host t seen sent moves.tells.more shows moves.fit moves.sends moves.tells.are in
    record {
      clients = moves.clients ∙ ap (λ cs. slice_set cs host t.client) (sym same) ∙ s.clients;
      datagrams = s.datagrams;
      fit = s.fit;
      entries = ap (map plain) moves.tells.behind ∙ s.entries;
    }

nothing-small : (sent : List (Party × List ℕ)) → sent ≡ [] → IsSmall sent
nothing-small sent none = subst IsSmall (sym none) (record { few = omega arith; short = omega arith })

moves-small : (head : Head) (events : List Event) (event : Event) (host : ℕ) (o : Option ClientStep) (old new : List Counted)
    (sent : List (Party × List ℕ)) (entries entries' : List Entry)
    → step (run head events) event ≡ after_hearing (run head events) host o → Moves host o old new sent entries entries' → IsSmall sent
moves-small head events event host None old new sent entries entries' is moves = nothing-small sent moves.sends
moves-small head events event host (Some t) old new sent entries entries' is moves = clients-send-little head events event host t sent is moves.fit moves.sends

moves-counts : (host : ℕ) (o : Option ClientStep) (old new : List Counted) (sent : List (Party × List ℕ)) (entries entries' : List Entry)
    → Moves host o old new sent entries entries' → (most : ℕ) → TookIn most old → TookIn (most + 1) new
moves-counts host None old new sent entries entries' moves = moves.counts
moves-counts host (Some t) old new sent entries entries' moves = moves.counts

-- a client's event leaves the server
same-server : (w : World) (host : ℕ) (o : Option ClientStep) → (after_hearing w host o).server ≡ w.server
unfolding after_client
same-server w host None = refl
same-server w host (Some t) = refl

-- ---- the whole event

-- what an event at the client of a host did to a world
pub record ActsIn {K : Type 0} (head : Head) (events : List Event) (event : Event) (host : ℕ) (step_of : Client → Option ClientStep)
    (made : Result Unit Fault) (answer : Stepped) (old new : WorldOver K) (sent : List (Party × List ℕ)) (packets packets' : PacketList) : Type 0 where
  pub fit : IsFit head events event
  pub is : step (run head events) event ≡ after_hearing (run head events) host (step_at step_of (slice_get old.clients host))
  pub acts : ActsAt host step_of made old.clients new.clients sent old.entries new.entries
  pub room : HasRoom packets
  pub before : packets.datagrams ≡ old.datagrams
  pub after : new.datagrams ≡ packets'.datagrams
  pub ends : Ends made answer (Party.Client host) sent packets packets' old.events new.events
  pub clocks : Clocks made event old.skew new.skew
  pub server : new.server ≡ old.server
  pub term : new.term ≡ old.term

acts-played : {K : Type 0} (head : Head) (events : List Event) (event : Event) (host : ℕ) (step_of : Client → Option ClientStep) (made : Unit)
    (old new : WorldOver K) (told : Option Kept) (sent : List (Party × List ℕ)) (packets packets' : PacketList)
    → Plays head events old told → ActsIn head events event host step_of (Ok made) Stepped.Done old new sent packets packets'
    → Plays head (event ∷ events) new told
acts-played {K} head events event host step_of made old new told sent packets packets' plays x =
    let w : World = run head events in
    let o : Option ClientStep = step_at step_of (slice_get old.clients host) in
    let seen : Seen = record {
      clients = clients_in new.clients;
      datagrams = old.datagrams ++ map (sent_from (Party.Client host)) sent;
      entries =
          new.entries;
    } in
    let same : new.datagrams ≡ old.datagrams ++ map (sent_from (Party.Client host)) sent = x.after ∙ x.ends.0
    ∙ ap (λ ds. ds ++ map (sent_from (Party.Client host)) sent) x.before in
    let shown : Shows (after_hearing w host o) seen = moves-shown w (seen_of old) host o old.clients new.clients sent new.entries plays.shown.shows
    refl x.acts in
    let shows : Shows (after_hearing w host o) (seen_of new) = record {
      clients = shown.clients;
      datagrams = same ∙ shown.datagrams;
      fit = shown.fit;
      entries = shown.entries;
    } in
    let left : (step w event).server ≡ w.server = ap (λ v. v.server) x.is ∙ same-server w host o in
    plays-on head events event old new told told plays x.fit
    (subst (λ v. Shows v (seen_of new)) (sym x.is) shows)
    x.clocks
    (plays.keeps ∙ ap (λ s. Some s.kept) (sym left))
    (ap (λ s. s.beside) x.server ∙ plays.holds ∙ ap (λ s. record {
      phase = s.phase;
      table = s.table;
      longest = s.longest;
      notice = s.notice;
      time =
          s.now;
    }) (sym left))
    x.ends.1
    x.term
    (let same : new.server.taken ≡ old.server.taken = ap (λ s. s.taken) x.server in let few = plays.served in omega arith)
    (moves-counts host o old.clients new.clients sent old.entries new.entries x.acts (length events) plays.heard)

unmoved : {K : Type 0} (old new : WorldOver K) → new.server ≡ old.server → new.clients ≡ old.clients → new.datagrams ≡ old.datagrams → new.entries
    ≡ old.entries → new.skew ≡ old.skew → new.events ≡ old.events → new.term ≡ old.term → IsAsBefore old new
unmoved old new server clients datagrams entries skew events term = record {
  server = record { beside = ap (λ s. s.beside) server; taken = ap (λ s. s.taken) server };
  clients = clients;
  datagrams = datagrams;
  entries = entries;
  skew = skew;
  events = events;
  term = term;
}

pub acts-steps : {K : Type 0} (head : Head) (events : List Event) (event : Event) (host : ℕ) (step_of : Client → Option ClientStep)
    (made : Result Unit Fault) (answer : Stepped) (old new : WorldOver K) (told : Option Kept) (sent : List (Party × List ℕ)) (packets packets' : PacketList)
    → Plays head events old told → ActsIn head events event host step_of made answer old new sent packets packets' → Steps head events event answer
    old new told told
acts-steps head events event host step_of (Ok made) Stepped.Done old new told sent packets packets' plays x =
    (x.fit.passes, acts-played head events event host step_of made old new told sent packets packets' plays x)
acts-steps head events event host step_of (Ok made) Stepped.Memory old new told sent packets packets' plays x =
    absurd (x.ends.0 x.room (moves-small head events event host (step_at step_of (slice_get old.clients host)) old.clients new.clients sent
    old.entries new.entries x.is x.acts))
acts-steps head events event host step_of (Ok made) Stepped.NoPacket old new told sent packets packets' plays x = absurd x.ends
acts-steps head events event host step_of (Ok made) (Stepped.SkewBroken b) old new told sent packets packets' plays x = absurd x.ends
acts-steps head events event host step_of (Ok made) (Stepped.Limit l) old new told sent packets packets' plays x = absurd x.ends
acts-steps head events event host step_of (Ok made) Stepped.Fault old new told sent packets packets' plays x = absurd x.ends
acts-steps head events event host step_of (Err fault.Spent) answer old new told sent packets packets' plays x =
    absurd (client-unspent head events old told plays host x.acts.2)
acts-steps head events event host step_of (Err fault.Keep) answer old new told sent packets packets' plays x = absurd x.acts
acts-steps head events event host step_of (Err fault.Link) answer old new told sent packets packets' plays x = absurd x.acts
acts-steps head events event host step_of (Err fault.NoAnswer) answer old new told sent packets packets' plays x = absurd x.acts
acts-steps head events event host step_of (Err fault.Memory) answer old new told sent packets packets' plays x =
    subst (λ a. Steps head events event a old new told told) (sym x.ends.0)
    (x.fit.passes, unmoved old new x.server x.acts.0 (x.after ∙ x.ends.1 ∙ x.before) x.acts.1 x.clocks x.ends.2 x.term, refl)
