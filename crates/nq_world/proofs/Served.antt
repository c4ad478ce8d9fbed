-- An event at the server.
use Rattle.std.proofs.Common.{◌≡◌, ◌<◌, ℕ, suc, ◌+◌, List, [], ◌∷◌, ◌++◌, Option, Some, length, map, get_or, refl, sym, subst, ap, ◌∙◌, arith, inl, inr}
use Rattle.std.proofs.lemmas.List.Elements.{All-nil, All-cons}
use Rattle.std.specs.List.{All}
use Rattle.std.specs.Prelude.{Result, Ok, Err, slice_get}
use Rattle.nq_base.specs.Plain.{plain}
use Rattle.nq_base.specs.declared.Event.{Event}
use Rattle.nq_base.specs.declared.Party.{Party}
use Rattle.nq_base.specs.declared.SkewBroken.{SkewBroken}
use Rattle.nq_datagrams.specs.Incoming.{datagram_in}
use Rattle.nq_datagrams.specs.Messages.{bytes_of}
use Rattle.nq_base.specs.Entries.{EntryList}
use Rattle.nq_model.specs.protocol.Kept.{Kept}
use Rattle.nq_model.specs.protocol.Message.{Packet}
use Rattle.nq_model.specs.protocol.Profile.{most_taken_by_server}
use Rattle.nq_model.specs.protocol.Server.{Server, ServerStep}
use Rattle.nq_model.specs.protocol.ServerStep.{at_time, crash, receive}
use Rattle.nq_model.specs.protocol.World.{Head, World, after_server, run, sending_host, step}
use Rattle.nq_link.specs.Packets.{Datagram, PacketList}
use Rattle.nq_server.specs.Holding.{Holding, IsTaken, Reboots, TakesIn}
use Rattle.nq_server.specs.State.{Beside, beside, server_of}
use Rattle.nq_server.specs.declared.received.Received.{Received}
use Rattle.nq_wire.specs.Outbox.{Datagrams}
use Rattle.walk_steps.specs.Says.{SaysPlainly}
use Rattle.walk_steps.specs.Within.{IsGiven}
use Rattle.nq_world.proofs.Counting.{took-more}
use Rattle.nq_world.proofs.Little.{server-sends-little}
use Rattle.nq_world.proofs.Played.{IsFit, plays-on}
use Rattle.nq_world.proofs.Showing.{server-shown, deliveries-to-the-server, found-packet, packet-fits}
use Rattle.nq_world.proofs.Texts.{bytes-carry-text}
use Rattle.nq_world.proofs.Unspent.{server-unspent}
use Rattle.nq_world.specs.Counting.{TookIn}
use Rattle.nq_world.specs.Moving.{Clocks, Ends, HasRoom, MovesServer, Serves, clients_in, received}
use Rattle.nq_world.specs.Playing.{WorldOver, Plays, Steps, seen_of}
use Rattle.nq_world.specs.Shown.{FitsPacket, Seen, Shows, sent_from}
use Rattle.nq_base.specs.declared.ending.fault.Fault.{Fault}
use Rattle.nq_base.specs.declared.ending.fault.Fault.TheVariants as fault
use Rattle.nq_world.specs.declared.stepped.Stepped.{Stepped}

-- ---- what the calls of a server do

moved : {K : Type 0} (t : ServerStep) (how : _) (tells : Option Kept) (old new : Holding K) (out out' : Datagrams) (log log' : EntryList)
    → out.datagrams ≡ [] → TakesIn t how tells new out out' log log' → new.taken ≡ old.taken + 1 → MovesServer t old new tells out'.datagrams
    log.entries log'.entries
moved t how tells old new out out' log log' empty x one = record {
  keeps = x.makes.keeps;
  holds = x.makes.holds;
  sends = x.makes.sends.added ∙ ap (λ ds. ds ++ map (λ (p : Packet). (p.to, bytes_of p.message)) t.sends) empty;
  fit = x.makes.sends.fit;
  enters = x.makes.enters;
  counts = omega arith;
}

pub taken-serves : {K : Type 0} (step_of : Kept → ServerStep) (r : Received) (kept : Kept) (told tells : Option Kept) (before count : ℕ)
    (old new : Holding K) (out out' : Datagrams) (log log' : EntryList)
    → told ≡ Some kept → out.datagrams ≡ [] → (r ≡ Received.Spent → old.taken ≡ most_taken_by_server) → IsTaken step_of r told tells before count old
    new out out' log log'
    → Serves (step_of kept) (received r) old new told tells out'.datagrams log.entries log'.entries
taken-serves step_of Received.Done kept told tells before count old new out out' log log' is empty all x = moved (step_of kept) _ tells old new out
    out' log log' empty (x.0 kept is) x.2
taken-serves step_of (Received.Dropped reason) kept told tells before count old new out out' log log' is empty all x = moved (step_of kept) _ tells
    old new out out' log log' empty (x.0 kept is) x.2
taken-serves step_of Received.Fault kept told tells before count old new out out' log log' is empty all x = (x.2.untouched, x.0, x.2.silent.entries)
taken-serves step_of Received.Memory kept told tells before count old new out out' log log' is empty all x = (x.2.untouched, x.0, x.2.silent.entries)
taken-serves step_of Received.Spent kept told tells before count old new out out' log log' is empty all x =
    let many = all refl in
    (x.2.untouched, x.0, x.2.silent.entries, inl (omega arith))

pub reboot-serves : {K : Type 0} (longest time : ℕ) (r : Received) (kept : Kept) (told tells : Option Kept) (before count : ℕ) (old new : Holding K)
    (out : Datagrams) (log log' : EntryList)
    → told ≡ Some kept → out.datagrams ≡ [] → Reboots longest time r told tells before count old new log log'
    → Serves (crash (at_time (server_of old.beside kept) time) longest) (received r) old new told tells out.datagrams log.entries log'.entries
unfolding crash
reboot-serves longest time Received.Done kept told tells before count old new out log log' is empty x =
    let crashed = (x.0 kept is).1 in
    let none = x.2 in
    record { keeps = crashed.keeps; holds = crashed.holds; sends = empty; fit = All-nil FitsPacket; enters = crashed.enters; counts = omega arith }
reboot-serves longest time (Received.Dropped reason) kept told tells before count old new out log log' is empty x = absurd x
reboot-serves longest time Received.Fault kept told tells before count old new out log log' is empty x = (x.2.untouched, x.0, x.2.entries)
reboot-serves longest time Received.Memory kept told tells before count old new out log log' is empty x = (x.2.untouched, x.0, x.2.entries)
reboot-serves longest time Received.Spent kept told tells before count old new out log log' is empty x = (x.3.untouched, x.1, x.3.entries, inr x.0)

-- ---- the server of a run

-- what is held beside what the keeper tells is the server of the run
pub same-server : (s : Server) (held : Beside) → held ≡ beside s → server_of held s.kept ≡ s
same-server s held is = ap (λ (h : Beside). server_of h s.kept) is

-- ---- a packet that is delivered carries names and bodies

each-below : (xs : List ℕ) → ((i : ℕ) → get_or xs i 0 < 256) → All (λ b. b < 256) xs
each-below [] below = All-nil (λ b. b < 256)
each-below (x ∷ xs) below = All-cons (λ b. b < 256) x xs (below 0) (each-below xs (λ i. below (suc i)))

pub given-delivery : (w : World) (seen : Seen) (k : ℕ) (d : Datagram) → Shows w seen → slice_get seen.datagrams k ≡ Some d
    → ((i : ℕ) → get_or d.bytes i 0 < 256) → IsGiven w (Event.Deliver k)
given-delivery w seen k d shows e below = λ p there.
    let found = found-packet w seen k d shows e in
    let same : found.packet ≡ p = cc (found.there, there) in
    let bytes : d.bytes ≡ bytes_of p.message = ap (λ x. x.bytes) found.is ∙ ap (λ (q : Packet). bytes_of q.message) same in
    bytes-carry-text p.message (packet-fits w seen k p shows there) (subst (All (λ b. b < 256)) bytes (each-below d.bytes below))

-- ---- the whole event

-- what an event at the server did to a world
pub record ServesIn {K : Type 0} (head : Head) (events : List Event) (event : Event) (t : ServerStep) (made : Result Unit Fault) (answer : Stepped)
    (old new : WorldOver K) (told tells : Option Kept) (sent : List (Party × List ℕ)) (packets packets' : PacketList) : Type 0 where
  pub fit : IsFit head events event
  pub is : step (run head events) event ≡ after_server (run head events) t
  pub says : SaysPlainly t
  pub serves : Serves t made old.server new.server told tells sent old.entries new.entries
  pub room : HasRoom packets
  pub before : packets.datagrams ≡ old.datagrams
  pub after : new.datagrams ≡ packets'.datagrams
  pub ends : Ends made answer Party.Server sent packets packets' old.events new.events
  pub clocks : Clocks made event old.skew new.skew
  pub clients : new.clients ≡ old.clients
  pub term : new.term ≡ old.term

server-after : (w : World) (t : ServerStep) → (after_server w t).server ≡ t.server
unfolding after_server
server-after w t = refl

serves-played : {K : Type 0} (head : Head) (events : List Event) (event : Event) (t : ServerStep) (made : Unit) (old new : WorldOver K)
    (told tells : Option Kept) (sent : List (Party × List ℕ)) (packets packets' : PacketList)
    → Plays head events old told → ServesIn head events event t (Ok made) Stepped.Done old new told tells sent packets packets'
    → Plays head (event ∷ events) new tells
serves-played head events event t made old new told tells sent packets packets' plays x =
    let w : World = run head events in
    let s = server-shown w t (seen_of old) sent plays.shown.shows x.says x.serves.fit x.serves.sends in
    let same : new.datagrams ≡ old.datagrams ++ map (sent_from Party.Server) sent = x.after ∙ x.ends.0 ∙ ap (λ ds. ds ++ map (sent_from Party.Server)
    sent) x.before in
    let shows : Shows (after_server w t) (seen_of new) = record {
      clients = ap clients_in x.clients ∙ s.clients;
      datagrams = same ∙ s.datagrams;
      fit = s.fit;
      entries = ap (map plain) x.serves.enters ∙ s.entries;
    } in
    let left : t.server ≡ (step w event).server = sym (ap (λ v. v.server) x.is ∙ server-after w t) in
    plays-on head events event old new told tells plays x.fit
    (subst (λ v. Shows v (seen_of new)) (sym x.is) shows)
    x.clocks
    (x.serves.keeps ∙ ap (λ v. Some v.kept) left)
    (x.serves.holds ∙ ap beside left)
    x.ends.1
    x.term
    (let one = x.serves.counts in let few = plays.served in omega arith)
    (subst (TookIn (length events + 1)) (sym x.clients) (took-more (length events) (length events + 1) old.clients (omega arith) plays.heard))

pub serves-steps : {K : Type 0} (head : Head) (events : List Event) (event : Event) (t : ServerStep) (made : Result Unit Fault) (answer : Stepped)
    (old new : WorldOver K) (told tells : Option Kept) (sent : List (Party × List ℕ)) (packets packets' : PacketList)
    → Plays head events old told → ServesIn head events event t made answer old new told tells sent packets packets' → Steps head events event answer
    old new told tells
serves-steps head events event t (Ok made) Stepped.Done old new told tells sent packets packets' plays x =
    (x.fit.passes, serves-played head events event t made old new told tells sent packets packets' plays x)
serves-steps head events event t (Ok made) Stepped.Memory old new told tells sent packets packets' plays x =
    absurd (x.ends.0 x.room (server-sends-little head events event t sent x.is x.serves.fit x.serves.sends))
serves-steps head events event t (Ok made) Stepped.NoPacket old new told tells sent packets packets' plays x = absurd x.ends
serves-steps head events event t (Ok made) (Stepped.SkewBroken b) old new told tells sent packets packets' plays x = absurd x.ends
serves-steps head events event t (Ok made) (Stepped.Limit l) old new told tells sent packets packets' plays x = absurd x.ends
serves-steps head events event t (Ok made) Stepped.Fault old new told tells sent packets packets' plays x = absurd x.ends
serves-steps head events event t (Err fault.Spent) answer old new told tells sent packets packets' plays x =
    absurd (server-unspent head events old told plays x.serves.3)
serves-steps head events event t (Err fault.Keep) answer old new told tells sent packets packets' plays x =
    subst (λ a. Steps head events event a old new told tells) (sym x.ends.0) (
      x.fit.passes,
      record {
        server = x.serves.0;
        clients = x.clients;
        datagrams = x.after ∙ x.ends.1 ∙ x.before;
        entries = x.serves.2;
        skew = x.clocks;
        events = x.ends.2;
        term = x.term;
      },
      x.serves.1,
    )
serves-steps head events event t (Err fault.Link) answer old new told tells sent packets packets' plays x = absurd x.serves
serves-steps head events event t (Err fault.NoAnswer) answer old new told tells sent packets packets' plays x = absurd x.serves
serves-steps head events event t (Err fault.Memory) answer old new told tells sent packets packets' plays x =
    subst (λ a. Steps head events event a old new told tells) (sym x.ends.0) (
      x.fit.passes,
      record {
        server = x.serves.0;
        clients = x.clients;
        datagrams = x.after ∙ x.ends.1 ∙ x.before;
        entries = x.serves.2;
        skew = x.clocks;
        events = x.ends.2;
        term = x.term;
      },
      x.serves.1,
    )

-- ---- which step an event at the server is

pub delivery-steps : {K : Type 0} (head : Head) (events : List Event) (w : WorldOver K) (told : Option Kept) (k : ℕ) (d : Datagram)
    → Plays head events w told → slice_get w.datagrams k ≡ Some d → d.to ≡ Party.Server
    → step (run head events) (Event.Deliver k) ≡ after_server (run head events) (receive (run head events).server (sending_host d.sender)
    (length w.datagrams) (datagram_in d.bytes))
delivery-steps head events w told k d plays e to = deliveries-to-the-server head events (seen_of w) k d plays.shown.shows e to
