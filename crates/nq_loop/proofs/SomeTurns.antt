-- The three turns of a loop of one host: each step of them is made.
use Rattle.std.proofs.Common.{◌≡◌, ◌≤◌, ◌<◌, ℕ, true, false, zero, suc, List, [], ◌∷◌, Option, Some, None, Ok, length, nat_le, refl, sym, subst, ap}
use Rattle.std.proofs.Common.{◌∙◌, arith, inl}
use Rattle.std.specs.Option.{unwrap_or}
use Rattle.std.specs.Prelude.{slice_get}
use Rattle.nq_base.specs.Block.{filled, zeros}
use Rattle.nq_base.specs.declared.Call.{Call}
use Rattle.nq_base.specs.declared.Event.{Event}
use Rattle.nq_base.specs.declared.Party.{Party}
use Rattle.nq_datagrams.specs.Messages.{bytes_of}
use Rattle.nq_io.specs.Faults.{count_up}
use Rattle.nq_loop.specs.Holding.{AreTaken}
use Rattle.nq_loop.specs.Looped.{between}
use Rattle.nq_loop.specs.Looping.{Moment, Gives, GivesDue, Makes, TakesTurn, call_due, datagrams_of, call, receive, rounds_due, sends_at, turn_steps}
use Rattle.nq_loop.specs.Matching.{CountsAs}
use Rattle.nq_loop.specs.Sending.{changed_at, place_of, sent_all, sent_one, with_sent}
use Rattle.nq_loop.specs.Steps.{MakesAll}
use Rattle.nq_loop.specs.Turning.{Goes, all_answered}
use Rattle.nq_model.specs.protocol.Stepped.{done, stepped}
use Rattle.nq_model.specs.protocol.World.{run}
use Rattle.nq_link.specs.Packets.{Datagram}
use Rattle.nq_clock.specs.Clocks.{ClockTold, ReadsOnce}
use Rattle.nq_link.specs.Links.{Letter, LinkTold, most_bytes}
use Rattle.nq_replay.specs.Delivering.{was_delivered}
use Rattle.nq_xdr.specs.Message.{auth, numbers, outcome, spelling}
use Rattle.nq_wire.specs.Parts.{head as who_bytes, tag_bytes, want_bytes, grant_bytes, base_bytes, optional}
use Rattle.nq_wire.specs.Reply.{ok, results}
use Rattle.nq_wire.specs.Request.{arguments}
use Rattle.nq_xdr.specs.Item.{word, hyper, boolean, padding, opaque}
use Rattle.walk_steps.proofs.GivenRuns.{given-run}
use Rattle.walk_steps.proofs.Tests.{is-at-most}
use Rattle.nq_loop.specs.Met.{one_head, two_turns, three_turns}
use Rattle.nq_loop.specs.PrintedMet.{slow_clock, asked}
use Rattle.nq_loop.proofs.SomeLoop.{loops-are-met}

-- ---- the events, one after another

abbrev pub write : Event
write = Event.Call 0 (Call.Write 1 0 (filled 100))

abbrev pub sync : Event
sync = Event.Call 0 (Call.Sync 1)

abbrev pub read : Event
read = Event.Call 0 (Call.Read 1 0)

abbrev pub wrote : List Event
wrote = write ∷ []

abbrev pub asks : List Event
asks = Event.Deliver 0 ∷ wrote

abbrev pub one_turn : List Event
one_turn = Event.Deliver 1 ∷ asks

abbrev pub host_ticked : List Event
host_ticked = Event.ClientTick 0 ∷ one_turn

abbrev pub all_ticked : List Event
all_ticked = Event.ServerTick ∷ host_ticked

abbrev pub syncs : List Event
syncs = sync ∷ all_ticked

abbrev pub pushes : List Event
pushes = Event.Deliver 2 ∷ syncs

-- ---- what the links do

-- links that do not tell what was sent over them
abbrev AreMute : List LinkTold → Type 0
AreMute [] = Unit {0}
AreMute (link ∷ links) = (link.sent ≡ None) × AreMute links

mute-one : (d : Datagram) (link : LinkTold) → link.sent ≡ None → with_sent d link ≡ link
mute-one d link mute = by link.sent link.waiting link.faults link.receives mute
  where
    by : (sent waiting : Option (List Letter)) (faults receives : ℕ) → sent ≡ None
        → with_sent d (record { sent = sent; waiting = waiting; faults = faults; receives = receives })
        ≡ record { sent = sent; waiting = waiting; faults = faults; receives = receives }
    by None waiting faults receives mute = refl
    by (Some told) waiting faults receives mute = absurd (cc)

mute-at : (d : Datagram) (place : ℕ) (links : List LinkTold) → AreMute links → changed_at place (with_sent d) links ≡ links
mute-at d place [] mute = refl
mute-at d zero (link ∷ links) mute = ap (λ l. l ∷ links) (mute-one d link mute.0)
mute-at d (suc place) (link ∷ links) mute = ap (λ ls. link ∷ ls) (mute-at d place links mute.1)

mute-all : (ds : List Datagram) (links : List LinkTold) → AreMute links → sent_all ds links ≡ links
mute-all [] links mute = refl
mute-all (d ∷ ds) links mute =
    let same : sent_one d links ≡ links = mute-at d (place_of d.sender) links mute in
    ap (sent_all ds) same ∙ mute-all ds links mute

-- ---- steps

abbrev at_moment : (events : List Event) (server host : ℕ) → Moment
at_moment events server host = record { events = events; links = asked server host }

gives : (event : Event) (earlier : List Event) (server host : ℕ) → stepped one_head earlier event ≡ done
    → Gives one_head event (Ok true) (at_moment earlier server host) (at_moment (event ∷ earlier) server host)
gives event earlier server host lawful =
    (refl, record { lawful = lawful; taken = refl; sends = sym (mute-all (sends_at one_head earlier event) (asked server host) (refl, (refl, tt))) })

calls : (event : Event) (earlier : List Event) (server host : ℕ) → call_due one_head 0 earlier ≡ Some event → stepped one_head earlier event ≡ done
    → Makes one_head (call 0) (Ok true) (at_moment earlier server host) (at_moment (event ∷ earlier) server host)
calls event earlier server host due lawful =
    subst (λ o. GivesDue one_head o (Ok true) (at_moment earlier server host) (at_moment (event ∷ earlier) server host)) (sym due)
    (gives event earlier server host lawful)

-- a datagram that stands for none
abbrev no_datagram : Datagram
no_datagram = record { sender = Party.Server; to = Party.Server; bytes = [] }

-- the datagram of a number
abbrev datagram_at : List Event → ℕ → Datagram
datagram_at events k = unwrap_or (slice_get (datagrams_of (run one_head events)) k) no_datagram

-- a datagram came, and it is the packet of this number, behind those that were delivered
record IsPacket (events : List Event) (party : Party) (k : ℕ) : Type 0 where
  pub is : slice_get (datagrams_of (run one_head events)) k
      ≡ Some (record { sender = (datagram_at events k).sender; to = party; bytes = (datagram_at events k).bytes })
  pub short : length (datagram_at events k).bytes ≤ most_bytes
  pub fresh : was_delivered k events ≡ false
  pub before : (lower : ℕ) → lower < k → was_delivered lower events ≡ true
  pub lawful : stepped one_head events (Event.Deliver k) ≡ done

counts-as : (events : List Event) (party : Party) (k : ℕ) → IsPacket events party k → CountsAs (datagrams_of (run one_head events)) events
    (record { sender = (datagram_at events k).sender; to = party; bytes = (datagram_at events k).bytes }) (Some k)
counts-as events party k p = inl (record {
  is = (p.is, p.fresh);
  least = λ lower low equals. let yes = p.before lower low in let no = equals.1 in absurd (cc);
})

server-hears : (events : List Event) (k server host : ℕ) → IsPacket events Party.Server k
    → Makes one_head (receive Party.Server) (Ok true) (at_moment events server host) (at_moment (Event.Deliver k ∷ events) (count_up server) host)
server-hears events k server host p = inl (record {
  came = Some ((datagram_at events k).sender, (datagram_at events k).bytes);
  links = asked (count_up server) host;
  hears = record {
    link = record { sent = None; waiting = None; faults = 0; receives = server };
    there = refl;
    waiting = None;
    hears = (p.short, λ waiting told. absurd (cc));
    heard = refl;
  };
  takes = inl (record {
    number = Some k;
    counts = counts-as events Party.Server k p;
    delivers = gives (Event.Deliver k) events (count_up server) host p.lawful;
  });
})

host-hears : (events : List Event) (k server host : ℕ) → IsPacket events (Party.Client 0) k
    → Makes one_head (receive (Party.Client 0)) (Ok true) (at_moment events server host) (at_moment (Event.Deliver k ∷ events) server (count_up host))
host-hears events k server host p = inl (record {
  came = Some ((datagram_at events k).sender, (datagram_at events k).bytes);
  links = asked server (count_up host);
  hears = record {
    link = record { sent = None; waiting = None; faults = 0; receives = host };
    there = refl;
    waiting = None;
    hears = (p.short, λ waiting told. absurd (cc));
    heard = refl;
  };
  takes = inl (record {
    number = Some k;
    counts = counts-as events (Party.Client 0) k p;
    delivers = gives (Event.Deliver k) events server (count_up host) p.lawful;
  });
})

server-waits : (events : List Event) (server host : ℕ)
    → Makes one_head (receive Party.Server) (Ok false) (at_moment events server host) (at_moment events (count_up server) host)
server-waits events server host = inl (record {
  came = None;
  links = asked (count_up server) host;
  hears = record {
    link = record { sent = None; waiting = None; faults = 0; receives = server };
    there = refl;
    waiting = None;
    hears = (λ waiting told. absurd (cc), refl);
    heard = refl;
  };
  takes = (refl, refl);
})

host-waits : (events : List Event) (server host : ℕ)
    → Makes one_head (receive (Party.Client 0)) (Ok false) (at_moment events server host) (at_moment events server (count_up host))
host-waits events server host = inl (record {
  came = None;
  links = asked server (count_up host);
  hears = record {
    link = record { sent = None; waiting = None; faults = 0; receives = host };
    there = refl;
    waiting = None;
    hears = (λ waiting told. absurd (cc), refl);
    heard = refl;
  };
  takes = (refl, refl);
})

-- ---- the packets

-- what is computed of a packet makes it one
packet : (events : List Event) (party : Party) (k : ℕ)
    → slice_get (datagrams_of (run one_head events)) k
    ≡ Some (record { sender = (datagram_at events k).sender; to = party; bytes = (datagram_at events k).bytes })
    → nat_le (length (datagram_at events k).bytes) most_bytes ≡ true → was_delivered k events ≡ false
    → ((lower : ℕ) → lower < k → was_delivered lower events ≡ true) → stepped one_head events (Event.Deliver k) ≡ done → IsPacket events party k
packet events party k is short fresh before lawful = record {
  is = is;
  short = is-at-most (length (datagram_at events k).bytes) most_bytes short;
  fresh = fresh;
  before = before;
  lawful = lawful;
}

before-0 : (lower : ℕ) → lower < 0 → was_delivered lower wrote ≡ true
before-0 lower low = absurd (omega arith)

packet-0 : IsPacket wrote Party.Server 0
unfolding filled zeros given-run bytes_of spelling auth numbers outcome arguments results ok who_bytes tag_bytes want_bytes grant_bytes base_bytes
    optional word hyper boolean padding opaque most_bytes
packet-0 = packet wrote Party.Server 0 refl refl refl before-0 refl

before-1 : (lower : ℕ) → lower < 1 → was_delivered lower asks ≡ true
before-1 zero low = refl
before-1 (suc lower) low = absurd (omega arith)

packet-1 : IsPacket asks (Party.Client 0) 1
unfolding filled zeros given-run bytes_of spelling auth numbers outcome arguments results ok who_bytes tag_bytes want_bytes grant_bytes base_bytes
    optional word hyper boolean padding opaque most_bytes
packet-1 = packet asks (Party.Client 0) 1 refl refl refl before-1 refl

before-2 : (lower : ℕ) → lower < 2 → was_delivered lower syncs ≡ true
before-2 zero low = refl
before-2 (suc zero) low = refl
before-2 (suc (suc lower)) low = absurd (omega arith)

packet-2 : IsPacket syncs Party.Server 2
unfolding filled zeros given-run bytes_of spelling auth numbers outcome arguments results ok who_bytes tag_bytes want_bytes grant_bytes base_bytes
    optional word hyper boolean padding opaque most_bytes
packet-2 = packet syncs Party.Server 2 refl refl refl before-2 refl

before-3 : (lower : ℕ) → lower < 3 → was_delivered lower pushes ≡ true
before-3 zero low = refl
before-3 (suc zero) low = refl
before-3 (suc (suc zero)) low = refl
before-3 (suc (suc (suc lower))) low = absurd (omega arith)

packet-3 : IsPacket pushes (Party.Client 0) 3
unfolding filled zeros given-run bytes_of spelling auth numbers outcome arguments results ok who_bytes tag_bytes want_bytes grant_bytes base_bytes
    optional word hyper boolean padding opaque most_bytes
packet-3 = packet pushes (Party.Client 0) 3 refl refl refl before-3 refl

-- ---- the calls and the ticks

-- what is computed of them, and of the turns
record Computed : Type 0 where
  pub write_due : call_due one_head 0 [] ≡ Some write
  pub write_lawful : stepped one_head [] write ≡ done
  pub sync_due : call_due one_head 0 all_ticked ≡ Some sync
  pub sync_lawful : stepped one_head all_ticked sync ≡ done
  pub read_due : call_due one_head 0 two_turns ≡ Some read
  pub read_lawful : stepped one_head two_turns read ≡ done
  pub host_lawful : stepped one_head one_turn (Event.ClientTick 0) ≡ done
  pub server_lawful : stepped one_head host_ticked Event.ServerTick ≡ done
  pub now_0 : (run one_head []).server.now ≡ 0
  pub now_1 : (run one_head one_turn).server.now ≡ 0
  pub now_2 : (run one_head two_turns).server.now ≡ 1
  pub left_0 : all_answered one_head [] ≡ false
  pub left_1 : all_answered one_head one_turn ≡ false

computed : Computed
unfolding filled zeros given-run
computed = record {
  write_due = refl;
  write_lawful = refl;
  sync_due = refl;
  sync_lawful = refl;
  read_due = refl;
  read_lawful = refl;
  host_lawful = refl;
  server_lawful = refl;
  now_0 = refl;
  now_1 = refl;
  now_2 = refl;
  left_0 = refl;
  left_1 = refl;
}

one-taken : AreTaken one_head one_turn
one-taken = (packet-1.lawful, (packet-0.lawful, (computed.write_lawful, tt)))

-- each event was taken in
pub are-taken : AreTaken one_head three_turns
are-taken =
    let ticked : AreTaken one_head all_ticked = (computed.server_lawful, (computed.host_lawful, one-taken)) in
    (computed.read_lawful, (packet-3.lawful, (packet-2.lawful, (computed.sync_lawful, ticked))))

-- ---- the turns

-- the clock behind each turn
abbrev one_read : ClockTold
one_read = record { floor = 0; readings = Some (1 ∷ 1 ∷ []); reads = 1 }

abbrev two_read : ClockTold
two_read = record { floor = 1; readings = Some (1 ∷ []); reads = 2 }

abbrev pub three_read : ClockTold
three_read = record { floor = 1; readings = Some (1 ∷ []); reads = 3 }

first-made : MakesAll (Makes one_head) (turn_steps 1 0) true (at_moment [] 0 0) (at_moment one_turn 1 1)
first-made = (
  true,
  true,
  at_moment wrote 0 0,
  calls write [] 0 0 computed.write_due computed.write_lawful,
  (
    true,
    true,
    at_moment asks 1 0,
    server-hears wrote 0 0 0 packet-0,
    (true, false, at_moment one_turn 1 1, host-hears asks 1 1 0 packet-1, (refl, refl), refl),
    refl,
  ),
  refl,
)

second-made : MakesAll (Makes one_head) (turn_steps 1 1) true (at_moment one_turn 1 1) (at_moment two_turns 2 2)
second-made = (
  true,
  true,
  at_moment host_ticked 1 1,
  gives (Event.ClientTick 0) one_turn 1 1 computed.host_lawful,
  (
    true,
    true,
    at_moment all_ticked 1 1,
    gives Event.ServerTick host_ticked 1 1 computed.server_lawful,
    (
      true,
      true,
      at_moment syncs 1 1,
      calls sync all_ticked 1 1 computed.sync_due computed.sync_lawful,
      (
        true,
        true,
        at_moment pushes 2 1,
        server-hears syncs 2 1 1 packet-2,
        (true, false, at_moment two_turns 2 2, host-hears pushes 3 2 1 packet-3, (refl, refl), refl),
        refl,
      ),
      refl,
    ),
    refl,
  ),
  refl,
)

third-made : MakesAll (Makes one_head) (turn_steps 1 0) true (at_moment two_turns 2 2) (at_moment three_turns 3 3)
third-made = (
  true,
  false,
  at_moment three_turns 2 2,
  calls read two_turns 2 2 computed.read_due computed.read_lawful,
  (
    false,
    false,
    at_moment three_turns 3 2,
    server-waits three_turns 2 2,
    (false, false, at_moment three_turns 3 3, host-waits three_turns 3 2, (refl, refl), refl),
    refl,
  ),
  refl,
)

-- a turn of these steps, which read the clock
takes : (reading now due : ℕ) (clock clock' : ClockTold) (at after : Moment) → (run one_head at.events).server.now ≡ now → rounds_due now reading ≡ due
    → ReadsOnce reading clock clock' → MakesAll (Makes one_head) (turn_steps 1 due) true at after → TakesTurn one_head (Ok true) clock clock' at after
takes reading now due clock clock' at after shows is reads made = record {
  reading = reading;
  read = reads;
  made = subst (λ n. MakesAll (Makes one_head) (turn_steps 1 n) true at after) (sym is ∙ ap (λ n. rounds_due n reading) (sym shows)) made;
}

pub goes : Goes one_head 3 (between [] (asked 0 0) slow_clock) (between three_turns (asked 3 3) three_read)
goes = (
  between two_turns (asked 2 2) two_read,
  (
    between one_turn (asked 1 1) one_read,
    (between [] (asked 0 0) slow_clock, refl, (computed.left_0, true, first)),
    (computed.left_1, true, second),
  ),
  (loops-are-met.left, true, third),
)
  where
    first : TakesTurn one_head (Ok true) slow_clock one_read (at_moment [] 0 0) (at_moment one_turn 1 1)
    first = takes 0 0 0 slow_clock one_read (at_moment [] 0 0) (at_moment one_turn 1 1) computed.now_0 refl
        (record { rises = omega arith; floor = omega arith; below = omega arith; told = (refl, refl); once = refl }) first-made

    second : TakesTurn one_head (Ok true) one_read two_read (at_moment one_turn 1 1) (at_moment two_turns 2 2)
    second = takes 1 0 1 one_read two_read (at_moment one_turn 1 1) (at_moment two_turns 2 2) computed.now_1 refl
        (record { rises = omega arith; floor = omega arith; below = omega arith; told = (refl, refl); once = refl }) second-made

    third : TakesTurn one_head (Ok true) two_read three_read (at_moment two_turns 2 2) (at_moment three_turns 3 3)
    third = takes 1 1 0 two_read three_read (at_moment two_turns 2 2) (at_moment three_turns 3 3) computed.now_2 refl
        (record { rises = omega arith; floor = omega arith; below = omega arith; told = (refl, refl); once = refl }) third-made
