-- What a turn adds to a run: events, each where there was room for it, and so many ticks of the server's clock at the most.
use Rattle.std.proofs.Common.{◌≡◌, ◌≤◌, ◌<◌, ◌⊎◌, ℕ, ◌+◌, nat_lt, Bool, true, false, zero, suc, List, [], ◌∷◌, ◌++◌, Option, Some, None, Ok, length}
use Rattle.std.proofs.Common.{refl, sym, subst, ap, ◌∙◌, arith, inl, inr, if◌then◌else◌}
use Rattle.std.proofs.lemmas.Bool.{and_parts}
use Rattle.nq_base.specs.declared.Event.{Event}
use Rattle.nq_base.specs.declared.Party.{Party}
use Rattle.nq_base.specs.declared.SkewBroken.{SkewBroken}
use Rattle.nq_loop.specs.Looping.{Moment, Gives, GivesDue, Delivers, Takes, TakesIn, came_to, given, call, receive, Makes, Step, call_due}
use Rattle.nq_loop.specs.Looping.{round_steps, rounds_steps, rounds_due, call_steps, receive_steps}
use Rattle.nq_loop.specs.Steps.{MakesAll, each_below}
use Rattle.nq_model.specs.protocol.Client.{Client, ClientStep}
use Rattle.nq_model.specs.protocol.Server.{Server, ServerStep, quiet, keeping_with, with_table}
use Rattle.nq_model.specs.protocol.ServerStep.{tick, at_time, opens, ends_writing}
use Rattle.nq_model.specs.protocol.SkewBroken.{skew_broken}
use Rattle.nq_model.specs.protocol.Stepped.{done, no_packet, too_many_events, too_many_packets, most_events, most_sent, tested, tested_room, tested_skew}
use Rattle.nq_model.specs.protocol.Stepped.{stepped}
use Rattle.nq_model.specs.protocol.World.{Head, World, after_client, after_server, at_client, run, step}
use Rattle.nq_link.specs.Packets.{Datagram}
use Rattle.nq_link.specs.Links.{Letter}
use Rattle.law_rounds.specs.DeliveryEnds.{calmed}
use Rattle.law_rounds.specs.RoundsEndQuiet.{IsSmall}
use Rattle.law_rounds.proofs.RecoveryRounds.{delivered-now}
use Rattle.walk_steps.proofs.ServerCases.{server-ticks}
use Rattle.walk_steps.proofs.Tests.{is-below, is-not-below}
use Rattle.nq_loop.specs.InTime.{played, comes_in_time, all_in_time}
use Rattle.nq_loop.specs.LoopsAreAnswered.{most_due}
use Rattle.nq_loop.specs.LoopTurns.{MakesTurn}
use Rattle.nq_loop.proofs.HostsCounts.{due-some}
use Rattle.nq_loop.proofs.Steps.{in-parts, below-keeps}

-- ---- room

room-left : (packets : ℕ) → tested_room packets ≡ done → packets ≤ most_sent
room-left packets e = by (nat_lt most_sent packets) refl e
  where
    by : (b : Bool) → nat_lt most_sent packets ≡ b → (if b then too_many_packets else done) ≡ done → packets ≤ most_sent
    by true is e = absurd (cc)
    by false is e = is-not-below most_sent packets is

skew-left : (packets : ℕ) (broken : Option SkewBroken) → tested_skew packets broken ≡ done → packets ≤ most_sent
skew-left packets None e = room-left packets e
skew-left packets (Some broken) e = absurd (cc)

sent-left : (b : Bool) (packets : ℕ) → (if b then tested_room packets else no_packet) ≡ done → packets ≤ most_sent
sent-left true packets e = room-left packets e
sent-left false packets e = absurd (cc)

tested-left : (head : Head) (earlier : List Event) (packets : ℕ) (event : Event) → tested head earlier packets event ≡ done → packets ≤ most_sent
tested-left head earlier packets (Event.Deliver k) e = sent-left (nat_lt k packets) packets e
tested-left head earlier packets Event.ServerTick e = skew-left packets (skew_broken head.hosts head.longest earlier) e
tested-left head earlier packets (Event.Call host op) e = room-left packets e
tested-left head earlier packets (Event.ClientTick host) e = room-left packets e
tested-left head earlier packets (Event.Restart host) e = room-left packets e
tested-left head earlier packets (Event.Crash longest) e = room-left packets e

-- there are fewer events than a schedule may have, and no more packets than may be sent before an event
record HasRoom (head : Head) (events : List Event) : Type 0 where
  pub few : length events < most_events
  pub room : length (run head events).packets ≤ most_sent

taken-room : (head : Head) (earlier : List Event) (event : Event) → stepped head earlier event ≡ done → HasRoom head earlier
taken-room head earlier event e = by (nat_lt (length earlier) most_events) refl e
  where
    by : (b : Bool) → nat_lt (length earlier) most_events ≡ b
        → (if b then tested head earlier (length (run head earlier).packets) event else too_many_events) ≡ done → HasRoom head earlier
    by true is e = record {
      few = is-below (length earlier) most_events is;
      room = tested-left head earlier (length (run head earlier).packets) event e;
    }
    by false is e = absurd (cc)

played-world : (head : Head) (events : List Event) → (played head events).world ≡ run head events
unfolding calmed
played-world head [] = refl
played-world head (event ∷ events) = ap (λ (w : World). step w event) (played-world head events)

played-events : (head : Head) (events : List Event) → (played head events).events ≡ events
unfolding calmed
played-events head [] = refl
played-events head (event ∷ events) = ap (λ es. event ∷ es) (played-events head events)

pub few-small : (head : Head) (events : List Event) → length events ≤ most_events → length (run head events).packets ≤ most_sent
    → IsSmall (played head events)
few-small head events few room = record {
  events = subst (λ es. length es ≤ most_events) (sym (played-events head events)) few;
  packets = subst (λ (w : World). length w.packets ≤ most_sent) (sym (played-world head events)) room;
}

-- ---- time

at-client-server : (w : World) (host : ℕ) (f : Client → ClientStep) (o : Option Client) → (at_client w host f o).server ≡ w.server
unfolding after_client
at-client-server w host f None = refl
at-client-server w host f (Some c) = refl

tick-now : (s : Server) (now : ℕ) → (tick s now).server.now ≡ now
unfolding quiet at_time opens ends_writing keeping_with with_table
tick-now s now = server-ticks s now (λ (t : ServerStep). t.server.now ≡ now) (record {
  waits = λ until heard last p goes. refl;
  opening = λ until heard last p over. refl;
  ends_reading = λ p none. refl;
  ending_writing = λ row p due. refl;
})

-- an event of a client, or a delivery
abbrev NoTick : Event → Type 0
NoTick Event.ServerTick = ⊥
NoTick (Event.Crash longest) = ⊥
NoTick other = Unit {0}

same-now : (w : World) (event : Event) → NoTick event → (step w event).server.now ≡ w.server.now
same-now w (Event.Call host op) none = ap (λ (s : Server). s.now) (at-client-server w host _ _)
same-now w (Event.Deliver k) none = delivered-now w k
same-now w Event.ServerTick none = absurd none
same-now w (Event.ClientTick host) none = ap (λ (s : Server). s.now) (at-client-server w host _ _)
same-now w (Event.Restart host) none = ap (λ (s : Server). s.now) (at-client-server w host _ _)
same-now w (Event.Crash longest) none = absurd none

one-later : (w : World) → (step w Event.ServerTick).server.now ≡ w.server.now + 1
unfolding after_server
one-later w = tick-now w.server (w.server.now + 1)

-- ---- what steps add

module _ (head : Head) where
  pub record Adds (ticks : ℕ) (at after : Moment) : Type 0 where
    -- what came in time before came in time
    pub in_time : all_in_time head after.events ≡ true → all_in_time head at.events ≡ true
    -- nothing was added, or there was room
    pub room : (after.events ≡ at.events) ⊎ IsSmall (played head at.events)
    -- there are no more events than a schedule may have
    pub few : length at.events ≤ most_events → length after.events ≤ most_events
    pub time : (run head after.events).server.now ≤ (run head at.events).server.now + ticks

  none-added : (ticks : ℕ) (at after : Moment) → after.events ≡ at.events → Adds ticks at after
  none-added ticks at after same = record {
    in_time = λ all. subst (λ es. all_in_time head es ≡ true) same all;
    room = inl same;
    few = λ low. subst (λ es. length es ≤ most_events) (sym same) low;
    time = let e : (run head after.events).server.now ≡ (run head at.events).server.now = ap (λ es. (run head es).server.now) same in omega arith;
  }

  one-added : (ticks : ℕ) (event : Event) (at after : Moment) → after.events ≡ event ∷ at.events → stepped head at.events event ≡ done
      → (step (run head at.events) event).server.now ≤ (run head at.events).server.now + ticks → Adds ticks at after
  one-added ticks event at after is lawful later =
      let has = taken-room head at.events event lawful in
      record {
        in_time = λ all. (and_parts (comes_in_time (played head at.events) event) (all_in_time head at.events)
            (subst (λ es. all_in_time head es ≡ true) is all)).1;
        room = inr (few-small head at.events (let few = has.few in omega arith) has.room);
        few = λ low. subst (λ es. length es ≤ most_events) (sym is) (let few = has.few in omega arith);
        time = subst (λ es. (run head es).server.now ≤ (run head at.events).server.now + ticks) (sym is) later;
      }

  both-add : (first second : ℕ) (at between after : Moment) → Adds first at between → Adds second between after → Adds (first + second) at after
  both-add first second at between after a b = record {
    in_time = λ all. a.in_time (b.in_time all);
    room = by a.room;
    few = λ low. b.few (a.few low);
    time = let one = a.time in let two = b.time in omega arith;
  }
    where
      behind : between.events ≡ at.events → (after.events ≡ between.events) ⊎ IsSmall (played head between.events)
          → (after.events ≡ at.events) ⊎ IsSmall (played head at.events)
      behind same (inl none) = inl (none ∙ same)
      behind same (inr small) = inr (subst (λ es. IsSmall (played head es)) same small)

      by : (between.events ≡ at.events) ⊎ IsSmall (played head at.events) → (after.events ≡ at.events) ⊎ IsSmall (played head at.events)
      by (inl same) = behind same b.room
      by (inr small) = inr small

  given-adds : (event : Event) (moved : Bool) (at after : Moment) → NoTick event → Gives head event (Ok moved) at after → Adds 0 at after
  given-adds event moved at after none gives = one-added 0 event at after gives.1.taken gives.1.lawful
      (let same = same-now (run head at.events) event none in omega arith)

  tick-adds : (moved : Bool) (at after : Moment) → Gives head Event.ServerTick (Ok moved) at after → Adds 1 at after
  tick-adds moved at after gives = one-added 1 Event.ServerTick at after gives.1.taken gives.1.lawful
      (let later = one-later (run head at.events) in omega arith)

  -- ---- the steps of a turn

  call-adds : (host : ℕ) (moved : Bool) (at after : Moment) → Makes head (call host) (Ok moved) at after → Adds 0 at after
  call-adds host moved at after makes = by (call_due head host at.events) refl makes
    where
      by : (o : Option Event) → call_due head host at.events ≡ o → GivesDue head o (Ok moved) at after → Adds 0 at after
      by None none g = none-added 0 at after (ap (λ (m : Moment). m.events) g.1)
      by (Some event) due g =
          let d = due-some head host at.events event due in
          given-adds event moved at after (subst (λ e. NoTick e) (sym d.1) tt) g

  receive-adds : (party : Party) (moved : Bool) (at after : Moment) → Makes head (receive party) (Ok moved) at after → Adds 0 at after
  receive-adds party moved at after (inr unheard) = let no = unheard.why in absurd (cc)
  receive-adds party moved at after (inl heard) = by heard.came heard.takes
    where
      delivers : (o : Option ℕ) → Delivers head o (Ok moved) (record at { links = heard.links }) after → Adds 0 at after
      delivers None d = none-added 0 at after (ap (λ (m : Moment). m.events) d.1)
      delivers (Some k) d = both-add 0 0 at (record at { links = heard.links }) after (none-added 0 at (record at { links = heard.links }) refl)
          (given-adds (Event.Deliver k) moved (record at { links = heard.links }) after tt d)

      takes : (d : Datagram) → Takes head d (Ok moved) (record at { links = heard.links }) after → Adds 0 at after
      takes d (inl c) = delivers c.number c.delivers
      takes d (inr wants) = let no = wants.0 in absurd (cc)

      by : (o : Option Letter) → TakesIn head party o (Ok moved) (record at { links = heard.links }) after → Adds 0 at after
      by None t = none-added 0 at after (ap (λ (m : Moment). m.events) t.1)
      by (Some letter) t = takes (came_to party letter) t

  each-adds : (one : ℕ → Step) → ((i : ℕ) (moved : Bool) (at after : Moment) → Makes head (one i) (Ok moved) at after → Adds 0 at after)
      → (count : ℕ) (moved : Bool) (at after : Moment) → MakesAll (Makes head) (each_below count one) moved at after → Adds 0 at after
  each-adds one adds count moved at after all = below-keeps head (λ i m. Adds 0 at m) one count
      (λ i moved from to low makes before. both-add 0 0 at from to before (adds i moved from to makes)) count moved at after (omega arith) all
      (none-added 0 at at refl)

  round-adds : (moved : Bool) (at after : Moment) → MakesAll (Makes head) (round_steps head.hosts) moved at after → Adds 1 at after
  round-adds moved at after all =
      let parts = in-parts head (each_below head.hosts (λ host. given (Event.ClientTick host))) (given Event.ServerTick ∷ []) moved at after all in
      let hosts = each-adds (λ host. given (Event.ClientTick host)) (λ i moved from to makes. given-adds (Event.ClientTick i) moved from to tt makes)
      head.hosts parts.one at parts.between parts.first in
      let last = parts.second in
      both-add 0 1 at parts.between after hosts (subst (λ m. Adds 1 parts.between m) (sym last.4.1) (tick-adds last.0 parts.between last.2 last.3))

  rounds-add : (count : ℕ) (moved : Bool) (at after : Moment) → MakesAll (Makes head) (rounds_steps head.hosts count) moved at after → Adds count at after
  rounds-add zero moved at after all = none-added 0 at after (ap (λ (m : Moment). m.events) all.1)
  rounds-add (suc count) moved at after all =
      let parts = in-parts head (rounds_steps head.hosts count) (round_steps head.hosts) moved at after all in
      let e : count + 1 ≡ suc count = omega arith in
      subst (λ n. Adds n at after) e (both-add count 1 at parts.between after (rounds-add count parts.one at parts.between parts.first)
      (round-adds parts.other parts.between after parts.second))

  receives-add : (moved : Bool) (at after : Moment) → MakesAll (Makes head) (receive_steps head.hosts) moved at after → Adds 0 at after
  receives-add moved at after all =
      both-add 0 0 at all.2 after (receive-adds Party.Server all.0 at all.2 all.3)
      (each-adds (λ host. receive (Party.Client host)) (λ i moved from to makes. receive-adds (Party.Client i) moved from to makes) head.hosts all.1
      all.2 after all.4)

  due-few : (time reading : ℕ) → rounds_due time reading ≤ most_due
  due-few time reading = omega arith

  wider : (few many : ℕ) (at after : Moment) → few ≤ many → Adds few at after → Adds many at after
  wider few many at after low a = record { in_time = a.in_time; room = a.room; few = a.few; time = let late = a.time in omega arith }

  pub turn-adds : (at after : Moment) → MakesTurn head at after → Adds most_due at after
  turn-adds at after turn =
      let due = rounds_due (run head at.events).server.now turn.reading in
      let one = in-parts head (rounds_steps head.hosts due) (call_steps head.hosts ++ receive_steps head.hosts) turn.moved at after turn.made in
      let two = in-parts head (call_steps head.hosts) (receive_steps head.hosts) one.other one.between after one.second in
      let calls = each-adds call call-adds head.hosts two.one one.between two.between two.first in
      let behind = both-add 0 0 one.between two.between after calls (receives-add two.other two.between after two.second) in
      wider (due + 0) most_due at after (let few = due-few (run head at.events).server.now turn.reading in omega arith)
      (both-add due 0 at one.between after (rounds-add due one.one at one.between one.first) behind)
