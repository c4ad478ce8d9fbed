-- A world with leased directories over a keeper as contracts see it, and the run with lists that it plays. Below, `told` is what the
-- server's keeper told of its content before a call, and `tells` is what it tells after it.
use Rattle.std.specs.Prelude.{◌≡◌, ◌<◌, ◌≤◌, ℕ, List, [], ◌∷◌, ◌++◌, Option, length, reverse, nat_lt, slice_get, if◌then◌else◌}
use Rattle.nq_base.specs.declared.Event.{Event}
use Rattle.nq_keeper.specs.Keeping.{StaysOrEnds}
use Rattle.nq_model.specs.protocol.Kept.{Kept}
use Rattle.nq_model.specs.protocol.SkewBroken.{skew_broken}
use Rattle.nq_model.specs.protocol.Stepped.{Stepped as Answer, done, no_packet, out_of_skew, too_many_events, most_events, stepped, tested_room, tested_skew}
use Rattle.nq_model.specs.protocol.World.{Head, World, run, step}
use Rattle.nq_directory.specs.NameCacheNames.{before_call}
use Rattle.nq_name_server.specs.Serving.{ticks}
use Rattle.nq_name_server.specs.declared.run.event.NameEvent.{NameEvent}
use Rattle.nq_name_server.specs.Outer.{Outside, of_boot}
use Rattle.nq_name_server.specs.Outside.{at_side, new_side, outside_run}
use Rattle.nq_name_server.specs.Theorem.{FindsWhatIsKept, IsNamesSchedule}
use Rattle.nq_world.specs.Answering.{told as answer_of}
use Rattle.nq_world.specs.Playing.{WorldOver, Plays, CanCome}
use Rattle.nq_world.specs.declared.Stepped.{Stepped}
use Rattle.nq_name_server.specs.Around.{AroundOver, shown}

-- a world with leased directories: the inner world, what stands around it, the inner events with the oldest first, and how many events
-- were taken in
pub record NamesOver (K : Type 0) : Type 0 where
  pub inner : WorldOver K
  pub around : AroundOver
  pub ran : List Event
  pub events : ℕ

-- A run with lists keeps what is promised: its inner world is the run of the inner events, and its schedule is one of which the law on
-- finds speaks, so each host that knows of a name knows what the server keeps under it at that moment.
pub record IsKept (head : Head) (events : List NameEvent) : Type 0 where
  pub runs : (outside_run head events).world ≡ run head (outside_run head events).ran
  pub schedule : IsNamesSchedule head.longest head events
  pub finds : FindsWhatIsKept (outside_run head events)

-- An inner world and what stands around it have come to the end of the run of these events: the inner world plays the run of the inner
-- events, what is shown is what the run says, and that keeps what is promised.
pub record Reaches {K : Type 0} (head : Head) (events : List NameEvent) (w : NamesOver K) (told : Option Kept) : Type 0 where
  pub inner : Plays head (reverse w.ran) w.inner told
  pub shows : shown (run head (reverse w.ran)) (reverse w.ran) w.around ≡ outside_run head events
  pub gone : w.around.gone ≤ length w.inner.datagrams
  pub keeps : IsKept head events

-- a world plays the run of these events from this head
pub record PlaysOutside {K : Type 0} (head : Head) (events : List NameEvent) (w : NamesOver K) (told : Option Kept) : Type 0 where
  pub reaches : Reaches head events w told
  pub counted : w.events ≡ length events

-- the tests behind that of the number of events, over what travels outside. The rule on skew is that of the inner events
abbrev pub tested_outside : Head → Outside → NameEvent → Answer
tested_outside head o (NameEvent.Plain (Event.Deliver k)) =
    if nat_lt k (length o.sent) then tested_room (length o.sent) else no_packet
tested_outside head o (NameEvent.Plain Event.ServerTick) =
    tested_skew (length o.sent) (skew_broken head.hosts head.longest o.ran)
tested_outside head o other = tested_room (length o.sent)

-- what is answered to an event, after these that were taken, the newest first
abbrev pub stepped_outside : Head → (earlier : List NameEvent) → NameEvent → Answer
stepped_outside head earlier event =
    if nat_lt (length earlier) most_events then tested_outside head (outside_run head earlier) event else too_many_events

-- an event that can come to so many hosts
abbrev pub CanComeOutside : (hosts longest : ℕ) → NameEvent → Type 0
CanComeOutside hosts longest (NameEvent.List host prefix) = host < hosts
CanComeOutside hosts longest (NameEvent.Plain event) = CanCome hosts longest event

-- What a step leads to by its answer, where `P` says what holds of the events of a run and of what the keeper tells. `Done`: the event
-- was to be taken, and `P` holds with it. After every other answer `P` holds as before; a keeper that failed may tell nothing any more.
abbrev pub Leads : Head → (events : List NameEvent) → NameEvent → Stepped → (told tells : Option Kept) → (P : List NameEvent → Option Kept → Type 0) → Type 0
Leads head events event Stepped.Done told tells P = (stepped_outside head events event ≡ done) × P (event ∷ events) tells
Leads head events event Stepped.Fault told tells P =
    (stepped_outside head events event ≡ done) × (tells ≡ told → P events tells) × StaysOrEnds told tells
Leads head events event Stepped.Memory told tells P = P events tells × (tells ≡ told)
Leads head events event said told tells P = (answer_of (stepped_outside head events event) ≡ said) × P events tells × (tells ≡ told)

-- what a step does to a world that plays the run of these events
abbrev pub StepsOutside : {K : Type 0} → Head → (events : List NameEvent) → NameEvent → Stepped → (new : NamesOver K) → (told tells : Option Kept) → Type 0
StepsOutside head events event said new told tells = Leads head events event said told tells (λ es t. PlaysOutside head es new t)

-- ---- the parts of a step

-- all that so many inner packets make has gone out
pub record IsSettled (packets : ℕ) (a : AroundOver) : Type 0 where
  pub none_due : a.due ≡ []
  pub all_gone : packets ≡ a.gone

-- a world whose inner world has sent nothing that has not gone out
abbrev pub IsReady : {K : Type 0} → NamesOver K → Type 0
IsReady w = IsSettled (length w.inner.datagrams) w.around

-- an answer that is left to the inner world: the rule on skew is tested there
abbrev pub IsLeft : Answer → Type 0
IsLeft done = Unit {0}
IsLeft (out_of_skew broken) = Unit {0}
IsLeft other = ⊥

-- what the tests said, where `Done` leaves the answer to the inner world
abbrev pub IsTested : Stepped → Answer → Type 0
IsTested Stepped.Done answer = IsLeft answer
IsTested said answer = answer_of answer ≡ said

-- an inner event was run, which led to this inner world: a crash begins with no leases on directories, a tick of the server's clock ends
-- those that are over, a restart forgets the host's names, and a call those that it is about to change
abbrev pub renewed_around : Event → World → AroundOver → AroundOver
renewed_around (Event.Crash longest) w a = record a { served = of_boot w }
renewed_around Event.ServerTick w a = record a { served = ticks a.served w.server.now }
renewed_around (Event.Restart host) w a = record a { sides = new_side (slice_get w.clients host) a.sides host }
renewed_around (Event.Call host op) w a =
    record a { sides = at_side (λ n. before_call n op) a.sides host (slice_get a.sides host) }
renewed_around event w a = a

-- What running an inner event did to the parts of a world whose inner world plays the run of its events, by the answer. `changed` is what
-- stands around the inner world then, where the event was taken in.
abbrev pub RunsTo : {K : Type 0} → Head → Event → Stepped → (old new : NamesOver K) → (told tells : Option Kept) → (changed : AroundOver) → Type 0
RunsTo head event Stepped.Done old new told tells changed =
    (stepped head (reverse old.ran) event ≡ done)
    × Plays head (event ∷ reverse old.ran) new.inner tells
    × (new.ran ≡ old.ran ++ event ∷ [])
    × (new.around ≡ changed)
RunsTo head event Stepped.Fault old new told tells changed =
    (stepped head (reverse old.ran) event ≡ done)
    × (tells ≡ told → Plays head (reverse old.ran) new.inner tells) × StaysOrEnds told tells
    × (new.ran ≡ old.ran) × (new.around ≡ old.around)
RunsTo head event Stepped.Memory old new told tells changed =
    Plays head (reverse old.ran) new.inner tells × (tells ≡ told) × (new.ran ≡ old.ran) × (new.around ≡ old.around)
RunsTo head event said old new told tells changed =
    (answer_of (stepped head (reverse old.ran) event) ≡ said)
    × Plays head (reverse old.ran) new.inner tells × (tells ≡ told) × (new.ran ≡ old.ran) × (new.around ≡ old.around)

-- the same, where what stands around the inner world is renewed as the event wants it
abbrev pub RunsInner : {K : Type 0} → Head → Event → Stepped → (old new : NamesOver K) → (told tells : Option Kept) → Type 0
RunsInner head event said old new told tells =
    RunsTo head event said old new told tells (renewed_around event (step (run head (reverse old.ran)) event) old.around)
