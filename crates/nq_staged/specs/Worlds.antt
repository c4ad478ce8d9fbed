-- A world with staged writes over a keeper as contracts see it, and the staged run that it plays. Below, `told` is what the server's
-- keeper told of its content before a call, and `tells` is what it tells after it.
use Rattle.std.specs.Prelude.{◌≡◌, ◌<◌, ◌≤◌, ℕ, Bool, List, [], ◌∷◌, ◌++◌, Option, length, reverse, nat_lt, if◌then◌else◌}
use Rattle.nq_base.specs.declared.Event.{Event}
use Rattle.nq_keeper.specs.Keeping.{StaysOrEnds}
use Rattle.nq_model.specs.protocol.Kept.{Kept}
use Rattle.nq_model.specs.protocol.SkewBroken.{skew_broken}
use Rattle.nq_model.specs.protocol.Stepped.{Stepped as Answer, done, no_packet, out_of_skew, too_many_events, most_events, stepped, tested_room, tested_skew}
use Rattle.nq_model.specs.protocol.World.{Head, run, step}
use Rattle.nq_stage.specs.declared.run.event.StagedEvent.{StagedEvent}
use Rattle.nq_stage.specs.Outer.{Outside}
use Rattle.nq_stage.specs.Outside.{outside_run}
use Rattle.nq_stage.specs.Theorem.{IsStagedSchedule, RebuildsMeant, EachStands, EachIsDelivered}
use Rattle.nq_stage.specs.Lawful.{IsLawful}
use Rattle.nq_world.specs.Answering.{told as answer_of}
use Rattle.nq_world.specs.Playing.{WorldOver, Plays, CanCome}
use Rattle.nq_world.specs.declared.Stepped.{Stepped}
use Rattle.nq_staged.specs.Around.{AroundOver, IsSettled, counted, renewed_around, shown}

-- a world with staged writes: the inner world, what stands around it, the inner events with the oldest first, and how many events were
-- taken in
pub record StagedOver (K : Type 0) : Type 0 where
  pub inner : WorldOver K
  pub around : AroundOver
  pub ran : List Event
  pub events : ℕ

-- A staged run is faithful to its inner run: the inner world is the run of the inner events, which keep to the bounds and are within skew,
-- so the headline holds of it. Each WRITE that the pool rebuilds is byte for byte the inner packet for which its COMMIT stands. A packet
-- that stands for an inner one carries its bytes, or is its COMMIT, and its delivery is that one's, but for a COMMIT without its body.
pub record IsFaithful (head : Head) (o : Outside) : Type 0 where
  pub runs : o.world ≡ run head o.ran
  pub lawful : IsLawful head.longest head o.ran
  pub rebuilds : RebuildsMeant o
  pub stands : EachStands o
  pub delivers : EachIsDelivered o

-- An inner world and what stands around it have come to the end of the staged run of these events: the inner world plays the run of the
-- inner events, what is shown is what the staged run says, and that is faithful to its inner run.
pub record Reaches {K : Type 0} (head : Head) (events : List StagedEvent) (w : StagedOver K) (told : Option Kept) : Type 0 where
  pub inner : Plays head (reverse w.ran) w.inner told
  pub shows : shown (run head (reverse w.ran)) (reverse w.ran) w.around ≡ outside_run head events
  pub gone : w.around.gone ≤ length w.inner.datagrams
  pub schedule : IsStagedSchedule head events
  pub faithful : IsFaithful head (outside_run head events)

-- a world plays the staged run of these events from this head
pub record PlaysOutside {K : Type 0} (head : Head) (events : List StagedEvent) (w : StagedOver K) (told : Option Kept) : Type 0 where
  pub reaches : Reaches head events w told
  pub counted : w.events ≡ length events

-- ---- what is answered

-- the tests behind that of the number of events, over what travels outside. The rule on skew is that of the inner events
abbrev pub tested_outside : Head → Outside → StagedEvent → Answer
tested_outside head o (StagedEvent.Plain (Event.Deliver k)) =
    if nat_lt k (length o.sent) then tested_room (length o.sent) else no_packet
tested_outside head o (StagedEvent.Plain Event.ServerTick) =
    tested_skew (length o.sent) (skew_broken head.hosts head.longest o.ran)
tested_outside head o other = tested_room (length o.sent)

-- what is answered to an event, after these that were taken, the newest first
abbrev pub stepped_outside : Head → (earlier : List StagedEvent) → StagedEvent → Answer
stepped_outside head earlier event =
    if nat_lt (length earlier) most_events then tested_outside head (outside_run head earlier) event else too_many_events

-- an event that can come to so many hosts
abbrev pub CanComeOutside : (hosts longest : ℕ) → StagedEvent → Type 0
CanComeOutside hosts longest (StagedEvent.Stage host) = host < hosts
CanComeOutside hosts longest (StagedEvent.Plain event) = CanCome hosts longest event

-- What a step leads to by its answer, where `P` says what holds of the events of a run and of what the keeper tells. `Done`: the event
-- was to be taken, and `P` holds with it. After every other answer `P` holds as before; a keeper that failed may tell nothing any more.
abbrev pub Leads : Head → (events : List StagedEvent) → StagedEvent → Stepped → (told tells : Option Kept) → (P : List StagedEvent → Option Kept
    → Type 0) → Type 0
Leads head events event Stepped.Done told tells P = (stepped_outside head events event ≡ done) × P (event ∷ events) tells
Leads head events event Stepped.Fault told tells P =
    (stepped_outside head events event ≡ done) × (tells ≡ told → P events tells) × StaysOrEnds told tells
Leads head events event Stepped.Memory told tells P = P events tells × (tells ≡ told)
Leads head events event said told tells P = (answer_of (stepped_outside head events event) ≡ said) × P events tells × (tells ≡ told)

-- what a step does to a world that plays the staged run of these events
abbrev pub StepsOutside : {K : Type 0} → Head → (events : List StagedEvent) → StagedEvent → Stepped → (new : StagedOver K)
    → (told tells : Option Kept) → Type 0
StepsOutside head events event said new told tells = Leads head events event said told tells (λ es t. PlaysOutside head es new t)

-- ---- the parts of a step

-- an answer that is left to the inner world: the rule on skew is tested there
abbrev pub IsLeft : Answer → Type 0
IsLeft done = Unit {0}
IsLeft (out_of_skew broken) = Unit {0}
IsLeft other = ⊥

-- what the tests said, where `Done` leaves the answer to the inner world
abbrev pub IsTested : Stepped → Answer → Type 0
IsTested Stepped.Done answer = IsLeft answer
IsTested said answer = answer_of answer ≡ said

-- what running an inner event did to the parts of a world whose inner world plays the run of its events, by the answer
abbrev pub RunsInner : {K : Type 0} → Head → Event → (commit : Bool) → Stepped → (old new : StagedOver K) → (told tells : Option Kept) → Type 0
RunsInner head event commit Stepped.Done old new told tells =
    (stepped head (reverse old.ran) event ≡ done)
    × Plays head (event ∷ reverse old.ran) new.inner tells
    × (new.ran ≡ old.ran ++ event ∷ [])
    × (new.around ≡ renewed_around event (step (run head (reverse old.ran)) event) (record old.around { counts = counted commit old.around.counts }))
RunsInner head event commit Stepped.Fault old new told tells =
    (stepped head (reverse old.ran) event ≡ done)
    × (tells ≡ told → Plays head (reverse old.ran) new.inner tells) × StaysOrEnds told tells
    × (new.ran ≡ old.ran) × (new.around ≡ old.around)
RunsInner head event commit Stepped.Memory old new told tells =
    Plays head (reverse old.ran) new.inner tells × (tells ≡ told) × (new.ran ≡ old.ran) × (new.around ≡ old.around)
RunsInner head event commit said old new told tells =
    (answer_of (stepped head (reverse old.ran) event) ≡ said)
    × Plays head (reverse old.ran) new.inner tells × (tells ≡ told) × (new.ran ≡ old.ran) × (new.around ≡ old.around)

-- a world whose inner world has sent nothing that has not gone out
abbrev pub IsReady : {K : Type 0} → StagedOver K → Type 0
IsReady w = IsSettled (length w.inner.datagrams) w.around

-- what an offer may be answered
abbrev pub IsOfOffers : Stepped → Type 0
IsOfOffers Stepped.Done = Unit {0}
IsOfOffers Stepped.Memory = Unit {0}
IsOfOffers other = ⊥
