-- The server's boot is counted by the crashes of a staged schedule, and its pool is what came since the last of them.
use Rattle.std.proofs.Common.{◌≡◌, ℕ, ◌+◌, ◌==◌, Bool, true, false, List, [], ◌∷◌, Option, Some, None, refl, sym, subst, ap, ◌∙◌, if◌then◌else◌, arith}
use Rattle.std.specs.Prelude.{slice_get}
use Rattle.nq_base.specs.declared.Event.{Event}
use Rattle.nq_base.specs.declared.Party.{Party}
use Rattle.nq_model.specs.protocol.Client.{Client, ClientStep}
use Rattle.nq_model.specs.protocol.Hear.{hear}
use Rattle.nq_model.specs.protocol.Kept.{File, Kept, find_file, with_row, with_files, with_new_file}
use Rattle.nq_model.specs.protocol.Message.{Datagram, Message, Packet, datagram_of}
use Rattle.nq_model.specs.protocol.Server.{Server}
use Rattle.nq_model.specs.protocol.ServerStep.{receive, fence, tick, booted, boot, crash}
use Rattle.nq_model.specs.protocol.Table.{empty_table, with_rows, after_draw}
use Rattle.nq_model.specs.protocol.World.{Head, World, after_server, after_client, at_client, after_hearing, first_kept, deliver_to_client, deliver_to}
use Rattle.nq_model.specs.protocol.World.{deliver, start, step}
use Rattle.nq_stage.specs.Answering.{Answer, write, unstaged, own_stage, own_commit, answered, answered_as, body_for}
use Rattle.nq_stage.specs.Bodies.{Bodies, body_of}
use Rattle.nq_stage.specs.PoolLaws.{after, pool_after}
use Rattle.nq_stage.proofs.Newest.{answers-with-its-boot}
use Rattle.nq_stage.specs.declared.messages.Commit.{Commit}
use Rattle.nq_stage.specs.Messages.{written_of}
use Rattle.nq_stage.specs.Reading.{Stage}
use Rattle.nq_stage.specs.declared.run.event.StagedEvent.{StagedEvent}
use Rattle.nq_stage.specs.Outer.{Outer, Side, Outside, outside_start}
use Rattle.nq_stage.specs.Outside.{sends, inner, inner_delivery, takes_stage, takes_commit, served_commit, served_stage, to_server, told_side}
use Rattle.nq_stage.specs.Outside.{heard_by, to_host, takes, delivers, outside_step, outside_run}
use Rattle.nq_stage.proofs.Inner.{Core, inner-ran, delivery-cases, core-offering}
use Rattle.nq_stage.specs.Hearing.{Told, acknowledged, again, other, told_by}
use Rattle.nq_stage.specs.Boots.{crashes, boot_of, BootsAreCounted, brought, brought_by, since_boot, PoolIsOfItsBoot, AnswersAreOfTheBoot, CrashesLoseAll}
use Rattle.walk_steps.proofs.ServerMoves.{ServerMoves, server-moves, tick-moves}

-- ---- the boot

-- what the server keeps and its table are of this boot
abbrev IsOf : ℕ → Server → Type 0
IsOf n s = (s.kept.boot ≡ n) × (s.table.boot ≡ n)

datagram-moves : (n : ℕ) (s : Server) (d : Datagram) → IsOf n s → ServerMoves s d (λ kept phase table. (kept.boot ≡ n) × (table.boot ≡ n))
unfolding with_row with_files with_new_file with_rows after_draw
datagram-moves n s d b = record {
  stays = b;
  decided = λ kept phase table who line inc same q. q;
  attaching = λ who later. b;
  vacating = λ who file tag current. b;
  marking = λ file host access serves. b;
  marking_waiting = λ xid r who f want e wants asking own room. b;
  granting = λ xid r who f want row term e wants asking c g. b;
  creating = λ name blocks serves can. b;
  changing = λ who f file serves current found same c. b;
  storing = λ who f file base row serves current found same can. b;
  storing_recovering = λ f file until heard last p found same. b;
  removing = λ who f serves current found c. b;
}

received : (n : ℕ) (s : Server) (sender next : ℕ) (d : Datagram) → IsOf n s → IsOf n (receive s sender next d).server
received n s sender next d b = server-moves s sender next d (λ kept phase table. (kept.boot ≡ n) × (table.boot ≡ n)) (datagram-moves n s d b)

fenced : (kept : Kept) (file : Option File) → (fence kept file).boot ≡ kept.boot
unfolding with_files
fenced kept None = refl
fenced kept (Some f) = refl

ticked : (n : ℕ) (s : Server) (now : ℕ) → IsOf n s → IsOf n (tick s now).server
unfolding with_rows
ticked n s now b = tick-moves s now (λ kept phase table. (kept.boot ≡ n) × (table.boot ≡ n)) (record {
  waits = λ until heard last p goes_on. b;
  opening = λ until heard last p over. b;
  ends_reading = λ p. b;
  ending_writing = λ row p due. (fenced s.kept (find_file row.file s.kept.files) ∙ b.0, b.1);
})

raised : (kept : Kept) (longest : ℕ) → (booted kept longest).boot ≡ kept.boot + 1
raised kept longest = by (kept.opened == 0)
  where
    by : (b : Bool) → (if b then record kept { boot = kept.boot + 1; opened = kept.boot + 1; longest = longest }
        else record kept { boot = kept.boot + 1 }).boot ≡ kept.boot + 1
    by true = refl
    by false = refl

crashed : (n : ℕ) (s : Server) (longest : ℕ) → IsOf n s → IsOf (n + 1) (crash s longest).server
unfolding crash boot empty_table
crashed n s longest b = (raised s.kept longest ∙ ap (λ k. k + 1) b.0, ap (λ k. k + 1) b.0)

-- ---- the boot of a world

after-server : (n : ℕ) (w : World) (host next : ℕ) (d : Datagram) → IsOf n w.server → IsOf n (after_server w (receive w.server host next d)).server
unfolding after_server
after-server n w host next d b = received n w.server host next d b

after-client : (n : ℕ) (w : World) (host : ℕ) (t : ClientStep) → IsOf n w.server → IsOf n (after_client w host t).server
unfolding after_client
after-client n w host t b = b

at-client : (n : ℕ) (w : World) (host : ℕ) (f : Client → ClientStep) (o : Option Client) → IsOf n w.server → IsOf n (at_client w host f o).server
at-client n w host f None b = b
at-client n w host f (Some c) b = after-client n w host (f c) b

after-hearing : (n : ℕ) (w : World) (host : ℕ) (o : Option ClientStep) → IsOf n w.server → IsOf n (after_hearing w host o).server
after-hearing n w host None b = b
after-hearing n w host (Some t) b = after-client n w host t b

to-client : (n : ℕ) (w : World) (k host : ℕ) (m : Message) (o : Option Client) → IsOf n w.server → IsOf n (deliver_to_client w k host m o).server
to-client n w k host m None b = b
to-client n w k host m (Some c) b = after-hearing n w host (hear c k m) b

to-party : (n : ℕ) (w : World) (k : ℕ) (p : Packet) (to : Party) → IsOf n w.server → IsOf n (deliver_to w k p to).server
to-party n w k p Party.Server b = after-server n w _ _ (datagram_of p.message) b
to-party n w k p (Party.Client host) b = to-client n w k host p.message (slice_get w.clients host) b

delivered : (n : ℕ) (w : World) (k : ℕ) (o : Option Packet) → IsOf n w.server → IsOf n (deliver w k o).server
delivered n w k None b = b
delivered n w k (Some p) b = to-party n w k p p.to b

server-ticked : (n : ℕ) (w : World) → IsOf n w.server → IsOf n (step w Event.ServerTick).server
unfolding after_server
server-ticked n w b = ticked n w.server (w.server.now + 1) b

server-crashed : (n : ℕ) (w : World) (longest : ℕ) → IsOf n w.server → IsOf (n + 1) (step w (Event.Crash longest)).server
unfolding after_server
server-crashed n w longest b = crashed n w.server longest b

first-boot : (head : Head) → IsOf 1 (start head).server
unfolding start boot empty_table
first-boot head = (raised (first_kept head) head.longest, refl)

-- ---- the boot of a staged world

-- a world, and what stands beside it, are of this boot
abbrev WorldOf : ℕ → World × List Event × Bodies → Type 0
WorldOf n i = IsOf n i.0.server

ran-on : (n : ℕ) (o : Outside) (event : Event) → IsOf n (step o.world event).server → WorldOf n (Core (inner o event))
ran-on n o event b = subst (WorldOf n) (sym (inner-ran o event)) b

stepped : (n : ℕ) (o : Outside) (event : StagedEvent) → IsOf n o.world.server → IsOf (crashes (event ∷ []) + n) (outside_step o event).world.server
stepped n o (StagedEvent.Stage host) b = subst (λ k. IsOf k (outside_step o (StagedEvent.Stage host)).world.server) (omega arith)
    (subst (WorldOf n) (sym (core-offering o host (slice_get o.sides host) (slice_get o.world.clients host))) b)
stepped n o (StagedEvent.Plain (Event.Deliver k)) b =
    subst (λ m. IsOf m (outside_step o (StagedEvent.Plain (Event.Deliver k))).world.server) (omega arith)
    (delivery-cases o (WorldOf n) b (λ s. b) (λ number. delivered n o.world number (slice_get o.world.packets number) b) (slice_get o.sent k))
stepped n o (StagedEvent.Plain (Event.Call host op)) b =
    subst (λ m. IsOf m (inner o (Event.Call host op)).world.server) (omega arith) (ran-on n o (Event.Call host op) (at-client n o.world host _
    (slice_get o.world.clients host) b))
stepped n o (StagedEvent.Plain Event.ServerTick) b =
    subst (λ m. IsOf m (inner o Event.ServerTick).world.server) (omega arith) (ran-on n o Event.ServerTick (server-ticked n o.world b))
stepped n o (StagedEvent.Plain (Event.ClientTick host)) b =
    subst (λ m. IsOf m (inner o (Event.ClientTick host)).world.server) (omega arith) (ran-on n o (Event.ClientTick host) (at-client n o.world host _
    (slice_get o.world.clients host) b))
stepped n o (StagedEvent.Plain (Event.Restart host)) b =
    subst (λ m. IsOf m (inner o (Event.Restart host)).world.server) (omega arith) (ran-on n o (Event.Restart host) (at-client n o.world host _
    (slice_get o.world.clients host) b))
stepped n o (StagedEvent.Plain (Event.Crash longest)) b =
    subst (λ m. IsOf m (inner o (Event.Crash longest)).world.server) (omega arith) (ran-on (n + 1) o (Event.Crash longest)
    (server-crashed n o.world longest b))

-- an event more counts as it does alone
more-crashes : (event : StagedEvent) (events : List StagedEvent) → crashes (event ∷ events) ≡ crashes (event ∷ []) + crashes events
more-crashes (StagedEvent.Stage host) events = omega arith
more-crashes (StagedEvent.Plain (Event.Deliver k)) events = omega arith
more-crashes (StagedEvent.Plain (Event.Call host op)) events = omega arith
more-crashes (StagedEvent.Plain Event.ServerTick) events = omega arith
more-crashes (StagedEvent.Plain (Event.ClientTick host)) events = omega arith
more-crashes (StagedEvent.Plain (Event.Restart host)) events = omega arith
more-crashes (StagedEvent.Plain (Event.Crash longest)) events = omega arith

of-boot : (head : Head) (events : List StagedEvent) → IsOf (crashes events + 1) (outside_run head events).world.server
unfolding outside_start
of-boot head [] = subst (λ n. IsOf n (start head).server) (omega arith) (first-boot head)
of-boot head (event ∷ earlier) =
    let more = more-crashes event earlier in
    subst (λ n. IsOf n (outside_step (outside_run head earlier) event).world.server) (omega arith) (stepped (crashes earlier + 1)
    (outside_run head earlier) event (of-boot head earlier))

pub boots-are-counted : BootsAreCounted
boots-are-counted head events = (of-boot head events).1

-- ---- the pool

delivery-pool : (o : Outside) (stands : Option ℕ) → (inner_delivery o stands).pool ≡ o.pool
delivery-pool o None = refl
delivery-pool o (Some number) = ap (λ i. i.2) (inner-ran o (Event.Deliver number))

commit-pool : (o : Outside) (host : ℕ) (stands : Option ℕ) (a : Answer) → (takes_commit o host stands a).pool ≡ o.pool
unfolding sends
commit-pool o host stands (write bytes) = delivery-pool (record o { counts = record o.counts { commits = o.counts.commits + 1 } }) stands
commit-pool o host stands (unstaged bytes) = refl

served-pool : (o : Outside) (host : ℕ) (p : Outer) (c : Option Commit) → (served_commit o host p c).pool ≡ o.pool
served-pool o host p None = delivery-pool o p.stands
served-pool o host p (Some c) = commit-pool o host p.stands (answered o.pool c)

stage-pool : (o : Outside) (host : ℕ) (p : Outer) (s : Option Stage) → (served_stage o host p s).pool ≡ after o.pool s
unfolding takes_stage sends
stage-pool o host p None = served-pool o host p (own_commit host p.bytes)
stage-pool o host p (Some s) = refl

told-pool : (o : Outside) (host : ℕ) (side : Side) (t : Told) → (told_side o host side t).pool ≡ o.pool
unfolding sends
told-pool o host side (again bytes) = refl
told-pool o host side (acknowledged w verifier) = refl
told-pool o host side other = refl

heard-pool : (o : Outside) (host : ℕ) (p : Outer) (side : Option Side) → (heard_by o host p side).pool ≡ o.pool
heard-pool o host p None = refl
heard-pool o host p (Some side) = told-pool o host side (told_by side.stager p.bytes)

host-pool : (o : Outside) (host : ℕ) (p : Outer) (stands : Option ℕ) → (to_host o host p stands).pool ≡ o.pool
host-pool o host p (Some number) = delivery-pool o (Some number)
host-pool o host p None = heard-pool o host p (slice_get o.sides host)

module _ (o : Outside) (boot : ℕ) (given : List (ℕ × List ℕ)) (so : o.pool ≡ pool_after boot given) where
  taken-pool : (p : Outer) (to sender : Party) → p.sender ≡ sender → (takes o p to).pool ≡ pool_after boot (brought to sender p.bytes given)
  taken-pool p Party.Server Party.Server by = subst (λ from. (to_server o p from).pool ≡ pool_after boot given) (sym by) (delivery-pool o p.stands ∙ so)
  taken-pool p Party.Server (Party.Client host) by =
      subst (λ from. (to_server o p from).pool ≡ pool_after boot ((host, p.bytes) ∷ given)) (sym by) (stage-pool o host p (own_stage host p.bytes)
      ∙ ap (λ pool. after pool (own_stage host p.bytes)) so)
  taken-pool p (Party.Client host) Party.Server by = host-pool o host p p.stands ∙ so
  taken-pool p (Party.Client host) (Party.Client from) by = host-pool o host p p.stands ∙ so

  delivers-pool : (p : Option Outer) → (delivers o p).pool ≡ pool_after boot (brought_by p given)
  delivers-pool None = so
  delivers-pool (Some p) = taken-pool p p.to p.sender refl

-- the pool with which a boot begins
abbrev empty : ℕ → Bodies
empty b = record { boot = b; bodies = [] }

pool-run : (head : Head) (events : List StagedEvent) → (outside_run head events).pool ≡ pool_after (crashes events + 1) (since_boot head events)
unfolding outside_start
pool-run head [] = let first = (of-boot head []).1 in ap empty first
pool-run head (StagedEvent.Stage host ∷ earlier) =
    let o = outside_run head earlier in
    ap (λ i. i.2) (core-offering o host (slice_get o.sides host) (slice_get o.world.clients host)) ∙ pool-run head earlier
pool-run head (StagedEvent.Plain (Event.Deliver k) ∷ earlier) =
    let o = outside_run head earlier in
    delivers-pool o (crashes earlier + 1) (since_boot head earlier) (pool-run head earlier) (slice_get o.sent k)
pool-run head (StagedEvent.Plain (Event.Call host op) ∷ earlier) = ap (λ i. i.2) (inner-ran (outside_run head earlier) (Event.Call host op))
    ∙ pool-run head earlier
pool-run head (StagedEvent.Plain Event.ServerTick ∷ earlier) = ap (λ i. i.2) (inner-ran (outside_run head earlier) Event.ServerTick) ∙ pool-run head earlier
pool-run head (StagedEvent.Plain (Event.ClientTick host) ∷ earlier) = ap (λ i. i.2) (inner-ran (outside_run head earlier) (Event.ClientTick host))
    ∙ pool-run head earlier
pool-run head (StagedEvent.Plain (Event.Restart host) ∷ earlier) = ap (λ i. i.2) (inner-ran (outside_run head earlier) (Event.Restart host))
    ∙ pool-run head earlier
pool-run head (StagedEvent.Plain (Event.Crash longest) ∷ earlier) =
    let o = outside_run head earlier in
    let raised-once = server-crashed (crashes earlier + 1) o.world longest (of-boot head earlier) in
    let boot : (step o.world (Event.Crash longest)).server.table.boot ≡ crashes (StagedEvent.Plain (Event.Crash longest) ∷ earlier) + 1 =
    raised-once.1 ∙ omega arith in
    ap (λ i. i.2) (inner-ran o (Event.Crash longest)) ∙ ap empty boot

pub pool-is-of-its-boot : PoolIsOfItsBoot
pool-is-of-its-boot head events = pool-run head events ∙ ap (λ b. pool_after b (since_boot head events)) (sym (boots-are-counted head events))

pub answers-are-of-the-boot : AnswersAreOfTheBoot
answers-are-of-the-boot head events c bytes answers =
    answers-with-its-boot (boot_of (outside_run head events)) (since_boot head events) c bytes (ap (λ pool. answered pool c)
    (sym (pool-is-of-its-boot head events)) ∙ answers)

none-there : (boot : ℕ) (c : Commit) → body_for (empty boot) c ≡ None
none-there boot c = by (c.verifier == boot)
  where
    by : (b : Bool) → (if b then body_of (written_of c.pushed) [] else None) ≡ None
    by true = refl
    by false = refl

pub crashes-lose-all : CrashesLoseAll
crashes-lose-all head events longest c =
    let crashed-events : List StagedEvent = StagedEvent.Plain (Event.Crash longest) ∷ events in
    ap (λ pool. answered pool c) (pool-is-of-its-boot head crashed-events) ∙ ap (answered_as c) (none-there (boot_of (outside_run head crashed-events)) c)
