-- In every run the table that stands grows, so that what was drawn is below what is drawn next.
use Rattle.std.proofs.Common.{◌≡◌, ◌<◌, ◌≤◌, ◌⊎◌, ℕ, ◌+◌, ◌==◌, Bool, true, false, List, [], ◌∷◌, ◌++◌, Option, Some, None, if◌then◌else◌, refl, sym}
use Rattle.std.proofs.Common.{subst, ◌∙◌, arith, inl, inr, length}
use Rattle.std.specs.Prelude.{slice_get}
use Rattle.std.proofs.lemmas.Bool.Decides.{nat_tests}
use Rattle.nq_base.specs.declared.Event.{Event}
use Rattle.nq_base.specs.declared.Party.{Party}
use Rattle.nq_base.specs.declared.Tag.{Tag}
use Rattle.walk_steps.proofs.ServerMoves.{server-moves, tick-moves}
use Rattle.walk_steps.proofs.ServerTables.{BootsFit, BootsFitOf, RecoversBoot, boots-receive, boots-tick, boots-crash, boots-boot, standing-boot}
use Rattle.walk_steps.proofs.ServerTables.{opened-before}
use Rattle.nq_model.specs.laws.TagsAreInOrder.{IsUpTo, IsNoEarlier, StandingTableGrows}
use Rattle.nq_model.specs.protocol.Client.{Client, ClientStep}
use Rattle.nq_model.specs.protocol.ClientStep.{client_call, client_tick, restart}
use Rattle.nq_model.specs.protocol.Hear.{hear}
use Rattle.nq_model.specs.protocol.Kept.{Kept}
use Rattle.nq_model.specs.protocol.Message.{Message, Packet, Datagram, datagram_of}
use Rattle.nq_model.specs.protocol.Server.{Phase, serving, recovering, Server, standing, standing_in, last_table, last_in}
use Rattle.nq_model.specs.protocol.ServerStep.{receive, tick, crash, boot}
use Rattle.nq_model.specs.protocol.Table.{Table, tag_below, next_tag, with_rows, after_draw, empty_table}
use Rattle.nq_model.specs.protocol.World.{Head, World, after_server, after_client, at_client, after_hearing, deliver_to_client, deliver_to, deliver, step}
use Rattle.nq_model.specs.protocol.World.{start, run, sending_host, first_kept}

-- ---- the table that stands grows

same-table : (t : Table) → IsNoEarlier t t
same-table t = inr (refl, omega arith)

no-earlier : (a b c : Table) → IsNoEarlier a b → IsNoEarlier b c → IsNoEarlier a c
no-earlier a b c (inl x) (inl y) = inl (omega arith)
no-earlier a b c (inl x) (inr y) = let e = y.0 in inl (omega arith)
no-earlier a b c (inr x) (inl y) = let e = x.0 in inl (omega arith)
no-earlier a b c (inr x) (inr y) = let d = x.1 in let e = y.1 in inr (x.0 ∙ y.0, omega arith)

-- a change of rows alone
grows-rows : (t : Table) (phase : Phase) (table after : Table) → after.boot ≡ table.boot → table.drawn ≤ after.drawn
    → IsNoEarlier t (standing_in phase table) → IsNoEarlier t (standing_in phase after)
grows-rows t serving table after same more h = no-earlier t table after h (inr (sym same, more))
grows-rows t (recovering until heard last) table after same more h = h

grows-receive : (s : Server) (sender next : ℕ) (d : Datagram) → IsNoEarlier (standing s) (standing (receive s sender next d).server)
unfolding with_rows after_draw
grows-receive s sender next d = server-moves s sender next d (λ kept phase table. IsNoEarlier (standing s) (standing_in phase table)) (record {
  stays = same-table (standing s);
  decided = λ kept phase table who line e f q. q;
  attaching = λ who later. rows _ refl (omega arith);
  vacating = λ who file tag current. rows _ refl (omega arith);
  marking = λ file host access serves. rows _ refl (omega arith);
  marking_waiting = λ xid r who f want e wants asking own room. rows _ refl (omega arith);
  granting = λ xid r who f want row term e wants asking c g. rows _ refl (omega arith);
  creating = λ name blocks serves can. same-table (standing s);
  changing = λ who f file serves current found same c. same-table (standing s);
  storing = λ who f file base row serves current found same can. rows _ refl (omega arith);
  storing_recovering =
      λ f file until heard last p found same. subst (λ n. IsNoEarlier (standing_in n s.table) (last_table last)) (sym p) (same-table (last_table last));
  removing = λ who f serves current found c. rows _ refl (omega arith);
})
  where
    rows : (after : Table) → after.boot ≡ s.table.boot → s.table.drawn ≤ after.drawn → IsNoEarlier (standing s) (standing_in s.phase after)
    rows after same more = grows-rows (standing s) s.phase s.table after same more (same-table (standing s))

opens-later : (s : Server) (until heard : ℕ) (last : Option Table) → s.phase ≡ recovering until heard last → BootsFitOf s → IsNoEarlier (standing s) s.table
opens-later s until heard last p b =
    let r : RecoversBoot s.kept.boot s.kept.opened s.table last = subst (λ p. BootsFit s.kept.boot s.kept.opened p s.table) p b in
    subst (λ n. IsNoEarlier (standing_in n s.table) s.table) (sym p)
    (let a = r.opened_before in let c = r.table_boot in let e = r.last_boot in inl (omega arith))

grows-tick : (s : Server) (now : ℕ) → BootsFitOf s → IsNoEarlier (standing s) (standing (tick s now).server)
unfolding with_rows
grows-tick s now b = tick-moves s now (λ kept phase table. IsNoEarlier (standing s) (standing_in phase table)) (record {
  waits = λ until heard last p goes_on. same-table (standing s);
  opening = λ until heard last p over. opens-later s until heard last p b;
  ends_reading = λ p. grows-rows (standing s) s.phase s.table _ refl (omega arith) (same-table (standing s));
  ending_writing = λ row p due. grows-rows (standing s) s.phase s.table _ refl (omega arith) (same-table (standing s));
})

grows-boot : (kept : Kept) (longest now : ℕ) (last : Option Table) → kept.opened ≤ kept.boot → (last_table last).boot ≡ kept.opened
    → IsNoEarlier (last_table last) (standing (boot kept longest now last))
unfolding boot empty_table
grows-boot kept longest now last before same = by (kept.opened == 0)
  where
    by : (b : Bool) → IsNoEarlier (last_table last)
        (standing_in (if b then serving else recovering (now + kept.longest + 8) now last) (empty_table (kept.boot + 1)))
    by true = inl (omega arith)
    by false = same-table (last_table last)

grows-crash : (s : Server) (longest : ℕ) → BootsFitOf s → IsNoEarlier (standing s) (standing (crash s longest).server)
unfolding crash
grows-crash s longest b = grows-boot s.kept longest s.now (last_in s.phase s.table) (opened-before _ _ s.phase s.table b) (standing-boot _ _ s.phase s.table b)

-- ---- each event does to the server one of these

-- what holds of a server after each of its steps, and where it takes none
pub record Moves (s : Server) (Q : Server → Type 0) : Type 0 where
  pub stays : Q s
  pub hears : (sender next : ℕ) (d : Datagram) → Q (receive s sender next d).server
  pub ticks : Q (tick s (s.now + 1)).server
  pub crashes : (longest : ℕ) → Q (crash s longest).server

after-client : (w : World) (host : ℕ) (f : Client → ClientStep) (o : Option Client) → (at_client w host f o).server ≡ w.server
unfolding after_client
after-client w host f None = refl
after-client w host f (Some c) = refl

after-heard : (w : World) (host : ℕ) (o : Option ClientStep) → (after_hearing w host o).server ≡ w.server
unfolding after_client
after-heard w host None = refl
after-heard w host (Some t) = refl

after-told : (w : World) (k host : ℕ) (m : Message) (o : Option Client) → (deliver_to_client w k host m o).server ≡ w.server
after-told w k host m None = refl
after-told w k host m (Some c) = after-heard w host (hear c k m)

delivers : (w : World) (k : ℕ) (p : Packet) (to : Party) (Q : Server → Type 0) → Moves w.server Q → Q (deliver_to w k p to).server
unfolding after_server
delivers w k p Party.Server Q m = m.hears (sending_host p.sender) (length w.packets) (datagram_of p.message)
delivers w k p (Party.Client host) Q m = subst Q (sym (after-told w k host p.message (slice_get w.clients host))) m.stays

delivers-some : (w : World) (k : ℕ) (o : Option Packet) (Q : Server → Type 0) → Moves w.server Q → Q (deliver w k o).server
delivers-some w k None Q m = m.stays
delivers-some w k (Some p) Q m = delivers w k p p.to Q m

pub steps-server : (w : World) (e : Event) (Q : Server → Type 0) → Moves w.server Q → Q (step w e).server
unfolding after_server
steps-server w (Event.Call host op) Q m = subst Q (sym (after-client w host (λ c. client_call c op) (slice_get w.clients host))) m.stays
steps-server w (Event.Deliver k) Q m = delivers-some w k (slice_get w.packets k) Q m
steps-server w Event.ServerTick Q m = m.ticks
steps-server w (Event.ClientTick host) Q m = subst Q (sym (after-client w host (λ c. client_tick c (c.now + 1)) (slice_get w.clients host))) m.stays
steps-server w (Event.Restart host) Q m = subst Q (sym (after-client w host restart (slice_get w.clients host))) m.stays
steps-server w (Event.Crash longest) Q m = m.crashes longest

start-boots : (head : Head) → BootsFitOf (start head).server
unfolding start empty_table
start-boots head = boots-boot (first_kept head) head.longest 0 None (omega arith) refl

run-boots : (head : Head) (events : List Event) → BootsFitOf (run head events).server
run-boots head [] = start-boots head
run-boots head (e ∷ earlier) =
    let s : Server = (run head earlier).server in
    let b = run-boots head earlier in
    steps-server (run head earlier) e BootsFitOf (record {
      stays = b;
      hears = λ sender next d. boots-receive s sender next d b;
      ticks = boots-tick s (s.now + 1) b;
      crashes = λ longest. boots-crash s longest b;
    })

grows-step : (head : Head) (e : Event) (events : List Event) → IsNoEarlier (standing (run head events).server) (standing (run head (e ∷ events)).server)
grows-step head e events =
    let s : Server = (run head events).server in
    let b = run-boots head events in
    steps-server (run head events) e (λ t. IsNoEarlier (standing s) (standing t)) (record {
      stays = same-table (standing s);
      hears = λ sender next d. grows-receive s sender next d;
      ticks = grows-tick s (s.now + 1) b;
      crashes = λ longest. grows-crash s longest b;
    })

pub standing-grows : StandingTableGrows
standing-grows head [] events = same-table (standing (run head events).server)
standing-grows head (e ∷ later) events =
    no-earlier (standing (run head events).server) (standing (run head (later ++ events)).server) (standing (run head (e ∷ later ++ events)).server)
    (standing-grows head later events) (grows-step head e (later ++ events))

-- ---- what was drawn is below what is drawn next

pub drawn-later : (a b : Table) (tag : Tag) → IsNoEarlier a b → IsUpTo a tag → IsUpTo b tag
drawn-later a b tag (inl x) (inl y) = inl (omega arith)
drawn-later a b tag (inl x) (inr y) = let e = y.0 in inl (omega arith)
drawn-later a b tag (inr x) (inl y) = let e = x.0 in inl (omega arith)
drawn-later a b tag (inr x) (inr y) = let d = x.1 in let e = y.1 in inr (y.0 ∙ x.0, omega arith)

below-next : (table : Table) (tag : Tag) → IsUpTo table tag → tag_below tag (next_tag table) ≡ true
below-next table tag h = above table.boot table.drawn tag h
  where
    above : (boot drawn : ℕ) (v : Tag) → (v.boot < boot) ⊎ ((v.boot ≡ boot) × (v.number ≤ drawn))
        → tag_below v (record { boot = boot; number = drawn + 1 }) ≡ true
    above boot drawn v (inl e) = grind (arith, nat_tests)
    above boot drawn v (inr e) = let a = e.0 in let b = e.1 in grind (arith, nat_tests)

-- the server's own table is no earlier than the standing one
own-no-earlier : (boot opened : ℕ) (phase : Phase) (table : Table) → BootsFit boot opened phase table → IsNoEarlier (standing_in phase table) table
own-no-earlier boot opened serving table b = same-table table
own-no-earlier boot opened (recovering until heard last) table b = let a = b.opened_before in let c = b.table_boot in let e = b.last_boot in inl (omega arith)

pub below-later : (head : Head) (events : List Event) (tag : Tag) → IsUpTo (standing (run head events).server) tag → (later : List Event)
    → tag_below tag (next_tag (run head (later ++ events)).server.table) ≡ true
below-later head events tag h later =
    let s : Server = (run head (later ++ events)).server in
    below-next s.table tag
    (drawn-later (standing s) s.table tag (own-no-earlier s.kept.boot s.kept.opened s.phase s.table (run-boots head (later ++ events)))
    (drawn-later (standing (run head events).server) (standing s) tag (standing-grows head later events) h))
