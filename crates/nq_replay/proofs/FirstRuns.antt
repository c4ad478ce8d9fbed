-- In every run of events that version 1 has, the journal has entries of version 1 alone.
use Rattle.std.proofs.Common.{◌≡◌, ℕ, ◌+◌, ◌==◌, ◌&&◌, Bool, true, false, List, [], ◌∷◌, Option, Some, None, if◌then◌else◌, length, refl, inr, ◌∙◌}
use Rattle.std.specs.Prelude.{slice_get}
use Rattle.std.specs.List.{AllByRecursion}
use Rattle.std.specs.Option.{option_or}
use Rattle.nq_base.specs.declared.Entry.{Entry}
use Rattle.nq_base.specs.declared.Event.{Event}
use Rattle.nq_base.specs.declared.Party.{Party}
use Rattle.nq_base.specs.declared.Told.{Told}
use Rattle.nq_base.specs.declared.Who.{Who}
use Rattle.law_runs.proofs.OrderedCalls.{ordered-in-every-run}
use Rattle.nq_replay.proofs.Tells.{AllTell, Tells, tell-more, server-tells, client-tells}
use Rattle.nq_replay.specs.Versions.{FirstTellsItsRuns, IsOfFirst}
use Rattle.nq_script.specs.Forms.{HasTold}
use Rattle.nq_journal.specs.Text.{Has}
use Rattle.nq_model.specs.protocol.Client.{Client, ClientStep, Ticket}
use Rattle.nq_model.specs.protocol.ClientStep.{client_call, client_tick, restart}
use Rattle.nq_model.specs.protocol.Hear.{hear}
use Rattle.nq_model.specs.laws.Journal.{AtEachPlace, Each, call_of, told_by}
use Rattle.nq_model.specs.protocol.Kept.{Kept, find_file}
use Rattle.nq_model.specs.protocol.Message.{Datagram, Message, Packet, datagram_of}
use Rattle.nq_model.specs.laws.Ordered.{IsInOrder, Resizes}
use Rattle.nq_model.specs.protocol.Server.{Server, ServerStep}
use Rattle.nq_model.specs.protocol.ServerStep.{boot, booted, crash, receive, tick}
use Rattle.nq_model.specs.protocol.Table.{same_who}
use Rattle.nq_model.specs.protocol.World.{Head, World, after_client, after_hearing, after_server, at_client, deliver, deliver_to, deliver_to_client, run}
use Rattle.nq_model.specs.protocol.World.{sending_host, start, step}
use Rattle.walk_steps.proofs.ClientFacts.{fits_job}
use Rattle.walk_steps.proofs.ClientEntries.{AnyCall, AnyLength, any-going, any-lent, call-keeps, tick-keeps as client-tick-keeps, hear-keeps, restart-keeps}
use Rattle.walk_steps.proofs.ServerEntries.{receive-each, tick-each}
use Rattle.walk_steps.proofs.Worlds.{Holds, run-holds}
use Rattle.walk_steps.proofs.ServerMoves.{phase-moves, receive-keeps, server-moves, tick-keeps, tick-moves}
use Rattle.walk_steps.proofs.ServerNumbers.{fence-longest}

-- ---- a step

-- the journal tells so, and the longest terms of the server are 60
record Good (w : World) : Type 0 where
  journal : AllTell w.journal
  kept : w.server.kept.longest ≡ 60
  longest : w.server.longest ≡ 60

kept-stays : (s : Server) (sender next : ℕ) (d : Datagram) → (receive s sender next d).server.kept.longest ≡ s.kept.longest
kept-stays s sender next d =
    server-moves s sender next d (λ kept phase table. kept.longest ≡ s.kept.longest)
    (phase-moves s d (λ longest phase. longest ≡ s.kept.longest) refl (λ until heard last p. refl))

booted-longest : (kept : Kept) (longest : ℕ) → kept.longest ≡ 60 → longest ≡ 60 → (booted kept longest).longest ≡ 60
booted-longest kept longest k l = by (kept.opened == 0)
  where
    by : (b : Bool)
        → (if b then record kept { boot = kept.boot + 1; opened = kept.boot + 1; longest = longest } else record kept { boot = kept.boot + 1 }).longest ≡ 60
    by true = l
    by false = k

module _ (w : World) (g : Good w) where
  client-step : (host : ℕ) (t : ClientStep) → AllTell t.entries → Good (after_client w host t)
  unfolding after_client
  client-step host t tells = record { journal = tell-more t.entries w.journal tells g.journal; kept = g.kept; longest = g.longest }

  server-step : (t : ServerStep) → AllTell t.entries → t.server.kept.longest ≡ 60 → t.server.longest ≡ 60 → Good (after_server w t)
  unfolding after_server
  server-step t tells kept longest = record { journal = tell-more t.entries w.journal tells g.journal; kept = kept; longest = longest }

  at-client-good : (host : ℕ) (f : Client → ClientStep) (o : Option Client) → ((c : Client) → AllTell (f c).entries) → Good (at_client w host f o)
  at-client-good host f None tells = g
  at-client-good host f (Some c) tells = client-step host (f c) (tells c)

  heard : (host : ℕ) (o : Option ClientStep) → ((t : ClientStep) → o ≡ Some t → AllTell t.entries) → Good (after_hearing w host o)
  heard host None tells = g
  heard host (Some t) tells = client-step host t (tells t refl)

  fits : Holds w → (host : ℕ) (c : Client) → slice_get w.clients host ≡ Some c → (ticket : Ticket) → c.ticket ≡ Some ticket
      → fits_job ticket.job ticket.request ≡ true
  fits h host c is ticket e = ((h.clients host c is).alone.asking.ticketed ticket e).fits

  to-client : Holds w → (k host : ℕ) (m : Message) (o : Option Client) → slice_get w.clients host ≡ o → Good (deliver_to_client w k host m o)
  to-client h k host m None is = g
  to-client h k host m (Some c) is =
      heard host (hear c k m) (λ t hears. (hear-keeps AnyCall AnyLength AllTell client-tells c k m t hears (fits h host c is) tt (any-going c.who c.call)
      (any-lent _ c.leases) (λ xid r ticket file g is_reply asked same inc by. tt)
      (λ xid r ticket u answer is_reply asked same inc called job named. (tt, tt))).0)

  to-server : (sender next : ℕ) (d : Datagram) → Good (after_server w (receive w.server sender next d))
  to-server sender next d =
      server-step (receive w.server sender next d) (receive-each Tells server-tells w.server sender next d)
      (kept-stays w.server sender next d ∙ g.kept)
      ((receive-keeps w.server sender next d).0 ∙ g.longest)

  delivered : Holds w → (k : ℕ) (o : Option Packet) → Good (deliver w k o)
  delivered h k None = g
  delivered h k (Some p) = by p.to
    where
      by : (to : Party) → Good (deliver_to w k p to)
      by Party.Server = to-server (sending_host p.sender) (length w.packets) (datagram_of p.message)
      by (Party.Client host) = to-client h k host p.message (slice_get w.clients host) refl

  ticked : (now : ℕ) → Good (after_server w (tick w.server now))
  ticked now =
      server-step (tick w.server now) (tick-each Tells server-tells w.server now)
      (tick-moves w.server now (λ kept phase table. kept.longest ≡ 60) (record {
        waits = λ until heard_at last p on. g.kept;
        opening = λ until heard_at last p over. g.longest;
        ends_reading = λ p. g.kept;
        ending_writing = λ row p due. fence-longest w.server.kept (find_file row.file w.server.kept.files) ∙ g.kept;
      }))
      ((tick-keeps w.server now).0 ∙ g.longest)

  crashed : (longest : ℕ) → longest ≡ 60 → Good (after_server w (crash w.server longest))
  unfolding crash boot
  crashed longest is =
      let long : (booted w.server.kept longest).longest ≡ 60 = booted-longest w.server.kept longest g.kept is in
      server-step (crash w.server longest) (long, tt) long is

-- ---- a run

starts : (head : Head) → head.longest ≡ 60 → Good (start head)
unfolding start boot
starts head is = record { journal = tt; kept = is; longest = is }

stepped : (w : World) (e : Event) → Holds w → IsOfFirst e → Good w → Good (step w e)
stepped w (Event.Call host op) h first g =
    at-client-good w g host (λ c. client_call c op) (slice_get w.clients host) (λ c. (call-keeps AnyCall AnyLength AllTell client-tells c op
    (first, tt) (any-going c.who c.call) tt (any-lent _ c.leases)).0)
stepped w (Event.Deliver k) h first g = delivered w g h k (slice_get w.packets k)
stepped w Event.ServerTick h first g = ticked w g (w.server.now + 1)
stepped w (Event.ClientTick host) h first g =
    at-client-good w g host (λ c. client_tick c (c.now + 1)) (slice_get w.clients host)
    (λ c. (client-tick-keeps AnyCall AnyLength AllTell client-tells c (c.now + 1) tt (any-going c.who c.call) (any-lent _ c.leases)).0)
stepped w (Event.Restart host) h first g = at-client-good w g host restart (slice_get w.clients host)
    (λ c. (restart-keeps AnyCall AnyLength AllTell client-tells c (tt, tt)).0)
stepped w (Event.Crash longest) h first g = crashed w g longest first

runs : (head : Head) (events : List Event) → head.longest ≡ 60 → AllByRecursion IsOfFirst events → Good (run head events)
runs head [] is firsts = starts head is
runs head (e ∷ events) is firsts = stepped (run head events) e (run-holds head events) firsts.0 (runs head events is firsts.1)

-- ---- changed lengths

-- a call that is told, if one is, is one that version 1 has
abbrev IsFirstTold : Option Told → Type 0
IsFirstTold None = Unit {0}
IsFirstTold (Some told) = HasTold 1 told

either-told : (a b : Option Told) → IsFirstTold a → IsFirstTold b → IsFirstTold (option_or a b)
either-told None b h k = k
either-told (Some told) b h k = h

entry-told : (e : Entry) (who : Who) (q : ℕ) → Tells e → IsFirstTold (told_by e who q)
entry-told (Entry.C by n told) who q h = test (same_who by who && (n == q))
  where
    test : (b : Bool) → IsFirstTold (if b then Some told else None)
    test true = h
    test false = tt
entry-told other who q h = tt

call-told : (journal : List Entry) (who : Who) (q : ℕ) → AllTell journal → IsFirstTold (call_of journal who q)
call-told [] who q h = tt
call-told (e ∷ journal) who q h = either-told (call_of journal who q) (told_by e who q) (call-told journal who q h.1) (entry-told e who q h.0)

no-resize : (file to : ℕ) (told : Option Told) → IsFirstTold told → Resizes file to told → ⊥
no-resize file to (Some (Told.Resize f blocks)) h r = absurd (cc)
no-resize file to (Some (Told.Remove f)) h r = absurd (cc)
no-resize file to other h r = r

-- an ordered journal that tells so has entries of version 1 alone
all-have : (whole after journal : List Entry) → AtEachPlace (IsInOrder whole) after journal → AllTell journal → Each (Has 1) journal
all-have whole after [] ordered tells = tt
all-have whole after (e ∷ journal) ordered tells = (here e ordered.0 tells.0, all-have whole (e ∷ after) journal ordered.1 tells.1)
  where
    here : (x : Entry) → IsInOrder whole after x journal → Tells x → Has 1 x
    here (Entry.C who q told) order h = h
    here (Entry.Z who q file from to) order h = absurd (no-resize file to (call_of journal who q) (call-told journal who q tells.1) order.call)
    here (Entry.X boot now longest) order h = inr h
    here other order h = tt

pub first-tells : FirstTellsItsRuns
first-tells most head events bounds within is firsts =
    let journal = (run head events).journal in
    all-have journal [] journal (ordered-in-every-run most head events bounds within) (runs head events is firsts).journal
