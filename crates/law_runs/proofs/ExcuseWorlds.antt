-- In every run the delayed writes of each client are bound or excused, and each loss is cut off.
use Rattle.std.proofs.Common.{◌≡◌, ℕ, ◌+◌, List, [], ◌++◌, Some, None, length, refl, sym, subst, ap, ◌∙◌, arith, inl, inr}
use Rattle.std.specs.Prelude.{slice_get}
use Rattle.nq_base.specs.declared.Event.{Event}
use Rattle.nq_base.specs.declared.Party.{Party}
use Rattle.nq_base.specs.declared.Push.{Push}
use Rattle.nq_base.specs.declared.Who.{Who}
use Rattle.walk_files.proofs.ChainFacts.{ChainFits}
use Rattle.walk_steps.proofs.ClientMoves.{none-some}
use Rattle.walk_files.proofs.BoundOrExcused.{ClientExcused, begun-holding, ended-excused, other-excused}
use Rattle.walk_files.proofs.RunFacts.{live-bound, hears-fit}
use Rattle.walk_files.proofs.ServerExcuses.{receive-excused, tick-excused, crash-excused}
use Rattle.walk_files.proofs.Cuts.{ArePlain, AreCut, cut-more}
use Rattle.walk_files.proofs.Waiting.{IsWaiting}
use Rattle.walk_files.proofs.HoldingCalls.{call-keeps, tick-keeps, hear-keeps, restart-keeps}
use Rattle.walk_files.proofs.HoldingSteps.{Between}
use Rattle.walk_files.proofs.LogRuns.{Alone as ServerAlone, LogRuns, runs-start, runs-receive, runs-tick, runs-crash}
use Rattle.walk_files.proofs.ServerPlain.{receive-plain, tick-plain, crash-plain}
use Rattle.walk_steps.proofs.Runs.{Runs, Served}
use Rattle.walk_steps.proofs.LeaseIntervals.{run-runs, hearing}
use Rattle.walk_steps.proofs.ServerHears.{hears-effect}
use Rattle.nq_model.specs.laws.Bounds.{KeepsBounds}
use Rattle.nq_model.specs.protocol.Client.{Client, ClientStep, begun}
use Rattle.nq_model.specs.protocol.ClientStep.{client_call, client_tick, restart, starts, fresh_client, attached_client}
use Rattle.nq_model.specs.protocol.Hear.{hear}
use Rattle.nq_model.specs.protocol.Kept.{host_row}
use Rattle.nq_model.specs.protocol.Message.{Packet, datagram_of}
use Rattle.nq_model.specs.protocol.Server.{Server, ServerStep}
use Rattle.nq_model.specs.protocol.ServerStep.{receive, tick, crash}
use Rattle.nq_model.specs.protocol.Skew.{IsWithinSkew}
use Rattle.nq_model.specs.protocol.World.{Head, World, after_server, after_client, sending_host, start, run}
use Rattle.walk_steps.proofs.RunCases.{Keeps, run-keeps, OfClients, clients-after}
use Rattle.walk_steps.proofs.ClientSteps.{KnowsOf}
use Rattle.walk_steps.proofs.Packets.{In, in-get, Told}
use Rattle.walk_steps.proofs.WorldClocks.{StillIf, call-still, tick-still, hear-still}
use Rattle.walk_steps.proofs.Worlds.{IsAt, Holds, run-holds, to-told, first-client}
use Rattle.walk_steps.proofs.LogFits.{timed-append}
use Rattle.walk_steps.proofs.LogMoves.{timed}

-- chained leases know their files in every run
abbrev pub ChainsInEveryRun : Type 0
ChainsInEveryRun =
    (most : ℕ) (head : Head) (events : List Event) (host : ℕ) (c : Client)
    → KeepsBounds most head events
    → IsWithinSkew head.hosts most events
    → slice_get (run head events).clients host ≡ Some c
    → ChainFits (run head events).server c (run head events).packets

-- what is kept
pub record Excused (w : World) : Type 0 where
  pub booted : ℕ
  pub logs : LogRuns booted w.server (timed w.journal)
  pub cut : AreCut w.journal
  pub clients : OfClients (λ host c w. ClientExcused w.server c w.journal) w

-- ---- a step of a client

-- the step of a host's client keeps it
client-excused : (w : World) (host : ℕ) (t : ClientStep) → t.client.who.host ≡ host
    → ((other : ℕ) (c : Client) → slice_get w.clients other ≡ Some c → c.who.host ≡ other) → Between w.server w.journal t → Excused w
    → Excused (after_client w host t)
unfolding after_client
client-excused w host t here there b h = record {
  booted = h.booted;
  logs = subst (LogRuns h.booted w.server) (sym (timed-append t.entries w.journal ∙ ap (λ es. es ++ timed w.journal) b.untimed)) h.logs;
  cut = b.cut;
  clients =
      clients-after (λ host c w. ClientExcused w.server c w.journal) w host t (ended-excused w.server w.journal t b)
      (λ other c apart is. other-excused w.server t.client.who c t.entries w.journal (λ same. apart (sym (there other c is) ∙ same ∙ here)) b.own
      (h.clients other c is));
}

-- ---- a step of the server

server-logs : (w : World) (t : ServerStep) (booted : ℕ) → LogRuns booted t.server (timed t.entries ++ timed w.journal)
    → LogRuns booted t.server (timed (t.entries ++ w.journal))
server-logs w t booted l = subst (LogRuns booted t.server) (sym (timed-append t.entries w.journal)) l

-- ---- each event

module _ (chains : ChainsInEveryRun) (most : ℕ) (head : Head) where
  module _ (events : List Event) (bounds : KeepsBounds most head events) (within : IsWithinSkew head.hosts most events) where
    abbrev w : World
    w = run head events

    held : Holds w
    held = run-holds head events

    runs : Runs head.hosts most w events
    runs = run-runs most head events bounds within

    alone : ServerAlone most w.server
    alone = let s : Served most w.server = runs.served in record { boots = s.boots; stands = s.stood; incs = s.incs; terms = s.terms }

    module _ (host : ℕ) (c : Client) (is : slice_get w.clients host ≡ Some c) (h : Excused w) where
      at : IsAt host c w.packets
      at = held.clients host c is

      own-at : IsAt c.who.host c w.packets
      own-at = subst (λ n. IsAt n c w.packets) (sym at.here) at

      knows : KnowsOf (host_row w.server.kept host) w.server events c w.packets
      knows = runs.known.clients host c is

      own-knows : KnowsOf (host_row w.server.kept c.who.host) w.server events c w.packets
      own-knows = subst (λ n. KnowsOf (host_row w.server.kept n) w.server events c w.packets) (sym at.here) knows

      chained : ChainFits w.server c w.packets
      chained = chains most head events host c bounds within is

      mine : ClientExcused w.server c w.journal
      mine = h.clients host c is

      begins : Between w.server w.journal (begun c)
      begins = begun-holding w.server c w.journal (live-bound w.server events host c w.packets at knows) chained.line.drawn h.cut mine

      hears : (k : ℕ) (p : Packet) (t : ClientStep) → slice_get w.packets k ≡ Some p → p.to ≡ Party.Client host → hear c k p.message ≡ Some t
          → Between w.server w.journal t
      hears k p t sent to said =
          let told : Told w.packets host p.message = to-told w.packets p host (held.sent p (in-get w.packets k p sent)) to (in-get w.packets k p sent) in
          hear-keeps w.server w.journal c k p.message t said (λ ticket asked. (at.alone.asking.ticketed ticket asked).fits)
          (λ xid r ticket says asked same inc counts.
          hears-fit w.server events host c w.packets at knows chained alone.boots alone.stands xid r ticket
          (subst (Told w.packets host) says told) asked same inc
          (λ q pushes n seq line decided not_done b. mine.refused ticket q n asked pushes seq line decided not_done b) w.journal)
          begins

      restarts : Between w.server w.journal (restart c)
      restarts = restart-keeps w.server w.journal c own-knows.lined.past mine.past h.cut

      received : (k : ℕ) (p : Packet) → slice_get w.packets k ≡ Some p → p.to ≡ Party.Server
          → ClientExcused (receive w.server (sending_host p.sender) (length w.packets) (datagram_of p.message)).server c
          ((receive w.server (sending_host p.sender) (length w.packets) (datagram_of p.message)).entries ++ w.journal)
      received k p sent to =
          let there : In w.packets p = in-get w.packets k p sent in
          let hear = hearing head.hosts most w events p host c is there to held runs in
          receive-excused w.server events c w.packets w.journal own-at own-knows chained alone.boots alone.stands mine (sending_host p.sender)
          (length w.packets) (datagram_of p.message) hear.was_sent runs.served.lines
          (hears-effect w.packets w.server most (sending_host p.sender) (length w.packets) (datagram_of p.message) events c.who c.now c.xid c.attached
          c.ticket c.leases c.notices hear)

      ticked : ClientExcused (tick w.server (w.server.now + 1)).server c ((tick w.server (w.server.now + 1)).entries ++ w.journal)
      ticked =
          tick-excused w.server events c w.packets w.journal own-at own-knows chained alone.boots alone.stands mine most h.booted (w.server.now + 1)
          alone h.logs

      crashed : (longest : ℕ) → ClientExcused (crash w.server longest).server c ((crash w.server longest).entries ++ w.journal)
      crashed longest = crash-excused w.server events c w.packets w.journal own-at own-knows chained alone.boots alone.stands mine longest runs.served.opened

    there : (other : ℕ) (c : Client) → slice_get w.clients other ≡ Some c → c.who.host ≡ other
    there other c is = (held.clients other c is).here

    -- after a step of the server
    server-step : (t : ServerStep) (booted : ℕ) → LogRuns booted t.server (timed t.entries ++ timed w.journal) → ArePlain t.entries
        → ((host : ℕ) (c : Client) → slice_get w.clients host ≡ Some c → ClientExcused t.server c (t.entries ++ w.journal)) → Excused w
        → Excused (after_server w t)
    unfolding after_server
    server-step t booted logs plain clients h = record {
      booted = booted;
      logs = server-logs w t booted logs;
      cut = cut-more t.entries w.journal plain h.cut;
      clients = clients;
    }

  restart-host : (c : Client) → (restart c).client.who.host ≡ c.who.host
  unfolding starts fresh_client
  restart-host c = refl

  -- a client that is attached from the start has no delayed writes
  first-excused : (s : Server) (who : Who) (term : ℕ) → ClientExcused s (attached_client who term 0) []
  unfolding attached_client fresh_client
  first-excused s who term = record {
    waiting = λ p waits. absurd (none p waits);
    blocks = λ p l waits. absurd (none p waits);
    numbers = λ p waits. absurd (none p waits);
    past = λ e bad. absurd bad;
    refused = λ t p n asks. none-some t asks;
  } where
    none : (p : Push) → IsWaiting [] None p → ⊥
    none p (inl bad) = bad
    none p (inr bad) = none-some p bad

  excused-starts : Excused (start head)
  unfolding start
  excused-starts = record {
    booted = 0;
    logs = runs-start head;
    cut = tt;
    clients =
        λ host c is. subst (λ z. ClientExcused (start head).server z []) (sym (first-client head.term 0 head.hosts host c is))
        (first-excused (start head).server _ head.term);
  }

  excused-keeps : Keeps most head Excused
  excused-keeps = record {
    starts = λ bounds. excused-starts;
    called = λ events host c op during is g.
        let a = at events during.bounds during.within host c is g in
        client-excused (run head events) host (client_call c op) (ap (λ z. z.host) (call-still host c (run head events).packets op a).same ∙ a.here)
        (there events during.bounds during.within)
        (call-keeps (run head events).server (run head events).journal c op (begins events during.bounds during.within host c is g)) g;
    ticked = λ events host c during is g.
        let a = at events during.bounds during.within host c is g in
        client-excused (run head events) host (client_tick c (c.now + 1))
        (ap (λ z. z.host) (tick-still host c (run head events).packets a).same ∙ a.here) (there events during.bounds during.within)
        (tick-keeps (run head events).server (run head events).journal c (c.now + 1) (omega arith) (begins events during.bounds during.within host c is g)) g;
    restarted = λ events host c during is g.
        let a = at events during.bounds during.within host c is g in
        client-excused (run head events) host (restart c) (restart-host c ∙ a.here) (there events during.bounds during.within)
        (restarts events during.bounds during.within host c is g) g;
    heard = λ events k p host c t during sent to is hears-it g.
        let a = at events during.bounds during.within host c is g in
        let told : Told (run head events).packets host p.message = to-told (run head events).packets p host
        ((run-holds head events).sent p (in-get (run head events).packets k p sent)) to (in-get (run head events).packets k p sent) in
        let still : StillIf c (Some t) = subst (StillIf c) hears-it (hear-still host c (run head events).packets k p.message told a) in
        client-excused (run head events) host t (ap (λ z. z.host) still.same ∙ a.here) (there events during.bounds during.within)
        (hears events during.bounds during.within host c is g k p t sent to hears-it) g;
    received = λ events k p during sent to g.
        let s : Server = (run head events).server in
        let sender : ℕ = sending_host p.sender in
        let next : ℕ = length (run head events).packets in
        server-step events during.bounds during.within (receive s sender next (datagram_of p.message)) g.booted
        (runs-receive most g.booted s sender next (datagram_of p.message) (timed (run head events).journal) (alone events during.bounds during.within) g.logs)
        (receive-plain s sender next (datagram_of p.message))
        (λ host c is. received events during.bounds during.within host c is g k p sent to) g;
    server_ticked = λ events during g.
        let s : Server = (run head events).server in
        server-step events during.bounds during.within (tick s (s.now + 1)) g.booted
        (runs-tick most g.booted s (s.now + 1) (timed (run head events).journal) (omega arith) (alone events during.bounds during.within) g.logs)
        (tick-plain s (s.now + 1))
        (λ host c is. ticked events during.bounds during.within host c is g) g;
    crashed = λ events longest during long short g.
        let s : Server = (run head events).server in
        server-step events during.bounds during.within (crash s longest) s.now
        (runs-crash most g.booted s longest (timed (run head events).journal) (alone events during.bounds during.within) g.logs)
        (crash-plain s longest)
        (λ host c is. crashed events during.bounds during.within host c is g longest) g;
  }

  -- in every run
  pub run-excused : (events : List Event) → KeepsBounds most head events → IsWithinSkew head.hosts most events → Excused (run head events)
  run-excused events bounds within = run-keeps excused-keeps events bounds within
