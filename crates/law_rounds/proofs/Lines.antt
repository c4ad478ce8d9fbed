-- In every run: the line of a host and the request under way of its client.
use Rattle.std.proofs.Common.{◌≡◌, ◌≤◌, ◌<◌, ℕ, ◌+◌, ◌==◌, true, List, Some, length, refl, sym, subst, ap, ◌∙◌, arith, inl, inr}
use Rattle.std.specs.Prelude.{slice_get}
use Rattle.nq_base.specs.declared.Event.{Event}
use Rattle.nq_base.specs.declared.HostRow.{HostRow}
use Rattle.nq_base.specs.declared.Party.{Party}
use Rattle.nq_base.specs.declared.Who.{Who}
use Rattle.nq_model.specs.protocol.Client.{Client, ClientStep, Ticket}
use Rattle.nq_model.specs.protocol.ClientStep.{client_call, client_tick, restart, starts, fresh_client, attached_client}
use Rattle.nq_model.specs.protocol.Kept.{host_row}
use Rattle.nq_model.specs.protocol.Message.{Packet, datagram_of, sequence_of}
use Rattle.nq_model.specs.protocol.Server.{Server, ServerStep}
use Rattle.nq_model.specs.protocol.ServerStep.{receive, tick, crash, boot, row_of_attach}
use Rattle.nq_model.specs.protocol.Skew.{IsWithinSkew}
use Rattle.nq_model.specs.protocol.World.{Head, World, after_client, after_server, sending_host, start, run}
use Rattle.nq_model.specs.laws.Bounds.{KeepsBounds}
use Rattle.walk_steps.proofs.LeaseIntervals.{run-runs}
use Rattle.walk_steps.proofs.WorldSequences.{run-draws}
use Rattle.walk_steps.proofs.ClientMoves.{some-same, none-some}
use Rattle.walk_steps.proofs.KnownWorlds.{first-line, first-there}
use Rattle.walk_steps.proofs.TickLines.{tick-line}
use Rattle.walk_steps.proofs.HostLine.{IsSettled}
use Rattle.walk_steps.proofs.Packets.{In, in-get, Asked}
use Rattle.walk_steps.proofs.RunCases.{Keeps, OfClients, clients-after, run-keeps}
use Rattle.walk_steps.proofs.Worlds.{first-client, to-server, to-told, run-holds}
use Rattle.walk_steps.proofs.KeptChanges.{booted-line}
use Rattle.law_rounds.proofs.ClientTickets.{TicketIs, kept, resent, fresh, LastDrawn, Renewed, call-renews, tick-renews, hear-renews}
use Rattle.law_rounds.proofs.Fair.{fair, fair-done}
use Rattle.law_rounds.proofs.LineSteps.{LineGoes, line_same, line_attached, line_decided, line-goes}

-- the sequences of a client: the kept one was drawn, and where it is that of the request under way, so is the verdict
pub record Lined (c : Client) (line : HostRow) : Type 0 where
  pub positive : 1 ≤ c.seq
  pub drawn : LastDrawn c
  pub below : line.inc ≡ c.who.inc → line.seq < c.seq
  pub verdict : (t : Ticket) (n : ℕ) → c.ticket ≡ Some t → sequence_of t.request ≡ Some n → line.inc ≡ c.who.inc → line.seq ≡ n
      → fair t.request line.verdict ≡ true

-- ---- a step of a client

stepped : (c : Client) (now : ℕ) (t : ClientStep) (line : HostRow) → Renewed c now c.ticket t → Lined c line → Lined t.client line
stepped c now t line g l = record {
  positive = let up = g.grows in let one = l.positive in omega arith;
  drawn = g.last;
  below = λ same. let up = g.grows in let low = l.below (same ∙ ap (λ (w : Who). w.inc) g.same) in omega arith;
  verdict = λ v n has sq same is. by v n sq (same ∙ ap (λ (w : Who). w.inc) g.same) is (g.ticket v has);
}
  where
    by : (v : Ticket) (n : ℕ) → sequence_of v.request ≡ Some n → line.inc ≡ c.who.inc → line.seq ≡ n → TicketIs c.ticket c.seq t.sends v
        → fair v.request line.verdict ≡ true
    by v n sq same is (kept was) = l.verdict v n was sq same is
    by v n sq same is (resent u was xid of i) = subst (λ r. fair r line.verdict ≡ true) of (l.verdict u n was (ap sequence_of of ∙ sq) same is)
    by v n sq same is (fresh i above) = let up = above n sq in let low = l.below same in absurd (omega arith)

restarted : (c : Client) (line : HostRow) → line.inc ≤ c.who.inc → Lined (restart c).client line
unfolding starts fresh_client
restarted c line past = record {
  positive = omega arith;
  drawn = λ t n has sq. none-some n (ap (λ (u : Ticket). sequence_of u.request) (some-same _ t has) ∙ sq);
  below = λ same. absurd (omega arith);
  verdict = λ t n has sq same is. absurd (omega arith);
}

-- ---- a step of the server

same-lined : (c : Client) (before after : HostRow) → after ≡ before → Lined c before → Lined c after
same-lined c before after same l = subst (λ r. Lined c r) (sym same) l

crash-line : (s : Server) (longest host : ℕ) → host_row (crash s longest).server.kept host ≡ host_row s.kept host
unfolding crash boot
crash-line s longest host = booted-line s.kept longest host (s.kept.opened == 0) refl

module _ (most : ℕ) (head : Head) where
  abbrev F : ℕ → Client → World → Type 0
  F host c w = Lined c (host_row w.server.kept host)

  module _ (events : List Event) (p : Packet) (during : KeepsBounds most head events) (within : IsWithinSkew head.hosts most events) (k : ℕ)
      (sent : slice_get (run head events).packets k ≡ Some p) (to : p.to ≡ Party.Server) where
    i : In (run head events).packets p
    i = in-get (run head events).packets k p sent

    module _ (host : ℕ) (c : Client) (at : slice_get (run head events).clients host ≡ Some c) (l : Lined c (host_row (run head events).server.kept host)) where
      here : c.who.host ≡ host
      here = ((run-holds head events).clients host c at).here

      moves : (after : HostRow) → LineGoes (run head events).server (sending_host p.sender) (datagram_of p.message) host after → Lined c after
      moves after (line_same same) = same-lined c (host_row (run head events).server.kept host) after same l
      moves after (line_attached who of later is) = same-lined c (row_of_attach who) after is (record {
        positive = l.positive;
        drawn = l.drawn;
        below = λ same. l.positive;
        verdict = λ t n has sq same first. fair-done t.request;
      })
      moves after (line_decided xid seq value who r v d by sq of from inc above is f) = same-lined c (record {
        inc = who.inc;
        seq = seq;
        verdict = v;
        value = value;
      }) after is (record {
        positive = l.positive;
        drawn = l.drawn;
        below = λ same. ((run-draws head events).clients host c at).drawn xid r who seq asked by same sq;
        verdict = λ t n has sq2 same first. let r_is = under_way t has same in subst (λ z. fair z v ≡ true) (sym r_is) f;
      })
        where
          asked : Asked (run head events).packets c.who.host xid r
          asked =
              let there : Asked (run head events).packets (sending_host p.sender) xid r =
              (to-server (run head events).packets p ((run-holds head events).sent p i) to i xid r d).0 in
              subst (λ h. Asked (run head events).packets h xid r) (sym from ∙ sym of ∙ sym here) there

          -- what was decided is the request under way
          under_way : (t : Ticket) → c.ticket ≡ Some t → who.inc ≡ c.who.inc → t.request ≡ r
          under_way t has same = case (((run-runs most head events during within).known.clients host c at).lined.settled (sym inc ∙ same) xid r who
              seq asked by same sq)
            where
              case : IsSettled c.ticket (host_row (run head events).server.kept host).seq xid seq → t.request ≡ r
              case (inl past) = absurd (omega arith)
              case (inr u) =
                  let one : u.0 ≡ t = some-same u.0 t (sym u.1 ∙ has) in
                  (((run-holds head events).clients host c at).mail.asked xid r who asked by).same same t has (ap (λ (x : Ticket). x.xid) (sym one) ∙ u.2)

  first-lined : (host : ℕ) (c : Client) → slice_get (start head).clients host ≡ Some c → Lined c (host_row (start head).server.kept host)
  unfolding start attached_client fresh_client
  first-lined host c is =
      let below = first-there head.term 0 head.hosts host c is in
      let client = first-client head.term 0 head.hosts host c is in
      let line = first-line head host below in
      subst (λ (x : Client). Lined x (host_row (start head).server.kept host)) (sym client) (record {
        positive = omega arith;
        drawn = λ t n has sq. none-some t has;
        below = λ same. let zero_seq : (host_row (start head).server.kept host).seq ≡ 0 = ap (λ (r : HostRow). r.seq) line in omega arith;
        verdict = λ t n has sq same first. none-some t has;
      })

  server-lined : (v : World) (t : ServerStep) → ((host : ℕ) (c : Client) → slice_get v.clients host ≡ Some c → Lined c (host_row v.server.kept host)
      → Lined c (host_row t.server.kept host)) → OfClients F v → OfClients F (after_server v t)
  unfolding after_server
  server-lined v t goes all host c is = goes host c is (all host c is)

  client-lined : (v : World) (host : ℕ) (c : Client) (t : ClientStep) → slice_get v.clients host ≡ Some c → (Lined c (host_row v.server.kept host)
      → Lined t.client (host_row v.server.kept host)) → OfClients F v → OfClients F (after_client v host t)
  unfolding after_client
  client-lined v host c t at goes all = clients-after F v host t (goes (all host c at)) (λ other d apart is. all other d is)

  keeps : Keeps most head (OfClients F)
  keeps = record {
    starts = λ bounds host c is. first-lined host c is;
    called = λ events host c op during at all. client-lined (run head events) host c (client_call c op) at (λ l. stepped c c.now (client_call c op)
        (host_row (run head events).server.kept host) (call-renews c op ((run-holds head events).clients host c at).alone l.drawn) l) all;
    ticked = λ events host c during at all. client-lined (run head events) host c (client_tick c (c.now + 1)) at (λ l. stepped c (c.now + 1)
        (client_tick c (c.now + 1)) (host_row (run head events).server.kept host) (tick-renews c ((run-holds head events).clients host c at).alone
        l.drawn) l) all;
    restarted = λ events host c during at all. client-lined (run head events) host c (restart c) at
        (λ l. restarted c (host_row (run head events).server.kept host) ((run-runs most head events during.bounds during.within).known.clients host c
        at).lined.past) all;
    heard = λ events k p host c t during sent to at hears all.
        let i = in-get (run head events).packets k p sent in
        let h = run-holds head events in
        client-lined (run head events) host c t at (λ l. stepped c c.now t (host_row (run head events).server.kept host)
        (hear-renews host c (run head events).packets k p.message t (h.clients host c at) (to-told (run head events).packets p host (h.sent p i)
        to i) l.drawn hears) l) all;
    received = λ events k p during sent to all.
        let w = run head events in
        server-lined w (receive w.server (sending_host p.sender) (length w.packets) (datagram_of p.message)) (λ host c at l.
        moves events p during.bounds during.within k sent to host c at l _
        (line-goes w.server (sending_host p.sender) (length w.packets) (datagram_of p.message) host (run-runs most head events during.bounds
        during.within).served.lines)) all;
    server_ticked = λ events during all.
        let w = run head events in
        server-lined w (tick w.server (w.server.now + 1)) (λ host c at l. same-lined c (host_row w.server.kept host) _
        (tick-line w.server (w.server.now + 1) host) l) all;
    crashed = λ events longest during long short all.
        let w = run head events in
        server-lined w (crash w.server longest) (λ host c at l. same-lined c (host_row w.server.kept host) _ (crash-line w.server longest host) l) all;
  }

-- in every run within skew
pub run-lined : (most : ℕ) (head : Head) (events : List Event) → KeepsBounds most head events → IsWithinSkew head.hosts most events
    → (host : ℕ) (c : Client) → slice_get (run head events).clients host ≡ Some c → Lined c (host_row (run head events).server.kept host)
run-lined most head events bounds within = run-keeps (keeps most head) events bounds within
