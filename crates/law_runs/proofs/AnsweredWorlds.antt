-- In every run the replies that a client can take tell what the kept line of its host tells.
use Rattle.std.proofs.Common.{◌≡◌, ℕ, ◌+◌, ◌==◌, List, [], ◌++◌, length, refl, sym, subst, ap, arith}
use Rattle.nq_base.specs.declared.Event.{Event}
use Rattle.nq_base.specs.declared.Party.{Party}
use Rattle.nq_base.specs.declared.Request.{Request}
use Rattle.nq_base.specs.declared.Row.{Row}
use Rattle.walk_steps.proofs.ClientMoves.{none-some}
use Rattle.law_runs.proofs.Answered.{Answered, AnsweredOf, call-answers, tick-answers, restart-answers, hear-answers, other-answers, server-answers}
use Rattle.walk_files.proofs.ServerTells.{none-quiet, one-quiet, ServerTells, same_lines, hears-tells}
use Rattle.walk_steps.proofs.Runs.{Runs}
use Rattle.walk_steps.proofs.LeaseIntervals.{run-runs}
use Rattle.nq_model.specs.laws.Bounds.{KeepsBounds}
use Rattle.nq_model.specs.protocol.Client.{Client, ClientStep}
use Rattle.nq_model.specs.protocol.ClientStep.{client_call, client_tick, restart, attached_client, fresh_client}
use Rattle.nq_model.specs.protocol.Kept.{find_file, host_row}
use Rattle.nq_model.specs.protocol.Message.{Packet, datagram_of}
use Rattle.nq_model.specs.protocol.Server.{Server, ServerStep, quiet, keeping_with, with_table}
use Rattle.nq_model.specs.protocol.ServerStep.{receive, tick, crash, boot, opens, ends_writing, at_time}
use Rattle.nq_model.specs.protocol.Skew.{IsWithinSkew}
use Rattle.nq_model.specs.protocol.Table.{with_rows}
use Rattle.nq_model.specs.protocol.World.{Head, World, after_server, after_client, sending_host, start, run}
use Rattle.walk_steps.proofs.WorldSequences.{Draws, run-draws}
use Rattle.walk_steps.proofs.RunCases.{Keeps, run-keeps, OfClients, clients-after}
use Rattle.walk_steps.proofs.KnownWorlds.{first-there, first-line}
use Rattle.walk_steps.proofs.Packets.{In, in-get}
use Rattle.walk_steps.proofs.Worlds.{Holds, to-server, to-told, first-client, run-holds}
use Rattle.walk_steps.proofs.ServerFacts.{fence-lines}
use Rattle.walk_steps.proofs.KeptChanges.{booted-line}
use Rattle.walk_steps.proofs.ServerCases.{server-ticks}

-- ---- the server's other steps

waits-tells : (ps : List Packet) (s : Server) (now : ℕ) → ServerTells ps s (quiet (at_time s now))
unfolding quiet at_time
waits-tells ps s now = record { moves = same_lines none-quiet (λ host. refl); says = λ host x a i. absurd i }

opens-tells : (ps : List Packet) (s : Server) (now until heard : ℕ) → ServerTells ps s (opens (at_time s now) until heard)
unfolding opens at_time
opens-tells ps s now until heard = record { moves = same_lines (one-quiet _ tt) (λ host. refl); says = λ host x a i. absurd i }

ends-tells : (ps : List Packet) (s : Server) (now : ℕ) (rows : List Row) → ServerTells ps s (quiet (with_table (at_time s now) (with_rows s.table rows)))
unfolding quiet at_time with_table with_rows
ends-tells ps s now rows = record { moves = same_lines none-quiet (λ host. refl); says = λ host x a i. absurd i }

ends-writing-tells : (ps : List Packet) (s : Server) (now : ℕ) (rows : List Row) (row : Row) → ServerTells ps s (ends_writing (at_time s now) rows row)
unfolding ends_writing at_time keeping_with with_rows
ends-writing-tells ps s now rows row =
    record { moves = same_lines (one-quiet _ tt) (λ host. fence-lines s.kept (find_file row.file s.kept.files) host); says = λ host x a i. absurd i }

-- a tick of the server's clock tells of no write
pub tick-tells : (ps : List Packet) (s : Server) (now : ℕ) → ServerTells ps s (tick s now)
tick-tells ps s now = server-ticks s now (ServerTells ps s) (record {
  waits = λ until heard last p goes_on. waits-tells ps s now;
  opening = λ until heard last p over. opens-tells ps s now until heard;
  ends_reading = λ p none. ends-tells ps s now _;
  ending_writing = λ row p due. ends-writing-tells ps s now _ row;
})

-- nor does a crash
pub crash-tells : (ps : List Packet) (s : Server) (longest : ℕ) → ServerTells ps s (crash s longest)
unfolding crash boot
crash-tells ps s longest =
    record { moves = same_lines (one-quiet _ tt) (λ host. booted-line s.kept longest host (s.kept.opened == 0) refl); says = λ host x a i. absurd i }

-- what the server's step for a datagram tells in a run
pub received-tells : (hosts most : ℕ) (w : World) (events : List Event) (p : Packet) → In w.packets p → p.to ≡ Party.Server → Holds w
    → Runs hosts most w events → ServerTells w.packets w.server (receive w.server (sending_host p.sender) (length w.packets) (datagram_of p.message))
received-tells hosts most w events p i to held runs =
    hears-tells w.packets w.server (sending_host p.sender) (length w.packets) (datagram_of p.message)
    (λ xid r d. (to-server w.packets p (held.sent p i) to i xid r d).0)
    (λ xid d. let some = (to-server w.packets p (held.sent p i) to i xid Request.Null d).1 in absurd (cc))
    runs.served.lines

-- ---- in every run

-- of each client
abbrev pub AnsweredAt : ℕ → Client → World → Type 0
AnsweredAt host c w = Answered (host_row w.server.kept host) c.who c.seq c.ticket w.packets

abbrev pub AllAnswered : World → Type 0
AllAnswered = OfClients AnsweredAt

client-step : (w : World) (host : ℕ) (t : ClientStep) → AnsweredOf (host_row w.server.kept host) host w.packets t → AllAnswered w
    → AllAnswered (after_client w host t)
unfolding after_client
client-step w host t new h = clients-after AnsweredAt w host t new (λ other c apart is. other-answers host t.sends (h other c is))

pub server-step : (w : World) (t : ServerStep) → ServerTells w.packets w.server t → (head : Head) (events : List Event) → w ≡ run head events
    → AllAnswered w → AllAnswered (after_server w t)
unfolding after_server
server-step w t tells head events same h = λ host c is.
    let held : Holds w = subst Holds (sym same) (run-holds head events) in
    let drawn = subst Draws (sym same) (run-draws head events) in
    let a = held.clients host c is in
    subst (λ n. Answered (host_row t.server.kept n) c.who c.seq c.ticket (w.packets ++ t.sends)) a.here
    (server-answers w.server t c.who c.xid c.seq c.ticket w.packets tells a.mail (drawn.clients host c is)
    (subst (λ n. Answered (host_row w.server.kept n) c.who c.seq c.ticket w.packets) (sym a.here) (h host c is)))

starts : (head : Head) → AllAnswered (start head)
unfolding start attached_client fresh_client
starts head = λ host c is.
    subst (λ z. Answered (host_row (start head).server.kept host) z.who z.seq z.ticket []) (sym (first-client head.term 0 head.hosts host c is))
    (record {
      positive = omega arith;
      latest = λ t n e q. none-some t e;
      kept =
          λ e. let none : (host_row (start head).server.kept host).seq ≡ 0 = ap (λ l. l.seq)
          (first-line head host (first-there head.term 0 head.hosts host c is)) in omega arith;
      replies = λ x a told. absurd told;
    })

answered-keeps : (most : ℕ) (head : Head) → Keeps most head AllAnswered
answered-keeps most head = record {
  starts = λ b. starts head;
  called =
      λ events host c op during is h. client-step (run head events) host (client_call c op)
      (call-answers _ host c (run head events).packets op ((run-holds head events).clients host c is) (h host c is)) h;
  ticked =
      λ events host c during is h. client-step (run head events) host (client_tick c (c.now + 1))
      (tick-answers _ host c (run head events).packets ((run-holds head events).clients host c is) (h host c is)) h;
  restarted =
      λ events host c during is h. client-step (run head events) host (restart c)
      (restart-answers _ host c (run head events).packets ((run-runs most head events during.bounds during.within).known.clients host c is).lined.past) h;
  heard = λ events k p host c t during sent to is hears h.
      let w : World = run head events in
      client-step w host t (hear-answers _ host c w.packets k p.message t hears
      (to-told w.packets p host ((run-holds head events).sent p (in-get w.packets k p sent)) to (in-get w.packets k p sent))
      ((run-holds head events).clients host c is) (h host c is)) h;
  received =
      λ events k p during sent to h. server-step (run head events) _
      (received-tells head.hosts most (run head events) events p (in-get (run head events).packets k p sent) to (run-holds head events)
      (run-runs most head events during.bounds during.within)) head events refl h;
  server_ticked =
      λ events during h. server-step (run head events) _
      (tick-tells (run head events).packets (run head events).server ((run head events).server.now + 1)) head events refl h;
  crashed =
      λ events longest during long few h. server-step (run head events) _ (crash-tells (run head events).packets (run head events).server longest) head
      events refl h;
}

pub run-answered : (most : ℕ) (head : Head) (events : List Event) → KeepsBounds most head events → IsWithinSkew head.hosts most events
    → AllAnswered (run head events)
run-answered most head events b within = run-keeps (answered-keeps most head) events b within
