-- The ticks of a round put no row in anybody's way, and open no call.
use Rattle.std.proofs.Common.{◌≡◌, ℕ, ◌+◌, false, zero, suc, List, Option, Some, None, length, refl, sym, subst, ap, ◌∙◌, arith}
use Rattle.std.specs.Prelude.{not, slice_get}
use Rattle.nq_base.specs.declared.Event.{Event}
use Rattle.nq_base.specs.declared.Row.{Row}
use Rattle.nq_model.specs.protocol.Client.{Client, UnderWay}
use Rattle.nq_model.specs.protocol.ClientStep.{client_tick, at_time as at_client_time}
use Rattle.nq_model.specs.protocol.Lines.{Play, play, play_hosts, play_rounds}
use Rattle.nq_model.specs.protocol.Server.{serving, recovering, Server, ServerStep, quiet, keeping_with, with_table}
use Rattle.nq_model.specs.protocol.ServerStep.{tick, at_time, opens, ends_writing, end_reading, is_over}
use Rattle.nq_model.specs.protocol.Table.{find_row, is_row_of, with_rows}
use Rattle.nq_model.specs.protocol.World.{Head, World, after_client, after_server, at_client, run}
use Rattle.nq_model.specs.protocol.Skew.{IsWithinSkew}
use Rattle.nq_model.specs.laws.Bounds.{KeepsBounds}
use Rattle.law_rounds.proofs.ClientCount.{client-count}
use Rattle.law_rounds.specs.CalmRoundsAreLawful.{IsLawful}
use Rattle.law_rounds.specs.QuietDeliveries.{recovers}
use Rattle.law_rounds.proofs.CalmIsLawful.{round}
use Rattle.walk_steps.proofs.LeaseIntervals.{run-runs}
use Rattle.walk_steps.proofs.RowChanges.{HasUniqueKeys, found-kept, unique-filtered}
use Rattle.walk_steps.proofs.ServerCases.{server-ticks}
use Rattle.walk_steps.proofs.ServerTables.{StandingFits}
use Rattle.law_rounds.proofs.Calling.{tick-keeps, tick-opens}
use Rattle.nq_laws.proofs.Hosts.{ticked}
use Rattle.nq_laws.proofs.UnderWay.{serves-is}
use Rattle.nq_laws.proofs.Frames.{NoWay}
use Rattle.nq_laws.proofs.Hope.{file_of_call, access_of_call, InWay}
use Rattle.law_rounds.proofs.ClientSteps.{get-below}

-- ---- rows

-- a file and a host have one row
keys-unique : (most : ℕ) (head : Head) (events : List Event) → KeepsBounds most head events → IsWithinSkew head.hosts most events
    → (run head events).server.phase ≡ serving → HasUniqueKeys (run head events).server.table.rows
keys-unique most head events bounds within phase = by (subst (λ ph. StandingFits (run head events).server.kept.files ph
    (run head events).server.table) phase (run-runs most head events bounds within).served.stood)
  where
    by : StandingFits (run head events).server.kept.files serving (run head events).server.table → HasUniqueKeys (run head events).server.table.rows
    by fits = fits.unique

-- a row that stands after a tick of a server that serves stood before
pub rows-tick : (s : Server) (now : ℕ) → HasUniqueKeys s.table.rows → s.phase ≡ serving → (f h : ℕ) (row : Row)
    → find_row f h (tick s now).server.table.rows ≡ Some row → find_row f h s.table.rows ≡ Some row
unfolding quiet at_time opens ends_writing keeping_with with_table with_rows
rows-tick s now unique phase = server-ticks s now (λ (t : ServerStep). (f h : ℕ) (row : Row) → find_row f h t.server.table.rows ≡ Some row
    → find_row f h s.table.rows ≡ Some row) (record {
      waits = λ until heard last p goes. let two : serving ≡ recovering until heard last = sym phase ∙ p in absurd (cc);
      opening = λ until heard last p over. let two : serving ≡ recovering until heard last = sym phase ∙ p in absurd (cc);
      ends_reading = λ p none f h row found. (found-kept (λ r. not (is_over now r)) f h s.table.rows row unique found).0;
      ending_writing = λ ended p due f h row found.
          (found-kept (λ r. not (is_over now r)) f h s.table.rows row unique
          (found-kept (λ r. not (is_row_of ended.file ended.who.host r)) f h (end_reading now s.table.rows) row (unique-filtered (λ r. not
          (is_over now r)) s.table.rows unique) found).0).0;
    })

pub hosts-server : (count h : ℕ) (p : Play) → (play_hosts count h p).world.server ≡ p.world.server
unfolding after_client
hosts-server zero h p = refl
hosts-server (suc count) h p = hosts-server count (h + 1) (play p (Event.ClientTick h)) ∙ by (slice_get p.world.clients h)
  where
    by : (o : Option Client) → (at_client p.world h (λ c. client_tick c (c.now + 1)) o).server ≡ p.world.server
    by None = refl
    by (Some c) = refl

-- ---- a client's tick

-- its clock is one further, and it pauses as before
pub tick-pause : (c : Client) → ((client_tick c (c.now + 1)).client.now ≡ c.now + 1) × ((client_tick c (c.now + 1)).client.pause ≡ c.pause)
unfolding at_client_time
tick-pause c = let k = tick-keeps c in (k.now, k.pause tt)

-- ---- a round's ticks

module _ (most : ℕ) (head : Head) (p : Play) (l : IsLawful most head p) (serves : recovers p.world.server.phase ≡ false) where
  -- no row of these is in the way of a client's call
  FreeOf : ℕ → Client → Type 0
  FreeOf a c = (u : UnderWay) (f : ℕ) → c.call ≡ Some u → file_of_call u.call ≡ Some f → (h : ℕ) (row : Row)
      → InWay p.world.server.table.rows a f (access_of_call u.call) h row → ⊥

  free-ticked : (a : ℕ) (c : Client) → FreeOf a c → FreeOf a (client_tick c (c.now + 1)).client
  unfolding FreeOf
  free-ticked a c free u f has file h row way =
      let v = tick-opens c u has in
      free v.0 f v.1 (ap file_of_call (sym v.2) ∙ file) h row (subst (λ e. InWay p.world.server.table.rows a f e h row) (ap access_of_call v.2) way)

  rows-after : (f h : ℕ) (row : Row) → find_row f h (play_rounds 1 p).world.server.table.rows ≡ Some row → find_row f h p.world.server.table.rows ≡ Some row
  unfolding after_server
  rows-after f h row found =
      let q = play_hosts (length p.world.clients) 0 p in
      let same = hosts-server (length p.world.clients) 0 p in
      let keys : HasUniqueKeys p.world.server.table.rows = subst (λ (u : World). HasUniqueKeys u.server.table.rows) (sym l.is_run)
      (keys-unique most head p.events l.bounds l.within (ap (λ (u : World). u.server.phase) (sym l.is_run) ∙ serves-is p.world.server.phase serves)) in
      rows-tick p.world.server (p.world.server.now + 1) keys (serves-is p.world.server.phase serves) f h row
      (subst (λ (s : Server). find_row f h (tick s (s.now + 1)).server.table.rows ≡ Some row) same found)

  pub ticks-free : (a : ℕ) → NoWay p.world a → NoWay (play_rounds 1 p).world a
  unfolding FreeOf
  ticks-free a none c u f at has file h row way =
      let inside = get-below (play_rounds 1 p).world.clients a c at in
      let next = round most head p l in
      let many : length (play_rounds 1 p).world.clients ≡ head.hosts = ap (λ (w : World). length w.clients) next.is_run
      ∙ client-count head (play_rounds 1 p).events in
      let before : length p.world.clients ≡ head.hosts = ap (λ (w : World). length w.clients) l.is_run ∙ client-count head p.events in
      ticked most head a (FreeOf a) (FreeOf a) (free-ticked a) p (omega arith) (λ d there v g is of k r w. none d v g there is of k r w) c at u f has
      file h row
      (record { found = rows-after f h row way.found; other = way.other; conflicts = way.conflicts })
