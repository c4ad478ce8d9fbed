-- What the frames of a delivery rest on: the queues of all hosts are in line, no tag is later than its row's, and what a request does at the server.
use Rattle.std.proofs.Common.{◌≡◌, ◌<◌, ℕ, true, false, [], Option, Some, None, length, refl, sym, subst, ap, ◌∙◌, arith}
use Rattle.std.specs.Prelude.{slice_get}
use Rattle.nq_base.specs.declared.Event.{Event}
use Rattle.nq_base.specs.declared.Request.{Request}
use Rattle.nq_base.specs.declared.Row.{Row}
use Rattle.nq_base.specs.declared.Want.{Want}
use Rattle.nq_base.specs.declared.Who.{Who}
use Rattle.nq_model.specs.protocol.Client.{Client, Lease, lease_on}
use Rattle.nq_model.specs.protocol.Hear.{holds_later}
use Rattle.nq_model.specs.protocol.Kept.{host_row}
use Rattle.nq_model.specs.protocol.Lines.{Play, play, play_rounds}
use Rattle.nq_model.specs.protocol.Message.{call, asker, sequence_of, datagram_of}
use Rattle.nq_model.specs.protocol.Server.{serving}
use Rattle.nq_model.specs.protocol.ServerStep.{receive}
use Rattle.nq_model.specs.protocol.Table.{find_row}
use Rattle.nq_model.specs.protocol.World.{Head, World}
use Rattle.law_rounds.proofs.ClientCount.{client-count}
use Rattle.law_rounds.specs.CalmRoundsAreLawful.{IsLawful}
use Rattle.law_rounds.proofs.CalmEnds.{IsRising}
use Rattle.walk_steps.proofs.RowChanges.{HasUniqueKeys}
use Rattle.law_rounds.proofs.Next.{IsNext}
use Rattle.nq_laws.proofs.InLine.{InLine, not-answered-yet}
use Rattle.nq_laws.proofs.QueueRounds.{delivered-queue, round-queue}
use Rattle.nq_laws.proofs.StepNumbers.{NoVacated}
use Rattle.nq_laws.proofs.TagRuns.{TagsAreNoLater, run-no-later, keys-unique}
use Rattle.nq_laws.proofs.UnderWay.{InOrder, TagsFit}
use Rattle.nq_laws.proofs.Served.{IsWant, by_read, by_lease, IsServed}
use Rattle.nq_laws.proofs.ServedBy.{served-by}
use Rattle.law_rounds.proofs.ClientSteps.{get-below}

-- who wants a lease gives none up
want-no-vacated : (r : Request) (f : ℕ) (want : Want) → IsWant r f want → NoVacated r
want-no-vacated r f want (by_read who q block is) w g tag e = let two : Request.Read who q f block (Some want) ≡ Request.Vacated w g tag = sym is ∙ e in cc
want-no-vacated r f want (by_lease who is) w g tag e = let two : Request.GetLease who f want ≡ Request.Vacated w g tag = sym is ∙ e in cc

module _ (most : ℕ) (head : Head) where
  -- the queues of all hosts are in line
  pub AllInLine : Play → Type 0
  AllInLine p = (host : ℕ) → host < head.hosts → InLine host p

  below : (p : Play) → IsLawful most head p → (host : ℕ) (c : Client) → slice_get p.world.clients host ≡ Some c → host < head.hosts
  below p l host c at =
      let many : length p.world.clients ≡ head.hosts = ap (λ (w : World). length w.clients) l.is_run ∙ client-count head p.events in
      let low = get-below p.world.clients host c at in
      omega arith

  pub ordered : (p : Play) → IsLawful most head p → AllInLine p → (host : ℕ) (c : Client) → slice_get p.world.clients host ≡ Some c → InOrder p host c
  unfolding AllInLine
  ordered p l all host c at =
      let line = all host (below p l host c at) in
      record {
        asks = λ x r a. line.own c at x r a;
        fresh = λ x n r a sq. line.undecided x n r a sq;
        unreplied = λ x f r want t a asked wants has replied inc. not-answered-yet host p line c at t has a replied x r asked (want-no-vacated r f want wants);
        rises = λ x y r s first later less. line.rising x y r s first later less;
      }

  pub ordered-on : (p : Play) (k : ℕ) → IsNext p k → IsLawful most head p → IsRising p
      → ((host : ℕ) (c : Client) → slice_get p.world.clients host ≡ Some c → c.attached ≡ true) → AllInLine p → AllInLine (play p (Event.Deliver k))
  unfolding AllInLine
  ordered-on p k next l rises on all host few =
      (delivered-queue most head host p k next (record { lawful = l; rises = rises; on = on host; below = few; line = all host few })).line

  pub begins : (p : Play) → IsLawful most head p → IsRising p → p.fresh ≡ []
      → ((host : ℕ) (c : Client) → slice_get p.world.clients host ≡ Some c → (c.attached ≡ true) × (c.ticket ≡ None)) → AllInLine (play_rounds 1 p)
  unfolding AllInLine
  begins p l rises none all host few = (round-queue most head host p l rises few none (all host)).line

  pub tags : (p : Play) → IsLawful most head p → (host : ℕ) (c : Client) → slice_get p.world.clients host ≡ Some c → c.attached ≡ true → TagsFit p.world host c
  tags p l host c at on = record {
    held = λ f row found. held f row found (lease_on f c.leases) refl;
    noted = λ f row n found waits. (all.knows.noticed f n waits) row found;
    named = λ f x row tag found told. (all.told x c.who f tag told) row found;
  }
    where
      all : TagsAreNoLater p.world host c
      all = subst (λ (u : World). TagsAreNoLater u host c) (sym l.is_run)
          (run-no-later most head p.events l.bounds l.within host c (subst (λ (u : World). slice_get u.clients host ≡ Some c) l.is_run at))

      held : (f : ℕ) (row : Row) → find_row f host p.world.server.table.rows ≡ Some row → (o : Option Lease) → lease_on f c.leases ≡ o
          → holds_later row.tag (lease_on f c.leases) ≡ false
      held f row found None e = ap (holds_later row.tag) e
      held f row found (Some lease) e = ap (holds_later row.tag) e ∙ (all.knows.leased f lease e) row found

  pub served : (p : Play) → IsLawful most head p → p.world.server.phase ≡ serving → (b x next : ℕ) (r : Request) (who : Who) → asker r ≡ Some who
      → who.host ≡ b → (host_row p.world.server.kept b).inc ≡ who.inc → ((n : ℕ) → sequence_of r ≡ Some n → (host_row p.world.server.kept b).seq < n)
      → (c : Client) → slice_get p.world.clients b ≡ Some c → IsServed p.world.server.table.rows
      (receive p.world.server b next (datagram_of (call x r))).server.table.rows (receive p.world.server b next (datagram_of (call x r))).sends b who x r
  served p l serves b x next r who asks from inc new c at =
      let unique : HasUniqueKeys p.world.server.table.rows =
      subst (λ (u : World). HasUniqueKeys u.server.table.rows) (sym l.is_run) (keys-unique most head p.events l.bounds l.within) in
      let few = l.bounds.hosts in
      let low = below p l b c at in
      served-by p.world.server b x next r who unique serves asks from (ap (λ h. (host_row p.world.server.kept h).inc) from ∙ inc)
      (λ n sq. let up = new n sq in let same : (host_row p.world.server.kept who.host).seq ≡ (host_row p.world.server.kept b).seq =
      ap (λ h. (host_row p.world.server.kept h).seq) from in omega arith) (omega arith)
