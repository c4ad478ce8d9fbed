-- From the third round on all clients are quiet once all has arrived.
use Rattle.std.proofs.Common.{◌≡◌, ◌<◌, ◌⊎◌, ℕ, Bool, true, false, List, [], Option, Some, None, is_some, length, refl, sym, subst, ap, ◌∙◌}
use Rattle.std.proofs.Common.{arith, inl, inr}
use Rattle.std.specs.Prelude.{slice_get}
use Rattle.nq_base.specs.declared.Call.{Call}
use Rattle.nq_base.specs.declared.Push.{Push}
use Rattle.nq_model.specs.protocol.Client.{Client, Notice, UnderWay, notice_on}
use Rattle.nq_model.specs.protocol.Lines.{Play}
use Rattle.nq_model.specs.protocol.World.{Head, World, run}
use Rattle.law_rounds.specs.CallsGoOn.{GoesOn}
use Rattle.law_rounds.proofs.ClientCount.{client-count}
use Rattle.law_rounds.proofs.GoingOn.{calls-go-on}
use Rattle.law_runs.proofs.ChainWorlds.{chain-fits}
use Rattle.law_rounds.specs.DeliveryEnds.{calmed}
use Rattle.law_rounds.specs.CalmRoundsAreLawful.{IsLawful}
use Rattle.law_rounds.proofs.AllFound.{all-found}
use Rattle.walk_steps.proofs.ClientMoves.{none-some}
use Rattle.walk_steps.proofs.SettleCases.{IsSync, of_sync, of_put}
use Rattle.walk_steps.proofs.Worlds.{run-holds}
use Rattle.law_rounds.specs.RoundsEndQuiet.{IsSmall, waits_to_store, IsQuiet}
use Rattle.law_rounds.proofs.Dues.{NoneDue, run-due}
use Rattle.law_rounds.specs.WholeRounds.{play_order, whole_rounds, WholeRoundsEndQuiet}
use Rattle.law_rounds.proofs.Flows.{Covered, order-small, none-asks, later-covers}
use Rattle.law_rounds.proofs.Orders.{order-lawful, wholes-lawful}
use Rattle.law_rounds.proofs.ClientSteps.{get-below}

module _ (most : ℕ) (head : Head) where
  -- a client of a run that has no request under way is quiet
  pub quiet-client : (p : Play) → IsLawful most head p → (host : ℕ) (c : Client) → slice_get p.world.clients host ≡ Some c → c.ticket ≡ None → IsQuiet c
  quiet-client p l host c at none = record {
    attached = on c.attached refl;
    no_request = none;
    no_push = pushes c.push refl;
    no_notice = λ file. notices file (notice_on file c.notices) refl;
    waits = λ u is. (pausing u is (goes.busy u is), goes.short);
    no_sync = syncs;
    held = λ file unclean.
        let h = (chain-fits most head p.events host c l.bounds l.within there).writes.held file unclean in
        (h.0, h.1, record { writes = h.2; late = due.ending file h.0 h.1 h.2 unclean });
  }
    where
      there : slice_get (run head p.events).clients host ≡ Some c
      there = subst (λ (u : World). slice_get u.clients host ≡ Some c) l.is_run at

      goes : GoesOn c
      goes = calls-go-on head p.events host c there

      pausing : (u : UnderWay) → c.call ≡ Some u → (is_some c.ticket ≡ true) ⊎ (c.now < c.pause) → c.now < c.pause
      pausing u is (inl asks) = let no : is_some c.ticket ≡ false = ap is_some none in absurd (cc)
      pausing u is (inr late) = late

      due : NoneDue c
      due = (run-due head p.events host c there none).0

      syncs : (u : UnderWay) → c.call ≡ Some u → waits_to_store u.written u.call ≡ false
      syncs u called = by u.written u.call refl refl
        where
          none-waits : (file : ℕ) → IsSync u file → ⊥
          none-waits file is = (run-due head p.events host c there none).1 u file called is

          by : (b : Bool) (op : Call) → u.written ≡ b → u.call ≡ op → waits_to_store b op ≡ false
          by b (Call.Sync file) e is = absurd (none-waits file (of_sync is))
          by true (Call.Put file block body) e is = absurd (none-waits file (of_put block body is e))
          by false (Call.Put file block body) e is = refl
          by b (Call.Create name blocks) e is = refl
          by b (Call.Lookup name) e is = refl
          by b (Call.Attr file) e is = refl
          by b (Call.Read file block) e is = refl
          by b (Call.Fetch file block) e is = refl
          by b (Call.Write file block body) e is = refl
          by b (Call.Resize file blocks) e is = refl
          by b (Call.Remove file) e is = refl

      on : (b : Bool) → c.attached ≡ b → c.attached ≡ true
      on true e = e
      on false e = let w = ((run-holds head p.events).clients host c there).alone.asking.waiting e in none-some w.request (sym none ∙ w.asks)

      pushes : (o : Option Push) → c.push ≡ o → c.push ≡ None
      pushes None e = e
      pushes (Some q) e = let w = ((run-holds head p.events).clients host c there).alone.delaying.under_way q e in none-some w.request (sym none ∙ w.asks)

      notices : (file : ℕ) (o : Option Notice) → notice_on file c.notices ≡ o → notice_on file c.notices ≡ None
      notices file None e = e
      notices file (Some n) e = absurd (due.noticed file n e)

  -- all clients of a play whose requests come are so once all has arrived
  pub order-ends-quiet : (order : List ℕ) (p : Play) → IsLawful most head p → (play_order order p).fresh ≡ [] → IsSmall (play_order order p)
      → ((host : ℕ) → host < head.hosts → Covered most head host 0 p) → (host : ℕ) (c : Client) → slice_get (play_order order p).world.clients host
      ≡ Some c → IsQuiet c
  order-ends-quiet order p l none small covers host c at =
      let lq = order-lawful most head order p l in
      let below : host < head.hosts =
      let inside = get-below (play_order order p).world.clients host c at in
      let many : length (play_order order p).world.clients ≡ head.hosts = ap (λ (w : World). length w.clients) lq.is_run
      ∙ client-count head (play_order order p).events in
      omega arith in
      quiet-client (play_order order p) lq host c at (none-asks most head host order p l none small (covers host below) c at)

pub whole-rounds-end-quiet : WholeRoundsEndQuiet
unfolding calmed
whole-rounds-end-quiet most head events bounds within under_way orders order two whole none small =
    let base = calmed head events under_way in
    let l0 : IsLawful most head base = record { is_run = refl; bounds = bounds; within = within } in
    let p = whole_rounds orders base in
    all-found IsQuiet (play_order order p).world.clients (order-ends-quiet most head order p (wholes-lawful most head orders base l0) none small
    (λ host below. later-covers most head host orders base two l0 below (order-small order p small)))
