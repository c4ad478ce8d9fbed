-- A call that needs no lease, from a moment on: its client pauses until no later than two ticks of its own behind that moment, and nothing puts its
-- request off.
use Rattle.std.proofs.Common.{◌≡◌, ◌≤◌, ◌<◌, ◌⊎◌, ℕ, ◌+◌, ◌-◌, Bool, true, false, List, Option, Some, None, is_some, refl, sym, subst, ap, ◌∙◌}
use Rattle.std.proofs.Common.{arith, inl, inr}
use Rattle.std.specs.Prelude.{slice_get}
use Rattle.nq_base.specs.declared.Event.{Event}
use Rattle.nq_base.specs.declared.Who.{Who}
use Rattle.nq_model.specs.protocol.Client.{Client, ClientStep, for_call, Ticket, UnderWay}
use Rattle.nq_model.specs.protocol.ClientStep.{client_call, client_tick}
use Rattle.nq_model.specs.laws.Journal.{Exists, IsCall}
use Rattle.nq_model.specs.protocol.Lines.{Play, play}
use Rattle.nq_model.specs.protocol.Profile.{patience}
use Rattle.nq_model.specs.protocol.Server.{Server, quiet, keeping_with, with_table}
use Rattle.nq_model.specs.protocol.ServerStep.{tick, at_time as at_server_time, opens, ends_writing}
use Rattle.nq_model.specs.protocol.Skew.{is_tick_of, ticks_of}
use Rattle.nq_model.specs.protocol.World.{Head, World, after_client, after_server, at_client, step, run}
use Rattle.walk_steps.proofs.ClientFacts.{Alone}
use Rattle.walk_steps.proofs.ClientMoves.{none-some}
use Rattle.walk_steps.proofs.ServerCases.{server-ticks}
use Rattle.walk_steps.proofs.Steps.{step-changes}
use Rattle.walk_steps.proofs.WorldClocks.{run-clocked}
use Rattle.law_rounds.specs.CalmRoundsAreLawful.{IsLawful}
use Rattle.law_rounds.specs.QuietDeliveries.{recovers}
use Rattle.law_rounds.proofs.Flows.{Covered}
use Rattle.law_rounds.proofs.GoingOn.{calls-go-on}
use Rattle.law_rounds.proofs.QuietFlows.{delivered-phase}
use Rattle.law_timely.specs.NobodyIsWaitedFor.{needs_no_lease}
use Rattle.law_timely.specs.Timely.{is_dead}
use Rattle.law_timely.proofs.Covers.{Aged, aged-event}
use Rattle.law_timely.proofs.Frees.{IsFree}
use Rattle.law_timely.proofs.Looks.{IsLook}
use Rattle.law_timely.proofs.Moves.{is-at, same-who, call-stays}
use Rattle.law_timely.proofs.Parts.{During}

-- ---- the server goes on serving

tick-serves : (s : Server) (now : ℕ) → recovers s.phase ≡ false → recovers (tick s now).server.phase ≡ false
unfolding quiet at_server_time opens ends_writing keeping_with with_table
tick-serves s now serves = server-ticks s now (λ t. recovers t.server.phase ≡ false) (record {
  waits = λ until hears last p goes. serves;
  opening = λ until hears last p over. refl;
  ends_reading = λ p ends. serves;
  ending_writing = λ row p due. serves;
})

same-server : (w : World) (h : ℕ) (f : Client → ClientStep) (o : Option Client) → (at_client w h f o).server ≡ w.server
unfolding after_client
same-server w h f None = refl
same-server w h f (Some c) = refl

module _ (most : ℕ) (head : Head) (dead : List ℕ) (host : ℕ) (live : is_dead dead host ≡ false) (who : Who) (q old from : ℕ) where
  -- what is known of a moment
  pub record Known (p : Play) : Type 0 where
    pub aged : Aged most head host old p
    pub late : old + 2 ≤ ticks_of host p.events
    pub serves : recovers p.world.server.phase ≡ false
    pub some : Exists (IsCall who q) p.world.journal
    pub same : (c : Client) → slice_get p.world.clients host ≡ Some c → c.who ≡ who

  pub covered : (p : Play) → Known p → Covered most head host 0 p
  covered p k =
      let e : (old + 2) - ticks_of host p.events ≡ 0 = let late = k.late in omega arith in
      subst (λ due. Covered most head host due p) e k.aged

  serves-on : (p : Play) (e : Event) → During most head dead p e → recovers p.world.server.phase ≡ false → recovers (step p.world e).server.phase ≡ false
  unfolding after_server
  serves-on p (Event.Call h op) during serves = ap (λ (s : Server). recovers s.phase) (same-server p.world h (λ c. client_call c op)
      (slice_get p.world.clients h)) ∙ serves
  serves-on p (Event.Deliver k) during serves = delivered-phase p.world k (slice_get p.world.packets k) ∙ serves
  serves-on p Event.ServerTick during serves = tick-serves p.world.server (p.world.server.now + 1) serves
  serves-on p (Event.ClientTick h) during serves = ap (λ (s : Server). recovers s.phase) (same-server p.world h (λ c. client_tick c (c.now + 1))
      (slice_get p.world.clients h)) ∙ serves
  serves-on p (Event.Restart h) during serves = let no : false ≡ true = during.timely in absurd (cc)
  serves-on p (Event.Crash longest) during serves = let no : false ≡ true = during.timely in absurd (cc)

  pub known-event : (p : Play) (e : Event) → During most head dead p e → Known p → Known (play p e)
  known-event p e during k = record {
    aged = aged-event most head host old dead p e during k.aged;
    late = let before = k.late in more (ticks_of host p.events) (is_tick_of host e) before;
    serves = serves-on p e during k.serves;
    some = call-stays most head host who q p.world (step p.world e) (step-changes p.world e) k.some;
    same = same-who most head host dead p e during who k.same;
  }
    where
      more : (n a : ℕ) → old + 2 ≤ n → old + 2 ≤ a + n
      more n a below = omega arith

  -- the call waits: nothing puts off its request once the host's clock ticked again
  pub record Waits (p : Play) : Type 0 where
    pub kind : (c : Client) (u : UnderWay) → slice_get p.world.clients host ≡ Some c → c.call ≡ Some u → u.q ≡ q → needs_no_lease u.call ≡ true
    pub soon : (c : Client) (u : UnderWay) → slice_get p.world.clients host ≡ Some c → c.call ≡ Some u → u.q ≡ q → c.pause ≤ from + 2
    pub asks : from < ticks_of host p.events → (c : Client) (u : UnderWay) → slice_get p.world.clients host ≡ Some c → c.call ≡ Some u → u.q ≡ q
        → (t : Ticket) → c.ticket ≡ Some t → IsLook t × (t.job ≡ for_call → IsFree host who p t)

  -- the clock of the client, and what holds of it in every run
  pub record Timed (p : Play) (c : Client) : Type 0 where
    pub clock : c.now ≡ ticks_of host p.events
    pub short : c.pause ≤ c.now + patience
    pub busy : (u : UnderWay) → c.call ≡ Some u → c.ticket ≡ None → c.now < c.pause
    pub on : (u : UnderWay) → c.call ≡ Some u → c.attached ≡ true
    pub alone : Alone c

  pub timed : (p : Play) → IsLawful most head p → (c : Client) → slice_get p.world.clients host ≡ Some c → Timed p c
  timed p l c at = record {
    clock = (run-clocked head p.events).clients host c there;
    short = (calls-go-on head p.events host c there).short;
    busy = λ u is none. pauses none ((calls-go-on head p.events host c there).busy u is);
    on = λ u is. attached u is c.attached refl;
    alone = (is-at most head host p l c at).alone;
  }
    where
      there : slice_get (run head p.events).clients host ≡ Some c
      there = subst (λ (u : World). slice_get u.clients host ≡ Some c) l.is_run at

      pauses : c.ticket ≡ None → (is_some c.ticket ≡ true) ⊎ (c.now < c.pause) → c.now < c.pause
      pauses none (inl asks) = let no : is_some c.ticket ≡ false = ap is_some none in absurd (cc)
      pauses none (inr late) = late

      attached : (u : UnderWay) → c.call ≡ Some u → (b : Bool) → c.attached ≡ b → c.attached ≡ true
      attached u is true e = e
      attached u is false e = none-some u (sym ((is-at most head host p l c at).alone.asking.waiting e).idle ∙ is)
