-- In a timely network a call that needs no lease is answered soon, whatever others do.
use Rattle.std.proofs.Common.{◌≡◌, ◌≤◌, ◌<◌, ◌⊎◌, ℕ, ◌+◌, ◌-◌, nat_le, Bool, true, false, zero, suc, List, [], ◌∷◌, Option, Some, None, length, refl, sym}
use Rattle.std.proofs.Common.{subst, ap, ◌∙◌, arith, inl, inr}
use Rattle.std.specs.Prelude.{slice_get}
use Rattle.nq_base.specs.declared.Event.{Event}
use Rattle.nq_base.specs.declared.Who.{Who}
use Rattle.nq_model.specs.protocol.Client.{Client, UnderWay}
use Rattle.nq_model.specs.laws.Journal.{Exists, IsCall, IsOpen}
use Rattle.nq_model.specs.protocol.Lines.{Play, play}
use Rattle.nq_model.specs.protocol.Skew.{server_ticks, ticks_of}
use Rattle.nq_model.specs.protocol.World.{Head, World, run}
use Rattle.law_runs.proofs.RunCalls.{calls-known}
use Rattle.walk_steps.proofs.ClientMoves.{some-same}
use Rattle.walk_steps.proofs.LeaseIntervals.{run-runs}
use Rattle.walk_steps.proofs.Tests.{is-at-most, is-not-at-most}
use Rattle.law_rounds.specs.CalmRoundsAreLawful.{IsLawful}
use Rattle.law_rounds.specs.DeliveryEnds.{calmed}
use Rattle.law_rounds.specs.QuietDeliveries.{recovers}
use Rattle.law_rounds.proofs.ClientCount.{client-count}
use Rattle.law_timely.specs.NobodyIsWaitedFor.{needs_no_lease, NobodyIsWaitedFor}
use Rattle.law_timely.specs.Timely.{is_dead}
use Rattle.law_timely.proofs.Covers.{Aged, none-asks}
use Rattle.law_timely.proofs.Moves.{was-open}
use Rattle.law_timely.proofs.Parts.{During, led, led-run, led-lawful, led-small}
use Rattle.law_timely.proofs.Settled.{server-append, host-append, ticks-twice, Since, since-event, now-is, settles}
use Rattle.law_timely.proofs.Waits.{Known, covered, known-event, Waits, timed}
use Rattle.law_timely.proofs.WaitsOn.{waits-event}

-- ---- lists

within-list : {A : Type 0} (xs : List A) (i : ℕ) → i < length xs → slice_get xs i ≡ None → ⊥
within-list [] i below none = omega arith
within-list (x ∷ xs) zero below none = absurd (cc)
within-list (x ∷ xs) (suc i) below none = within-list xs i (omega arith) none

module _ (most : ℕ) (head : Head) (dead : List ℕ) (host : ℕ) (live : is_dead dead host ≡ false) (there : host < head.hosts) where
  module _ (who : Who) (q old : ℕ) (s : Play) where
    -- the call is open no more
    abbrev IsOver : Play → Type 0
    IsOver p = (c : Client) (u : UnderWay) → slice_get p.world.clients host ≡ Some c → c.call ≡ Some u → u.q ≡ q → ⊥

    record Waiting (p : Play) : Type 0 where
      waits : Waits most head dead host live who q old (ticks_of host s.events) p
      few : server_ticks p.events ≤ server_ticks s.events + 4

    record State (p : Play) : Type 0 where
      known : Known most head dead host live who q old (ticks_of host s.events) p
      since : Since s p
      goes : IsOver p ⊎ Waiting p

    over-on : (p : Play) (e : Event) → During most head dead p e → State p → IsOver p → IsOver (play p e)
    over-on p e during h over d u at is number =
        let o = was-open most head host dead p e during who q h.known.some h.known.same d at u is number in
        over o.client o.call o.at o.is_open o.number

    -- at the server's fifth tick the client does not pause any more
    expired : (p : Play) → During most head dead p Event.ServerTick → State p → Waiting p → server_ticks s.events + 4 ≤ server_ticks p.events → IsOver p
    expired p during h w many c u at is number =
        let five : 5 ≤ server_ticks (Event.ServerTick ∷ h.since.0) =
        let all = ap server_ticks h.since.1 in let parts = server-append h.since.0 s.events in omega arith in
        let ticks : 2 ≤ ticks_of host (Event.ServerTick ∷ h.since.0) =
        ticks-twice head.hosts most host (Event.ServerTick ∷ p.events) (Event.ServerTick ∷ h.since.0) s.events during.after.within
        (ap (λ es. Event.ServerTick ∷ es) h.since.1) there long five in
        let all = ap (ticks_of host) h.since.1 in
        let parts = host-append host h.since.0 s.events in
        let time = timed most head dead host live who q old (ticks_of host s.events) p during.before c at in
        let clock = time.clock in
        let idle = none-asks most head host dead live p during.before during.timely
        (covered most head dead host live who q old (ticks_of host s.events) p h.known) c at in
        let pauses = time.busy u is idle in
        let soon = w.waits.soon c u at is number in
        omega arith
      where
        long : 1 ≤ most
        long = let first = during.before.bounds.first_long in let short = during.before.bounds.first_short in omega arith

    waiting-on : (p : Play) (e : Event) → During most head dead p e → State p → Waiting p → IsOver (play p e) ⊎ Waiting (play p e)
    waiting-on p e during h w = by (nat_le (server_ticks (e ∷ p.events)) (server_ticks s.events + 4)) refl
      where
        late : (f : Event) → During most head dead p f → server_ticks s.events + 4 < server_ticks (f ∷ p.events) → IsOver (play p f)
        late Event.ServerTick now many = over-on p Event.ServerTick now h (expired p now h w (omega arith))
        late (Event.Call g op) now many = let few = w.few in absurd (omega arith)
        late (Event.Deliver k) now many = let few = w.few in absurd (omega arith)
        late (Event.ClientTick g) now many = let few = w.few in absurd (omega arith)
        late (Event.Restart g) now many = let few = w.few in absurd (omega arith)
        late (Event.Crash longest) now many = let few = w.few in absurd (omega arith)

        by : (b : Bool) → nat_le (server_ticks (e ∷ p.events)) (server_ticks s.events + 4) ≡ b → IsOver (play p e) ⊎ Waiting (play p e)
        by true few = inr (record {
          waits = waits-event most head dead host live who q old (ticks_of host s.events) p h.known w.waits e during;
          few = is-at-most (server_ticks (e ∷ p.events)) (server_ticks s.events + 4) few;
        })
        by false many = inl (late e during (is-not-at-most (server_ticks (e ∷ p.events)) (server_ticks s.events + 4) many))

    state-event : (p : Play) (e : Event) → During most head dead p e → State p → State (play p e)
    state-event p e during h = record {
      known = known-event most head dead host live who q old (ticks_of host s.events) p e during h.known;
      since = since-event s p e h.since;
      goes = by h.goes;
    }
      where
        by : IsOver p ⊎ Waiting p → IsOver (play p e) ⊎ Waiting (play p e)
        by (inl over) = inl (over-on p e during h over)
        by (inr w) = waiting-on p e during h w

  first-state : (old : ℕ) (s : Play) → IsLawful most head s → Aged most head host old s → old + 2 ≤ ticks_of host s.events
      → recovers s.world.server.phase ≡ false → (c : Client) (u : UnderWay) → slice_get s.world.clients host ≡ Some c → c.call ≡ Some u
      → needs_no_lease u.call ≡ true → State c.who u.q old s s
  first-state old s l aged late serves c u at is needs = record {
    known = record {
      aged = aged;
      late = late;
      serves = serves;
      some = subst (λ (w : World). Exists (IsCall c.who u.q) w.journal) (sym l.is_run)
          (((calls-known most head s.events l.bounds l.within).clients host c at-run).calls_fit.under_way u is).is_open.0;
      same = λ d there_is. ap (λ (x : Client). x.who) (one d there_is);
    };
    since = ([], refl);
    goes = inr (record {
      waits = record {
        kind = λ d v there_is opens number. subst (λ (x : UnderWay). needs_no_lease x.call ≡ true)
            (some-same u v (sym is ∙ ap (λ (x : Client). x.call) (sym (one d there_is)) ∙ opens)) needs;
        soon = λ d v there_is opens number.
            let time = timed most head dead host live c.who u.q old (ticks_of host s.events) s l d there_is in
            let clock = time.clock in
            let short = time.short in
            omega arith;
        asks = λ again. absurd (omega arith);
      };
      few = omega arith;
    });
  }
    where
      at-run : slice_get (run head s.events).clients host ≡ Some c
      at-run = subst (λ (w : World). slice_get w.clients host ≡ Some c) l.is_run at

      one : (d : Client) → slice_get s.world.clients host ≡ Some d → d ≡ c
      one d there_is = some-same d c (sym there_is ∙ at)

  -- a call that is over is open no more in the journal
  closed : (who : Who) (q old : ℕ) (s t : Play) → IsLawful most head t → State who q old s t → server_ticks s.events + 4 < server_ticks t.events
      → IsOpen t.world.journal who q → ⊥
  closed who q old s t l h late open_one = by (slice_get t.world.clients host) refl
    where
      many : length t.world.clients ≡ head.hosts
      many = ap (λ (w : World). length w.clients) l.is_run ∙ client-count head t.events

      over : IsOver who q old s t ⊎ Waiting who q old s t → IsOver who q old s t
      over (inl o) = o
      over (inr w) = let few = w.few in absurd (omega arith)

      by : (o : Option Client) → slice_get t.world.clients host ≡ o → ⊥
      by None none = within-list t.world.clients host (let all = many in omega arith) none
      by (Some d) at =
          let at_run : slice_get (run head t.events).clients host ≡ Some d = subst (λ (w : World). slice_get w.clients host ≡ Some d) l.is_run at in
          let fit = ((calls-known most head t.events l.bounds l.within).clients host d at_run).calls_fit in
          let mine = h.known.same d at in
          let a = fit.alone q (subst (λ w. IsOpen (run head t.events).journal w q) (sym mine) (subst (λ (w : World). IsOpen w.journal who q) l.is_run
          open_one)) in
          over h.goes d a.0 at a.1 a.2

pub nobody-is-waited-for : NobodyIsWaitedFor
unfolding calmed
nobody-is-waited-for most head events under_way dead moment later first second lawful small late serves host c u has waits =
    let base = calmed head events under_way in
    let run_s = led-run most head dead base moment first refl in
    let l = led-lawful most head dead moment later second run_s lawful in
    let fits = led-small most head dead moment later second small in
    let there : host < head.hosts = (run-runs most head moment.events l.bounds l.within).few host c
    (subst (λ (w : World). slice_get w.clients host ≡ Some c) l.is_run has.there) in
    let settled = settles most head dead host base moment refl first l fits late there in
    let state = first-state most head dead host has.live there (ticks_of host events) moment l settled.aged settled.late serves c u has.there
    has.open_call has.needs in
    let end = led most head dead (State most head dead host has.live there c.who u.q (ticks_of host events) moment)
    (state-event most head dead host has.live there c.who u.q (ticks_of host events) moment) moment later second run_s lawful small state in
    let before = now-is most head moment l in
    let after = now-is most head later lawful in
    closed most head dead host has.live there c.who u.q (ticks_of host events) moment later lawful end (omega arith)
