-- What running an event of the inner world changes around it.
use Rattle.std.proofs.Common.{◌≡◌, ℕ, ◌+◌, List, ◌∷◌, reverse, Option, refl, sym, ap, subst, ◌∙◌}
use Rattle.nq_base.specs.declared.Event.{Event}
use Rattle.nq_model.specs.protocol.Kept.{Kept}
use Rattle.nq_model.specs.protocol.Server.{Phase, serving, recovering, Server, ServerStep}
use Rattle.nq_model.specs.protocol.ServerStep.{boot, crash, tick}
use Rattle.nq_model.specs.protocol.Table.{Table, empty_table}
use Rattle.nq_model.specs.protocol.World.{Head, World, after_server, run, step}
use Rattle.walk_steps.proofs.LeaseIntervals.{run-runs}
use Rattle.nq_name_server.specs.Served.{Served, new_served}
use Rattle.nq_name_server.specs.Serving.{ticks}
use Rattle.nq_name_server.specs.Outer.{of_boot}
use Rattle.nq_server.specs.State.{Beside}
use Rattle.nq_world.proofs.Going.{runs-are-lawful}
use Rattle.nq_world.specs.Playing.{Plays, WorldOver, seen_of}
use Rattle.nq_world.specs.declared.Stepped.{Stepped}
use Rattle.nq_name_server.specs.Around.{AroundOver}
use Rattle.nq_names.specs.Playing.{NamesOver, RunsInner, RunsTo}
use Rattle.walk_steps.proofs.ServerMoves.{tick-keeps}
use Rattle.walk_steps.proofs.ServerTables.{BootsFit, BootsFitOf}

-- ---- the server's clock

after-is : (w : World) (t : ServerStep) → (after_server w t).server ≡ t.server
unfolding after_server
after-is w t = refl

tick-time : {K : Type 0} (head : Head) (events : List Event) (w : WorldOver K) (told : Option Kept) → Plays head events w told
    → w.server.beside.time + 1 ≡ (step (run head events) Event.ServerTick).server.now
tick-time head events w told plays =
    let s = (run head events).server in
    ap (λ (b : Beside). b.time + 1) plays.holds
    ∙ sym (ap (λ (x : Server). x.now) (after-is (run head events) (tick s (s.now + 1))) ∙ (tick-keeps s (s.now + 1)).1)

-- ---- a boot

table-boot : (kept opened : ℕ) (phase : Phase) (table : Table) → BootsFit kept opened phase table → table.boot ≡ kept
table-boot kept opened serving table b = b.table_boot
table-boot kept opened (recovering until heard last) table b = b.table_boot

crash-served : (s : Server) (longest : ℕ) → ((crash s longest).server.table.boot ≡ s.kept.boot + 1) × ((crash s longest).server.longest ≡ longest)
    × ((crash s longest).server.now ≡ s.now)
unfolding crash boot empty_table
crash-served s longest = (refl, refl, refl)

crash-leases : {K : Type 0} (head : Head) (events : List Event) (w : WorldOver K) (told : Option Kept) (longest : ℕ) → Plays head events w told
    → new_served (w.server.beside.table.boot + 1) longest w.server.beside.time ≡ of_boot (step (run head events) (Event.Crash longest))
crash-leases head events w told longest plays =
    let v = run head events in
    let s = v.server in
    let lawful = runs-are-lawful head events (seen_of w) w.skew plays.shown in
    let boots : BootsFitOf s = (run-runs head.longest head events lawful.1 lawful.2).served.boots in
    let one : s.table.boot ≡ s.kept.boot = table-boot s.kept.boot s.kept.opened s.phase s.table boots in
    let made = crash-served s longest in
    let of : (step v (Event.Crash longest)).server ≡ (crash s longest).server = after-is v (crash s longest) in
    ap (λ (b : Beside). new_served (b.table.boot + 1) longest b.time) plays.holds
    ∙ ap (λ n. new_served (n + 1) longest s.now) one
    ∙ ap (λ n. new_served n longest s.now) (sym made.0)
    ∙ ap (λ n. new_served (crash s longest).server.table.boot n s.now) (sym made.1)
    ∙ ap (λ n. new_served (crash s longest).server.table.boot (crash s longest).server.longest n) (sym made.2)
    ∙ ap (λ (x : Server). new_served x.table.boot x.longest x.now) (sym of)

-- ---- what stands around

-- a tick of the server's clock
pub runs-ticked : {K : Type 0} (head : Head) (time : ℕ) (old mid new : NamesOver K) (told tells : Option Kept) → Plays head (reverse old.ran) old.inner told
    → RunsTo head Event.ServerTick Stepped.Done old mid told tells old.around → mid.around ≡ old.around
    → time ≡ old.inner.server.beside.time + 1 → new.around ≡ record mid.around { served = ticks mid.around.served time } → new.inner ≡ mid.inner
    → new.ran ≡ mid.ran
    → RunsInner head Event.ServerTick Stepped.Done old new told tells
runs-ticked head time old mid new told tells plays r same next around inner ran =
    let rn = reverse old.ran in
    let now : time ≡ (step (run head rn) Event.ServerTick).server.now = next ∙ tick-time head rn old.inner told plays in (
      r.0,
      subst (λ i. Plays head (Event.ServerTick ∷ rn) i tells) (sym inner) r.1,
      ran ∙ r.2,
      around ∙ ap (λ (a : AroundOver). record a { served = ticks a.served time }) same
          ∙ ap (λ t. record old.around { served = ticks old.around.served t }) now,
    )

-- a crash
pub runs-crashed : {K : Type 0} (head : Head) (longest time : ℕ) (server : Served) (old mid new : NamesOver K) (told tells : Option Kept)
    → Plays head (reverse old.ran) old.inner told
    → RunsTo head (Event.Crash longest) Stepped.Done old mid told tells old.around → mid.around ≡ old.around
    → server ≡ new_served (old.inner.server.beside.table.boot + 1) longest time → time ≡ old.inner.server.beside.time
    → new.around ≡ record mid.around { served = server } → new.inner ≡ mid.inner → new.ran ≡ mid.ran
    → RunsInner head (Event.Crash longest) Stepped.Done old new told tells
runs-crashed head longest time server old mid new told tells plays r same is at around inner ran =
    let rn = reverse old.ran in
    let made : server ≡ new_served (old.inner.server.beside.table.boot + 1) longest old.inner.server.beside.time = is
    ∙ ap (new_served (old.inner.server.beside.table.boot + 1) longest) at in (
      r.0,
      subst (λ i. Plays head (Event.Crash longest ∷ rn) i tells) (sym inner) r.1,
      ran ∙ r.2,
      around ∙ ap (λ (a : AroundOver). record a { served = server }) same
          ∙ ap (λ s. record old.around { served = s }) (made ∙ crash-leases head rn old.inner told longest plays),
    )
