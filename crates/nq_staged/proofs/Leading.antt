-- What each event leads to, in a world where all that was sent has gone out.
use Rattle.std.proofs.Common.{◌≡◌, ◌<◌, ℕ, Bool, false, List, ◌∷◌, length, reverse, Option, Some, IfSome, refl, sym, ap, subst, ◌∙◌}
use Rattle.std.proofs.lemmas.Option.{slice_get-map}
use Rattle.std.specs.Option.{option_map}
use Rattle.std.specs.Prelude.{slice_get}
use Rattle.nq_base.specs.declared.Event.{Event}
use Rattle.nq_client_parts.specs.Delayed.{Delayed}
use Rattle.nq_model.specs.protocol.Client.{Client}
use Rattle.nq_model.specs.protocol.Kept.{Kept}
use Rattle.nq_model.specs.protocol.Stepped.{done, stepped}
use Rattle.nq_model.specs.protocol.World.{Head, World, run}
use Rattle.nq_stage.specs.declared.run.event.StagedEvent.{StagedEvent}
use Rattle.nq_stage.specs.Outer.{Outer, Outside}
use Rattle.nq_stage.specs.Outside.{delivers, inner, offers, outside_run, outside_step, takes}
use Rattle.nq_stage.specs.Theorem.{EventBrings}
use Rattle.nq_world.specs.Answering.{IsOfTests}
use Rattle.nq_world.specs.Playing.{Plays}
use Rattle.nq_world.specs.declared.Stepped.{Stepped}
use Rattle.nq_staged.proofs.Agreeing.{NoDelivery, deliver-agrees, deliver-done, deliver-there, inner-agrees, stage-done}
use Rattle.nq_staged.proofs.Reaching.{inner-leads, reached-over, reached-ran, reaches-beside, reaches-same, schedule-more}
use Rattle.nq_staged.proofs.Sending.{there}
use Rattle.nq_staged.specs.Around.{once_sent, over}
use Rattle.nq_staged.specs.Worlds.{IsLeft, IsReady, IsTested, Leads, Reaches, RunsInner, StagedOver, stepped_outside}
use Rattle.nq_staged.specs.Taking.{IsTakenIn}
use Rattle.nq_staged.specs.declared.commit.taking.PacketTaken.{PacketTaken}

-- ---- an event of the inner world

plain-step : (o : Outside) (event : Event) → NoDelivery event → outside_step o (StagedEvent.Plain event) ≡ inner o event
plain-step o (Event.Call host op) free = refl
plain-step o (Event.Deliver k) free = absurd free
plain-step o Event.ServerTick free = refl
plain-step o (Event.ClientTick host) free = refl
plain-step o (Event.Restart host) free = refl
plain-step o (Event.Crash longest) free = refl

pub plain-leads : {K : Type 0} (head : Head) (events : List StagedEvent) (event : Event) (said : Stepped) (old new : StagedOver K)
    (told tells : Option Kept) → NoDelivery event → EventBrings event → IsReady old → Reaches head events old told
    → IsLeft (stepped_outside head events (StagedEvent.Plain event))
    → (Plays head (reverse old.ran) old.inner told → RunsInner head event false said old new told tells)
    → Leads head events (StagedEvent.Plain event) said told tells (λ es kept. Reaches head es new kept)
plain-leads head events event said old new told tells free brings ready r left runs =
    let rn = reverse old.ran in
    let agree : stepped head rn event ≡ stepped_outside head events (StagedEvent.Plain event) =
    subst (λ l. stepped head l event ≡ stepped_outside head events (StagedEvent.Plain event)) (reached-ran head events old told r)
    (inner-agrees head events event free left) in
    inner-leads head events (StagedEvent.Plain event) event false said old new told tells ready r agree (plain-step (over (run head rn) rn old.around)
    event free)
    (schedule-more head events (StagedEvent.Plain event) r.schedule brings left) (runs r.inner)

-- ---- a delivery

pub travels-there : {K : Type 0} (head : Head) (events : List StagedEvent) (n : ℕ) (w : StagedOver K) (told : Option Kept) → IsReady w
    → Reaches head events w told → IsLeft (stepped_outside head events (StagedEvent.Plain (Event.Deliver n))) → n < length w.around.sent
travels-there head events n w told ready r left =
    subst (λ (o : Outside). n < length o.sent) (reached-over head events w told ready r) (deliver-there head events n left)

delivers-some : (o : Outside) (n : ℕ) (p : Outer) → slice_get o.sent n ≡ Some p → outside_step o (StagedEvent.Plain (Event.Deliver n)) ≡ takes o p p.to
delivers-some o n p is = ap (delivers o) is

pub delivered-beside : {K : Type 0} (head : Head) (events : List StagedEvent) (n : ℕ) (old new : StagedOver K) (told : Option Kept) → IsReady old
    → Reaches head events old told
    → new.inner ≡ old.inner → new.ran ≡ old.ran → n < length old.around.sent
    → IfSome (slice_get old.around.sent n) (λ p. IsTakenIn PacketTaken.Beside p.stands old.around new.around (λ w ran. takes (over w ran old.around) p p.to))
    → IsLeft (stepped_outside head events (StagedEvent.Plain (Event.Deliver n)))
    → (stepped_outside head events (StagedEvent.Plain (Event.Deliver n)) ≡ done) × Reaches head (StagedEvent.Plain (Event.Deliver n) ∷ events) new told
delivered-beside head events n old new told ready r inner ran less taken left =
    let x = there old.around.sent n less in
    let rn = reverse old.ran in
    let v = run head rn in
    let is : IsTakenIn PacketTaken.Beside x.0.stands old.around new.around (λ w ran. takes (over w ran old.around) x.0 x.0.to) =
    subst (λ o. IfSome o (λ p. IsTakenIn PacketTaken.Beside p.stands old.around new.around (λ w ran. takes (over w ran old.around) p p.to))) x.1 taken in (
      deliver-done head events n left,
      reaches-beside head events (StagedEvent.Plain (Event.Deliver n)) old new told ready r inner ran is.0
          (is.1 v rn ∙ sym (delivers-some (over v rn old.around) n x.0 x.1))
          (schedule-more head events (StagedEvent.Plain (Event.Deliver n)) r.schedule tt left),
    )

pub delivered-memory : {K : Type 0} (head : Head) (events : List StagedEvent) (n : ℕ) (old new : StagedOver K) (told : Option Kept)
    → Reaches head events old told
    → new.inner ≡ old.inner → new.ran ≡ old.ran → n < length old.around.sent
    → IfSome (slice_get old.around.sent n) (λ p. IsTakenIn PacketTaken.Memory p.stands old.around new.around (λ w ran. takes (over w ran old.around) p p.to))
    → Reaches head events new told
delivered-memory head events n old new told r inner ran less taken =
    let x = there old.around.sent n less in
    let is : new.around ≡ old.around = subst (λ o. IfSome o (λ p. IsTakenIn PacketTaken.Memory p.stands old.around new.around
    (λ w ran. takes (over w ran old.around) p p.to))) x.1 taken in
    reaches-same head events old new told told r (subst (λ i. Plays head (reverse old.ran) i told) (sym inner) r.inner) ran is

pub delivered-inner : {K : Type 0} (head : Head) (events : List StagedEvent) (n k : ℕ) (commit : Bool) (said : Stepped) (old mid new : StagedOver K)
    (told tells : Option Kept) → IsReady old → Reaches head events old told
    → n < length old.around.sent
    → IfSome (slice_get old.around.sent n) (λ p. IsTakenIn (PacketTaken.Inner k commit) p.stands old.around mid.around
    (λ w ran. takes (over w ran old.around) p p.to))
    → mid ≡ record old { around = mid.around }
    → IsLeft (stepped_outside head events (StagedEvent.Plain (Event.Deliver n)))
    → (Plays head (reverse mid.ran) mid.inner told → RunsInner head (Event.Deliver k) commit said mid new told tells)
    → Leads head events (StagedEvent.Plain (Event.Deliver n)) said told tells (λ es kept. Reaches head es new kept)
delivered-inner head events n k commit said old mid new told tells ready r less taken same left runs =
    let x = there old.around.sent n less in
    let rn = reverse old.ran in
    let v = run head rn in
    let is : IsTakenIn (PacketTaken.Inner k commit) x.0.stands old.around mid.around (λ w ran. takes (over w ran old.around) x.0 x.0.to) =
    subst (λ o. IfSome o (λ p. IsTakenIn (PacketTaken.Inner k commit) p.stands old.around mid.around (λ w ran. takes (over w ran old.around) p p.to))) x.1 taken in
    let all : mid ≡ old = same ∙ ap (λ a. record old { around = a }) is.0 in
    let back = subst (λ m. Plays head (reverse m.ran) m.inner told → RunsInner head (Event.Deliver k) commit said m new told tells) all runs in
    let sent : slice_get (outside_run head events).sent n ≡ Some x.0 = subst (λ (o : Outside). slice_get o.sent n ≡ Some x.0)
    (sym (reached-over head events old told ready r)) x.1 in
    let agree : stepped head rn (Event.Deliver k) ≡ stepped_outside head events (StagedEvent.Plain (Event.Deliver n)) =
    subst (λ l. stepped head l (Event.Deliver k) ≡ stepped_outside head events (StagedEvent.Plain (Event.Deliver n))) (reached-ran head events old
    told r) (deliver-agrees head events n k x.0 sent is.1 left) in
    inner-leads head events (StagedEvent.Plain (Event.Deliver n)) (Event.Deliver k) commit said old new told tells ready r agree
    (delivers-some (over v rn old.around) n x.0 x.1 ∙ sym (is.2 v rn))
    (schedule-more head events (StagedEvent.Plain (Event.Deliver n)) r.schedule tt left) (back r.inner)

-- ---- an offer

pub offered-leads : {K : Type 0} (head : Head) (events : List StagedEvent) (host : ℕ) (old new : StagedOver K) (told : Option Kept) (dirty : Delayed)
    → IsReady old → Reaches head events old told
    → host < length old.inner.clients
    → IfSome (slice_get old.inner.clients host) (λ c. dirty.dirty ≡ c.client.dirty)
    → IfSome (slice_get old.inner.clients host) (λ c. dirty.push ≡ c.client.push)
    → new.inner ≡ old.inner → new.ran ≡ old.ran → new.around.gone ≡ old.around.gone
    → ((w : World) (ran : List Event) (c : Client) → c.dirty ≡ dirty.dirty → c.push ≡ dirty.push → once_sent w ran new.around
    ≡ offers (over w ran old.around) host (slice_get old.around.sides host) (Some c))
    → IsLeft (stepped_outside head events (StagedEvent.Stage host))
    → (stepped_outside head events (StagedEvent.Stage host) ≡ done) × Reaches head (StagedEvent.Stage host ∷ events) new told
offered-leads head events host old new told dirty ready r below d p inner ran gone leads left =
    let rn = reverse old.ran in
    let v = run head rn in
    let x = there old.inner.clients host below in
    let c : Client = x.0.client in
    let dirty-is : c.dirty ≡ dirty.dirty = sym (subst (λ o. IfSome o (λ y. dirty.dirty ≡ y.client.dirty)) x.1 d) in
    let push-is : c.push ≡ dirty.push = sym (subst (λ o. IfSome o (λ y. dirty.push ≡ y.client.push)) x.1 p) in
    let client : slice_get v.clients host ≡ Some c =
    ap (λ l. slice_get l host) (sym r.inner.shown.shows.clients) ∙ slice_get-map (λ y. y.client) old.inner.clients host
    ∙ ap (option_map (λ y. y.client)) x.1 in
    let o = over v rn old.around in (
      stage-done head events host left,
      reaches-beside head events (StagedEvent.Stage host) old new told ready r inner ran gone
          (leads v rn c dirty-is push-is ∙ ap (offers o host (slice_get old.around.sides host)) (sym client))
          (schedule-more head events (StagedEvent.Stage host) r.schedule tt left),
    )

-- ---- what the tests refuse

pub refused-leads : (head : Head) (events : List StagedEvent) (event : StagedEvent) (said : Stepped) (told : Option Kept) (P : List StagedEvent
    → Option Kept → Type 0) → (said ≡ Stepped.Done → ⊥) → IsOfTests said → IsTested said (stepped_outside head events event) → P events told
    → Leads head events event said told told P
refused-leads head events event Stepped.Done told P other own tested here = absurd (other refl)
refused-leads head events event Stepped.NoPacket told P other own tested here = (tested, here, refl)
refused-leads head events event (Stepped.SkewBroken broken) told P other own tested here = (tested, here, refl)
refused-leads head events event (Stepped.Limit limit) told P other own tested here = (tested, here, refl)
refused-leads head events event Stepped.Fault told P other own tested here = absurd own
refused-leads head events event Stepped.Memory told P other own tested here = absurd own
