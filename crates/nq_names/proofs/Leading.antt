-- What each event leads to, in a world where all that was sent has gone out.
use Rattle.std.proofs.Common.{◌≡◌, ◌<◌, inl, inr, ℕ, List, ◌∷◌, length, reverse, Option, Some, None, refl, sym, ap, subst, ◌∙◌}
use Rattle.std.specs.Prelude.{slice_get}
use Rattle.nq_base.specs.declared.Event.{Event}
use Rattle.nq_client.specs.Counted.{Counted}
use Rattle.nq_directory.specs.Prefix.{IsPrefix}
use Rattle.nq_model.specs.protocol.Kept.{Kept}
use Rattle.nq_model.specs.protocol.Stepped.{done, stepped}
use Rattle.nq_model.specs.protocol.World.{Head, World, run}
use Rattle.nq_name_server.specs.declared.run.event.NameEvent.{NameEvent}
use Rattle.nq_name_server.specs.Outer.{Outer, Outside}
use Rattle.nq_name_server.specs.Outside.{delivers, inner, lists, outside_run, outside_step, takes}
use Rattle.nq_world.specs.Answering.{IsOfTests}
use Rattle.nq_world.specs.Playing.{Plays}
use Rattle.nq_world.specs.declared.Stepped.{Stepped}
use Rattle.nq_name_server.proofs.GoingOut.{there}
use Rattle.nq_name_server.specs.Around.{once_sent, over}
use Rattle.nq_names.proofs.Agreeing.{NoDelivery, deliver-agrees, deliver-done, inner-agrees, list-done}
use Rattle.nq_names.proofs.Hearing.{client-there}
use Rattle.nq_names.proofs.Reaching.{inner-leads, reached-over, reached-ran, reaches-beside, reaches-same}
use Rattle.nq_names.specs.Playing.{IsLeft, IsReady, IsTested, Leads, NamesOver, Reaches, RunsInner, stepped_outside}
use Rattle.nq_names.specs.Taking.{TakesBeside, TakesIn, TakesInner, outside_of}

-- ---- an event of the inner world

plain-step : (o : Outside) (event : Event) → NoDelivery event → outside_step o (NameEvent.Plain event) ≡ inner o event
plain-step o (Event.Call host op) free = refl
plain-step o (Event.Deliver k) free = absurd free
plain-step o Event.ServerTick free = refl
plain-step o (Event.ClientTick host) free = refl
plain-step o (Event.Restart host) free = refl
plain-step o (Event.Crash longest) free = refl

pub plain-leads : {K : Type 0} (head : Head) (events : List NameEvent) (event : Event) (said : Stepped) (old new : NamesOver K)
    (told tells : Option Kept) → NoDelivery event → IsReady old → Reaches head events old told
    → IsLeft (stepped_outside head events (NameEvent.Plain event))
    → (Plays head (reverse old.ran) old.inner told → RunsInner head event said old new told tells)
    → Leads head events (NameEvent.Plain event) said told tells (λ es kept. Reaches head es new kept)
plain-leads head events event said old new told tells free ready r left runs =
    let rn = reverse old.ran in
    let agree : stepped head rn event ≡ stepped_outside head events (NameEvent.Plain event) =
    subst (λ l. stepped head l event ≡ stepped_outside head events (NameEvent.Plain event)) (reached-ran head events old told r)
    (inner-agrees head events event free left) in
    inner-leads head events (NameEvent.Plain event) event said old new told tells ready r agree (plain-step (over (run head rn) rn old.around) event
    free) tt left (runs r.inner)

-- ---- a delivery

delivers-some : (o : Outside) (n : ℕ) (p : Outer) → slice_get o.sent n ≡ Some p → outside_step o (NameEvent.Plain (Event.Deliver n)) ≡ takes o p p.to
delivers-some o n p is = ap (delivers o) is

-- a packet that was taken in and is no event of the inner world
beside-leads : {K : Type 0} (head : Head) (events : List NameEvent) (n : ℕ) (p : Outer) (said : Stepped) (old new : NamesOver K)
    (told tells : Option Kept) → IsReady old → Reaches head events old told
    → slice_get old.around.sent n ≡ Some p
    → IsLeft (stepped_outside head events (NameEvent.Plain (Event.Deliver n)))
    → TakesBeside head said old new told tells (takes (outside_of head old) p p.to)
    → Leads head events (NameEvent.Plain (Event.Deliver n)) said told tells (λ es kept. Reaches head es new kept)
beside-leads head events n p Stepped.Done old new told tells ready r at left b = (
  deliver-done head events n left,
  reaches-beside head events (NameEvent.Plain (Event.Deliver n)) old new told tells ready r b.plays b.ran b.gone (b.leads
      ∙ sym (delivers-some (outside_of head old) n p at)) tt left,
)
beside-leads head events n p Stepped.Fault old new told tells ready r at left b =
    (deliver-done head events n left, λ same. reaches-same head events old new told tells r (b.0 same) b.2 b.3, b.1)
beside-leads head events n p Stepped.Memory old new told tells ready r at left b =
    (reaches-same head events old new told tells r b.0 b.2 b.3, b.1)
beside-leads head events n p Stepped.NoPacket old new told tells ready r at left b = absurd b
beside-leads head events n p (Stepped.SkewBroken broken) old new told tells ready r at left b = absurd b
beside-leads head events n p (Stepped.Limit limit) old new told tells ready r at left b = absurd b

-- the delivery of the inner packet that it is
through-leads : {K : Type 0} (head : Head) (events : List NameEvent) (n : ℕ) (p : Outer) (is : Option ℕ) (said : Stepped) (old new : NamesOver K)
    (told tells : Option Kept) → IsReady old → Reaches head events old told
    → slice_get old.around.sent n ≡ Some p → p.is ≡ is
    → IsLeft (stepped_outside head events (NameEvent.Plain (Event.Deliver n)))
    → TakesInner head is said old new told tells (takes (outside_of head old) p p.to)
    → Leads head events (NameEvent.Plain (Event.Deliver n)) said told tells (λ es kept. Reaches head es new kept)
through-leads head events n p None said old new told tells ready r at is left t = absurd t
through-leads head events n p (Some k) said old new told tells ready r at is left t =
    let rn = reverse old.ran in
    let sent : slice_get (outside_run head events).sent n ≡ Some p = subst (λ (o : Outside). slice_get o.sent n ≡ Some p)
    (sym (reached-over head events old told ready r)) at in
    let agree : stepped head rn (Event.Deliver k) ≡ stepped_outside head events (NameEvent.Plain (Event.Deliver n)) =
    subst (λ l. stepped head l (Event.Deliver k) ≡ stepped_outside head events (NameEvent.Plain (Event.Deliver n))) (reached-ran head events old told
    r) (deliver-agrees head events n k p sent is left) in
    inner-leads head events (NameEvent.Plain (Event.Deliver n)) (Event.Deliver k) said old new told tells ready r agree
    (delivers-some (outside_of head old) n p at ∙ sym t.0) tt left t.1

pub delivered-leads : {K : Type 0} (head : Head) (events : List NameEvent) (n : ℕ) (p q : Outer) (said : Stepped) (old new : NamesOver K)
    (told tells : Option Kept) → IsReady old → Reaches head events old told
    → slice_get old.around.sent n ≡ Some p → q ≡ p
    → IsLeft (stepped_outside head events (NameEvent.Plain (Event.Deliver n)))
    → (Plays head (reverse old.ran) old.inner told → TakesIn head q.is said old new told tells (takes (outside_of head old) q q.to))
    → Leads head events (NameEvent.Plain (Event.Deliver n)) said told tells (λ es kept. Reaches head es new kept)
delivered-leads head events n p q said old new told tells ready r at same left taken =
    by (subst (λ (x : Outer). TakesIn head x.is said old new told tells (takes (outside_of head old) x x.to)) same (taken r.inner))
  where
    by : TakesIn head p.is said old new told tells (takes (outside_of head old) p p.to)
        → Leads head events (NameEvent.Plain (Event.Deliver n)) said told tells (λ es kept. Reaches head es new kept)
    by (inl b) = beside-leads head events n p said old new told tells ready r at left b
    by (inr t) = through-leads head events n p p.is said old new told tells ready r at refl left t

-- ---- a list

pub listed-leads : {K : Type 0} (head : Head) (events : List NameEvent) (host : ℕ) (prefix : List ℕ) (old new : NamesOver K) (told : Option Kept)
    → IsReady old → Reaches head events old told
    → host < length old.inner.clients → IsPrefix prefix
    → new.inner ≡ old.inner → new.ran ≡ old.ran → new.around.gone ≡ old.around.gone
    → ((w : World) (ran : List Event) (c : Counted) → slice_get old.inner.clients host ≡ Some c → once_sent w ran new.around
    ≡ lists (over w ran old.around) host prefix (slice_get old.around.sides host) (Some c.client))
    → IsLeft (stepped_outside head events (NameEvent.List host prefix))
    → (stepped_outside head events (NameEvent.List host prefix) ≡ done) × Reaches head (NameEvent.List host prefix ∷ events) new told
listed-leads head events host prefix old new told ready r below short inner ran gone leads left =
    let rn = reverse old.ran in
    let v = run head rn in
    let x = there old.inner.clients host below in
    let o = over v rn old.around in
    let client : slice_get v.clients host ≡ Some x.0.client = client-there head rn old.inner told r.inner host x.0 x.1 in (
      list-done head events host prefix left,
      reaches-beside head events (NameEvent.List host prefix) old new told told ready r (subst (λ i. Plays head rn i told) (sym inner) r.inner) ran gone
          (leads v rn x.0 x.1 ∙ ap (lists o host prefix (slice_get old.around.sides host)) (sym client)) short left,
    )

pub listed-memory : {K : Type 0} (head : Head) (events : List NameEvent) (old new : NamesOver K) (told : Option Kept) → Reaches head events old told
    → new.inner ≡ old.inner → new.ran ≡ old.ran → new.around ≡ old.around → Reaches head events new told × (told ≡ told)
listed-memory head events old new told r inner ran around =
    (reaches-same head events old new told told r (subst (λ i. Plays head (reverse old.ran) i told) (sym inner) r.inner) ran around, refl)

-- ---- what the tests refuse

pub refused-leads : (head : Head) (events : List NameEvent) (event : NameEvent) (said : Stepped) (told : Option Kept) (P : List NameEvent
    → Option Kept → Type 0) → (said ≡ Stepped.Done → ⊥) → IsOfTests said → IsTested said (stepped_outside head events event) → P events told
    → Leads head events event said told told P
refused-leads head events event Stepped.Done told P other own tested here = absurd (other refl)
refused-leads head events event Stepped.NoPacket told P other own tested here = (tested, here, refl)
refused-leads head events event (Stepped.SkewBroken broken) told P other own tested here = (tested, here, refl)
refused-leads head events event (Stepped.Limit limit) told P other own tested here = (tested, here, refl)
refused-leads head events event Stepped.Fault told P other own tested here = absurd own
refused-leads head events event Stepped.Memory told P other own tested here = absurd own
