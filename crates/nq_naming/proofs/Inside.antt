-- The inner events of a run with lists: each can be told where those of the schedule can, and those of an earlier moment come first.
use Rattle.std.proofs.Common.{◌≡◌, List, [], ◌∷◌, ◌++◌, refl, sym, ap, subst, ◌∙◌, ℕ, append_assoc}
use Rattle.std.specs.List.{AllByRecursion}
use Rattle.std.specs.Prelude.{slice_get}
use Rattle.nq_base.specs.declared.Event.{Event}
use Rattle.nq_model.specs.protocol.World.{Head}
use Rattle.nq_name_server.proofs.Inner.{core-listing, delivery-cases, inner-ran}
use Rattle.nq_name_server.specs.declared.run.event.NameEvent.{NameEvent}
use Rattle.nq_name_server.specs.Outer.{Outside, outside_start}
use Rattle.nq_name_server.specs.Outside.{inner, outside_run, outside_step}

-- ---- what holds of each inner event

module _ (P : Event → Type 0) (deliver : (k : ℕ) → P (Event.Deliver k)) where
  -- an event of a schedule with lists is such a one
  abbrev pub IsPlainly : NameEvent → Type 0
  IsPlainly (NameEvent.Plain event) = P event
  IsPlainly (NameEvent.List host prefix) = Unit {0}

  inner-all : (o : Outside) (event : Event) → P event → AllByRecursion P o.ran → AllByRecursion P (inner o event).ran
  inner-all o event is all = subst (AllByRecursion P) (sym (ap (λ i. i.1) (inner-ran o event))) (is, all)

  step-all : (o : Outside) (event : NameEvent) → IsPlainly event → AllByRecursion P o.ran → AllByRecursion P (outside_step o event).ran
  step-all o (NameEvent.List host prefix) is all =
      subst (AllByRecursion P) (sym (ap (λ i. i.1) (core-listing o host prefix (slice_get o.sides host) (slice_get o.world.clients host)))) all
  step-all o (NameEvent.Plain (Event.Deliver number)) is all =
      delivery-cases o (λ i. AllByRecursion P i.1) all (λ k. (deliver k, all)) (slice_get o.sent number)
  step-all o (NameEvent.Plain (Event.Call host op)) is all = inner-all o (Event.Call host op) is all
  step-all o (NameEvent.Plain Event.ServerTick) is all = inner-all o Event.ServerTick is all
  step-all o (NameEvent.Plain (Event.ClientTick host)) is all = inner-all o (Event.ClientTick host) is all
  step-all o (NameEvent.Plain (Event.Restart host)) is all = inner-all o (Event.Restart host) is all
  step-all o (NameEvent.Plain (Event.Crash longest)) is all = inner-all o (Event.Crash longest) is all

  start-all : (head : Head) → AllByRecursion P (outside_start head).ran
  unfolding outside_start
  start-all head = tt

  pub run-all : (head : Head) (events : List NameEvent) → AllByRecursion IsPlainly events → AllByRecursion P (outside_run head events).ran
  run-all head [] all = start-all head
  run-all head (event ∷ earlier) all = step-all (outside_run head earlier) event all.0 (run-all head earlier all.1)

-- ---- what was run before

-- there are these, and maybe later ones
abbrev pub GoesOn : {X : Type 0} → (before after : List X) → Type 0
GoesOn before after = (later : List _) × (after ≡ later ++ before)

-- one more event at most
inner-on : (o : Outside) (event : Event) → GoesOn o.ran (inner o event).ran
inner-on o event = (event ∷ [], ap (λ i. i.1) (inner-ran o event))

step-on : (o : Outside) (event : NameEvent) → GoesOn o.ran (outside_step o event).ran
step-on o (NameEvent.List host prefix) =
    ([], ap (λ i. i.1) (core-listing o host prefix (slice_get o.sides host) (slice_get o.world.clients host)))
step-on o (NameEvent.Plain (Event.Deliver number)) =
    delivery-cases o (λ i. GoesOn o.ran i.1) ([], refl) (λ k. (Event.Deliver k ∷ [], refl)) (slice_get o.sent number)
step-on o (NameEvent.Plain (Event.Call host op)) = inner-on o (Event.Call host op)
step-on o (NameEvent.Plain Event.ServerTick) = inner-on o Event.ServerTick
step-on o (NameEvent.Plain (Event.ClientTick host)) = inner-on o (Event.ClientTick host)
step-on o (NameEvent.Plain (Event.Restart host)) = inner-on o (Event.Restart host)
step-on o (NameEvent.Plain (Event.Crash longest)) = inner-on o (Event.Crash longest)

-- and so over many events
pub run-on : (head : Head) (later earlier : List NameEvent) → GoesOn (outside_run head earlier).ran (outside_run head (later ++ earlier)).ran
run-on head [] earlier = ([], refl)
run-on head (event ∷ later) earlier =
    let before = run-on head later earlier in
    let last = step-on (outside_run head (later ++ earlier)) event in
    (last.0 ++ before.0, last.1 ∙ ap (λ r. last.0 ++ r) before.1 ∙ sym (append_assoc last.0 before.0 (outside_run head earlier).ran))
