-- All inner events of a staged run can be told in a schedule, where those of the staged schedule can.
use Rattle.std.proofs.Common.{◌≡◌, ℕ, ◌+◌, List, [], ◌∷◌, length, drop, Option, Some, None, sym, ap, subst, ◌∙◌}
use Rattle.std.specs.List.{AllByRecursion}
use Rattle.std.specs.Prelude.{slice_get}
use Rattle.nq_base.specs.declared.Event.{Event}
use Rattle.nq_base.specs.declared.Party.{Party}
use Rattle.nq_model.specs.protocol.Client.{Client}
use Rattle.nq_model.specs.protocol.World.{Head, step}
use Rattle.nq_stage.specs.Answering.{Answer, write, unstaged, own_stage, own_commit, staged, answered}
use Rattle.nq_stage.specs.Bodies.{Bodies}
use Rattle.nq_stage.specs.declared.Commit.{Commit}
use Rattle.nq_stage.specs.declared.Written.{Written}
use Rattle.nq_stage.specs.Reading.{Stage}
use Rattle.nq_stage.specs.Hearing.{Told, acknowledged, again, other, told_by}
use Rattle.nq_stage.specs.Offering.{offer_of}
use Rattle.nq_stage.specs.declared.run.event.StagedEvent.{StagedEvent}
use Rattle.nq_stage.specs.Outer.{Outer, Side, Outside, outside_start}
use Rattle.nq_stage.specs.Outside.{sends, renewed, inner, inner_delivery, takes_stage, takes_commit, served_commit, served_stage, to_server}
use Rattle.nq_stage.specs.Outside.{told_side, heard_by, to_host, takes, delivers, sends_stage, offers_body, offers, outside_step, outside_run}
use Rattle.nq_stage.proofs.Inner.{ran, sent-all}

module _ (P : Event → Type 0) (deliver : (k : ℕ) → P (Event.Deliver k)) where
  abbrev All : Outside → Type 0
  All o = AllByRecursion P o.ran

  -- an event of a staged schedule is such a one
  abbrev pub IsPlainly : StagedEvent → Type 0
  IsPlainly (StagedEvent.Plain event) = P event
  IsPlainly (StagedEvent.Stage host) = Unit {0}

  inner-all : (o : Outside) (event : Event) → P event → All o → All (inner o event)
  inner-all o event is all =
      let w = step o.world event in
      let on : (inner o event).ran ≡ event ∷ o.ran = ap (λ i. i.1) (sent-all (renewed o event w) (length o.world.packets)
      (drop (length o.world.packets) w.packets) ∙ ran o event w) in
      subst (AllByRecursion P) (sym on) (is, all)

  delivery-all : (o : Outside) (stands : Option ℕ) → All o → All (inner_delivery o stands)
  delivery-all o None all = all
  delivery-all o (Some number) all = inner-all o (Event.Deliver number) (deliver number) all

  stage-all : (o : Outside) (host : ℕ) (given : List ℕ × Bodies) → All o → All (takes_stage o host given)
  unfolding takes_stage sends
  stage-all o host given all = all

  commit-all : (o : Outside) (host : ℕ) (stands : Option ℕ) (a : Answer) → All o → All (takes_commit o host stands a)
  unfolding sends
  commit-all o host stands (write bytes) all = delivery-all (record o { counts = record o.counts { commits = o.counts.commits + 1 } }) stands all
  commit-all o host stands (unstaged bytes) all = all

  served-commit-all : (o : Outside) (host : ℕ) (p : Outer) (c : Option Commit) → All o → All (served_commit o host p c)
  served-commit-all o host p None all = delivery-all o p.stands all
  served-commit-all o host p (Some c) all = commit-all o host p.stands (answered o.pool c) all

  served-stage-all : (o : Outside) (host : ℕ) (p : Outer) (s : Option Stage) → All o → All (served_stage o host p s)
  served-stage-all o host p None all = served-commit-all o host p (own_commit host p.bytes) all
  served-stage-all o host p (Some s) all = stage-all o host (staged o.pool s) all

  server-all : (o : Outside) (p : Outer) (from : Party) → All o → All (to_server o p from)
  server-all o p Party.Server all = delivery-all o p.stands all
  server-all o p (Party.Client host) all = served-stage-all o host p (own_stage host p.bytes) all

  told-all : (o : Outside) (host : ℕ) (side : Side) (t : Told) → All o → All (told_side o host side t)
  unfolding sends
  told-all o host side (again bytes) all = all
  told-all o host side (acknowledged w verifier) all = all
  told-all o host side other all = all

  heard-all : (o : Outside) (host : ℕ) (p : Outer) (side : Option Side) → All o → All (heard_by o host p side)
  heard-all o host p None all = all
  heard-all o host p (Some side) all = told-all o host side (told_by side.stager p.bytes) all

  host-all : (o : Outside) (host : ℕ) (p : Outer) (stands : Option ℕ) → All o → All (to_host o host p stands)
  host-all o host p (Some number) all = inner-all o (Event.Deliver number) (deliver number) all
  host-all o host p None all = heard-all o host p (slice_get o.sides host) all

  takes-all : (o : Outside) (p : Outer) (to : Party) → All o → All (takes o p to)
  takes-all o p Party.Server all = server-all o p p.sender all
  takes-all o p (Party.Client host) all = host-all o host p p.stands all

  delivers-all : (o : Outside) (p : Option Outer) → All o → All (delivers o p)
  delivers-all o None all = all
  delivers-all o (Some p) all = takes-all o p p.to all

  body-all : (o : Outside) (host : ℕ) (side : Side) (b : Option (Written × List ℕ)) → All o → All (offers_body o host side b)
  unfolding sends_stage sends
  body-all o host side None all = all
  body-all o host side (Some b) all = all

  offers-all : (o : Outside) (host : ℕ) (side : Option Side) (c : Option Client) → All o → All (offers o host side c)
  offers-all o host (Some side) (Some c) all = body-all o host side (offer_of side.stager c.dirty c.push) all
  offers-all o host None c all = all
  offers-all o host (Some side) None all = all

  step-all : (o : Outside) (event : StagedEvent) → IsPlainly event → All o → All (outside_step o event)
  step-all o (StagedEvent.Stage host) is all = offers-all o host (slice_get o.sides host) (slice_get o.world.clients host) all
  step-all o (StagedEvent.Plain (Event.Deliver number)) is all = delivers-all o (slice_get o.sent number) all
  step-all o (StagedEvent.Plain (Event.Call host op)) is all = inner-all o (Event.Call host op) is all
  step-all o (StagedEvent.Plain Event.ServerTick) is all = inner-all o Event.ServerTick is all
  step-all o (StagedEvent.Plain (Event.ClientTick host)) is all = inner-all o (Event.ClientTick host) is all
  step-all o (StagedEvent.Plain (Event.Restart host)) is all = inner-all o (Event.Restart host) is all
  step-all o (StagedEvent.Plain (Event.Crash longest)) is all = inner-all o (Event.Crash longest) is all

  start-all : (head : Head) → All (outside_start head)
  unfolding outside_start
  start-all head = tt

  pub run-all : (head : Head) (events : List StagedEvent) → AllByRecursion IsPlainly events → AllByRecursion P (outside_run head events).ran
  run-all head [] all = start-all head
  run-all head (event ∷ earlier) all = step-all (outside_run head earlier) event all.0 (run-all head earlier all.1)
