-- Which staged schedules are lawful, and that their inner schedules are.
use Rattle.std.specs.Prelude.{ℕ, List, [], ◌∷◌}
use Rattle.nq_base.specs.declared.Event.{Event}
use Rattle.nq_model.specs.protocol.Skew.{IsWithinSkew}
use Rattle.nq_model.specs.protocol.World.{Head}
use Rattle.nq_model.specs.laws.Bounds.{KeepsBounds}
use Rattle.nq_model.specs.laws.Headline.{HeadlineHolds, AtEveryMoment}
use Rattle.nq_stage.specs.declared.run.event.StagedEvent.{StagedEvent}
use Rattle.nq_stage.specs.Outside.{outside_run}

-- the events of a staged schedule but for its offers
abbrev pub plain_events : List StagedEvent → List Event
plain_events [] = []
plain_events (StagedEvent.Stage host ∷ events) = plain_events events
plain_events (StagedEvent.Plain event ∷ events) = event ∷ plain_events events

-- a schedule keeps to the bounds, and is within skew
pub record IsLawful (most : ℕ) (head : Head) (events : List Event) : Type 0 where
  pub bounds : KeepsBounds most head events
  pub skew : IsWithinSkew head.hosts most events

-- Where a staged schedule is lawful, so is the schedule of its inner run: deliveries alone differ.
abbrev pub InnerRunsAreLawful : Type 0
InnerRunsAreLawful =
    (most : ℕ) (head : Head) (events : List StagedEvent)
    → IsLawful most head (plain_events events)
    → IsLawful most head (outside_run head events).ran

-- So the headline, if it holds of every run at each of its moments, holds of every staged run.
abbrev pub HeadlineHoldsOutside : Type 0
HeadlineHoldsOutside =
    AtEveryMoment
    → (most : ℕ) (head : Head) (events : List StagedEvent)
    → IsLawful most head (plain_events events)
    → HeadlineHolds (outside_run head events).world
