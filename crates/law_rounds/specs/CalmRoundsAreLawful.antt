-- Calm rounds are events like any others: a schedule goes on by them within its bounds and within skew, so each promise holds of it.
use Rattle.std.specs.Prelude.{◌≡◌, ℕ, List}
use Rattle.nq_base.specs.declared.Event.{Event}
use Rattle.nq_model.specs.laws.Bounds.{KeepsBounds}
use Rattle.nq_model.specs.protocol.Lines.{Play}
use Rattle.nq_model.specs.protocol.Skew.{IsWithinSkew}
use Rattle.nq_model.specs.protocol.World.{Head, run}
use Rattle.law_rounds.specs.CalmRound.{calm_rounds}
use Rattle.law_rounds.specs.DeliveryEnds.{calmed}

-- a play stands where its events lead, and they keep to the bounds and are within skew
pub record IsLawful (most : ℕ) (head : Head) (p : Play) : Type 0 where
  pub is_run : p.world ≡ run head p.events
  pub bounds : KeepsBounds most head p.events
  pub within : IsWithinSkew head.hosts most p.events

-- so it is after every schedule within skew and any number of calm rounds, whatever is under way
abbrev pub CalmRoundsAreLawful : Type 0
CalmRoundsAreLawful =
    (most : ℕ) (head : Head) (events : List Event)
    → KeepsBounds most head events
    → IsWithinSkew head.hosts most events
    → (under_way : List ℕ) (count : ℕ)
    → IsLawful most head (calm_rounds count (calmed head events under_way))
