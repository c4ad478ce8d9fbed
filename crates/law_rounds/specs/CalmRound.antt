-- A calm round: all that is under way arrives, and all that this sends; then each clock ticks once.
use Rattle.std.specs.Prelude.{ℕ, zero, suc}
use Rattle.nq_model.specs.protocol.Lines.{Play, play_flow, play_rounds}
use Rattle.law_rounds.specs.DeliveryEnds.{enough_deliveries}

-- a calm round: the least packet that is under way is delivered, again and again, until there is none; then each host's clock ticks,
-- in order, and the server's. So many deliveries are enough (`DeliveryEnds`)
unfoldable pub calm_round : Play → Play
calm_round p = play_rounds 1 (play_flow (enough_deliveries p) p)

-- so many calm rounds
abbrev pub calm_rounds : (count : ℕ) → Play → Play
calm_rounds zero p = p
calm_rounds (suc count) p = calm_rounds count (calm_round p)
