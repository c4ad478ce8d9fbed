-- What stands in the way ends soon: rows that are not renewed, and recoveries in which no write is stored.
use Rattle.std.specs.Prelude.{◌≡◌, ◌≤◌, ℕ, ◌+◌, List, Option, Some}
use Rattle.nq_base.specs.declared.Event.{Event}
use Rattle.nq_base.specs.declared.Row.{Row}
use Rattle.nq_model.specs.laws.Bounds.{InEveryRun}
use Rattle.nq_model.specs.protocol.Profile.{skew, write_slack}
use Rattle.nq_model.specs.protocol.Server.{Server, recovering}
use Rattle.nq_model.specs.protocol.Table.{Table, find_row}
use Rattle.nq_model.specs.protocol.World.{Head, run}

-- a row ends no later than the longest term and the skew from now on, and its last write was heard in the past
pub record EndsSoon (s : Server) (row : Row) : Type 0 where
  pub until : row.until ≤ (s.now + s.longest) + skew
  pub heard : row.heard ≤ s.now

-- so does each row of each run
abbrev pub RowsEndSoon : Type 0
RowsEndSoon =
    InEveryRun (λ head events.
    (file host : ℕ) (row : Row) → find_row file host (run head events).server.table.rows ≡ Some row → EndsSoon (run head events).server row)

-- in every run, of any events whatever: a recovery ends no later than the kept longest term, the skew and the write slack from now on
abbrev pub RecoveriesEndSoon : Type 0
RecoveriesEndSoon =
    (head : Head) (events : List Event) (until heard : ℕ) (last : Option Table)
    → (run head events).server.phase ≡ recovering until heard last
    → until ≤ ((run head events).server.now + (run head events).server.kept.longest) + (skew + write_slack)
