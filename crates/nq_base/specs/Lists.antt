use Rattle.std.specs.Prelude.{ℕ, List}
use Rattle.nq_base.specs.declared.lists.Loss.{Loss}
use Rattle.nq_base.specs.declared.lists.Span.{Span}

-- losses in their order, and the number of further ones for which room is reserved
pub record LossList : Type 0 where
  pub items : List Loss
  pub spare : ℕ

-- spans in their order, and the number of further ones for which room is reserved
pub record SpanList : Type 0 where
  pub items : List Span
  pub spare : ℕ
