-- There is a schedule after which blocks were read: the premises of the law are met.
use Rattle.std.specs.Prelude.{◌≡◌, ℕ, Bool, true, List, [], ◌∷◌}
use Rattle.nq_base.specs.declared.Entry.{Entry}
use Rattle.nq_base.specs.declared.Event.{Event}
use Rattle.law_runs.specs.HeldMet.{writer}
use Rattle.nq_model.specs.laws.Witnesses.{in_order, is_delayed_write, is_store, is_cached_read, is_served_read}
use Rattle.nq_model.specs.laws.Bounds.{KeepsBounds}
use Rattle.nq_model.specs.protocol.Skew.{IsWithinSkew}
use Rattle.nq_model.specs.protocol.World.{Head, run}

-- whether a client delayed a write of the value 7, read it from what it has, and had it stored, and after that a call of the
-- same client read it from the server and was answered so
abbrev pub has_reads : List Entry → Bool
has_reads journal =
    in_order
    (is_served_read journal writer 1 0 7
    ∷ is_store writer 1 0 1
    ∷ is_cached_read writer 1 0 7
    ∷ is_delayed_write writer 1 0 1 7
    ∷ [])
    journal

-- there is a schedule within skew after which it is so
pub record ReadsAreMet : Type 0 where
  pub most : ℕ
  pub head : Head
  pub events : List Event
  pub bounds : KeepsBounds most head events
  pub within : IsWithinSkew head.hosts most events
  pub met : has_reads (run head events).journal ≡ true
