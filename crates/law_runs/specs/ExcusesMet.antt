-- There is a schedule in which delayed writes are lost: the premises of the laws are met.
use Rattle.std.specs.Prelude.{◌≡◌, ℕ, Bool, true, false, List, ◌++◌, Some, slice_get}
use Rattle.std.specs.List.{list_any}
use Rattle.nq_base.specs.declared.Entry.{Entry}
use Rattle.nq_base.specs.declared.Entry.TheVariants.{L}
use Rattle.nq_base.specs.declared.Event.{Event}
use Rattle.nq_model.specs.laws.Bounds.{KeepsBounds}
use Rattle.nq_model.specs.protocol.Client.{Client, is_clean}
use Rattle.nq_model.specs.protocol.Skew.{IsWithinSkew}
use Rattle.nq_model.specs.protocol.World.{Head, run}

-- whether an entry tells a loss
abbrev pub tells_loss : Entry → Bool
tells_loss (L who file block first last) = true
tells_loss other = false

-- the premises are met, and not in vain: after some schedule within skew a file is not clean at a client, and after further
-- events there is a loss
pub record IsLostSometime : Type 0 where
  pub most : ℕ
  pub head : Head
  pub events : List Event
  pub later : List Event
  pub host : ℕ
  pub client : Client
  pub file : ℕ
  pub bounds : KeepsBounds most head events
  pub within : IsWithinSkew head.hosts most events
  pub there : slice_get (run head events).clients host ≡ Some client
  pub unsaved : is_clean client file ≡ false
  pub bounds_later : KeepsBounds most head (later ++ events)
  pub within_later : IsWithinSkew head.hosts most (later ++ events)
  pub lost : list_any tells_loss (run head (later ++ events)).journal ≡ true
