-- There is a schedule after which delayed writes are bound, and a longer one after which they are fenced.
use Rattle.std.specs.Prelude.{◌≡◌, ℕ, false, List, Some, slice_get, ◌++◌}
use Rattle.nq_base.specs.declared.Event.{Event}
use Rattle.nq_base.specs.declared.Push.{Push}
use Rattle.nq_model.specs.laws.LossesAreExcused.{IsUnsaved}
use Rattle.nq_model.specs.laws.Bounds.{KeepsBounds}
use Rattle.nq_model.specs.protocol.Client.{Client, is_clean}
use Rattle.nq_model.specs.protocol.Skew.{IsWithinSkew}
use Rattle.nq_model.specs.protocol.World.{Head, run}
use Rattle.nq_model.specs.laws.WritesAreUndisturbed.{IsBoundAndDue, IsFencedAt, IsUncovered}

-- after some schedule within skew a client has delayed writes of a bound file, none of them stored or lost; and after further
-- events it still has them, and the file is fenced for them
pub record BoundAndFencedAreMet : Type 0 where
  pub most : ℕ
  pub head : Head
  pub events : List Event
  pub later : List Event
  pub host : ℕ
  pub file : ℕ
  pub push : Push
  pub on_file : push.file ≡ file
  pub client : Client
  pub bounds : KeepsBounds most head events
  pub within : IsWithinSkew head.hosts most events
  pub there : slice_get (run head events).clients host ≡ Some client
  pub unclean : is_clean client file ≡ false
  pub unsaved : IsUnsaved client push
  pub uncovered : IsUncovered (run head events).journal client.who push
  pub bound : IsBoundAndDue (run head events) host client file
  pub client_later : Client
  pub bounds_later : KeepsBounds most head (later ++ events)
  pub within_later : IsWithinSkew head.hosts most (later ++ events)
  pub there_later : slice_get (run head (later ++ events)).clients host ≡ Some client_later
  pub unclean_later : is_clean client_later file ≡ false
  pub unsaved_later : IsUnsaved client_later push
  pub fenced : IsFencedAt (run head (later ++ events)) host client_later file
