-- There is a schedule after which the server holds what was written: the premises of the law are met.
use Rattle.std.specs.Prelude.{◌≡◌, ℕ, Bool, true, false, ◌&&◌, ◌==◌, List, Option, Some, None, slice_get}
use Rattle.nq_base.specs.Block.{value_of}
use Rattle.nq_base.specs.declared.Event.{Event}
use Rattle.nq_base.specs.declared.Who.{Who}
use Rattle.nq_model.specs.laws.Bounds.{KeepsBounds}
use Rattle.nq_model.specs.laws.Witnesses.{is_store}
use Rattle.nq_model.specs.laws.JournalTest.{exists}
use Rattle.nq_model.specs.protocol.Kept.{File, find_file}
use Rattle.nq_model.specs.protocol.Skew.{IsWithinSkew}
use Rattle.nq_model.specs.laws.Synchronized.{held_value, last_length}
use Rattle.nq_model.specs.protocol.World.{Head, World, run}

-- the incarnation that writes
abbrev pub writer : Who
writer = record { host = 0; inc = 1 }

-- whether a block is there and has the value 7
abbrev pub is_body_of_7 : Option (List ℕ) → Bool
is_body_of_7 None = false
is_body_of_7 (Some body) = value_of body == 7

-- whether a length is told and is 2
abbrev pub is_2 : Option ℕ → Bool
is_2 None = false
is_2 (Some n) = n == 2

-- whether a file has the value 7 in its first block
abbrev pub has_7 : Option File → Bool
has_7 None = false
has_7 (Some file) = is_body_of_7 (slice_get file.bodies 0)

-- whether a delayed write to the first block of file 1 was stored, the block has and is to have the value 7, and the file's
-- length was changed to 2
abbrev pub has_held : World → Bool
has_held w =
    exists (is_store writer 1 0 1) w.journal && has_7 (find_file 1 w.server.kept.files) && held_value w.journal 1 0 == 7 && is_2 (last_length w.journal 1)

-- there is a schedule within skew after which it is so
pub record HeldAreMet : Type 0 where
  pub most : ℕ
  pub head : Head
  pub events : List Event
  pub bounds : KeepsBounds most head events
  pub within : IsWithinSkew head.hosts most events
  pub met : has_held (run head events) ≡ true
