-- Torn runs are not in vain: a push is torn before its commit, and after it.
use Rattle.std.specs.Prelude.{◌≡◌, ◌==◌, ◌&&◌, ℕ, Bool, true, false, List, [], ◌∷◌, ◌++◌, Option, Some, None, filter, length, slice_get}
use Rattle.nq_base.specs.Block.{value_of}
use Rattle.nq_base.specs.declared.Entry.{Entry}
use Rattle.nq_base.specs.declared.Entry.TheVariants.{A}
use Rattle.nq_base.specs.declared.Event.{Event}
use Rattle.nq_base.specs.declared.Said.TheVariants.{Ok}
use Rattle.nq_base.specs.declared.Who.{Who}
use Rattle.nq_model.specs.protocol.Kept.{File, find_file}
use Rattle.nq_model.specs.protocol.Skew.{IsWithinSkew}
use Rattle.nq_model.specs.protocol.Table.{same_who}
use Rattle.nq_model.specs.protocol.World.{Head}
use Rattle.nq_model.specs.laws.Bounds.{KeepsBounds}
use Rattle.nq_model.specs.laws.Witnesses.{in_order, is_crash, is_delayed_write, is_store}
use Rattle.nq_laws.specs.TornRuns.{Happening, torn_before, torn_after, torn_run, schedule}

-- the value of a body, where there is one
abbrev pub value_in : Option (List ℕ) → Option ℕ
value_in None = None
value_in (Some body) = Some (value_of body)

-- the value of a block of a file, where it is kept
abbrev pub value_at : (block : ℕ) → Option File → Option ℕ
value_at block None = None
value_at block (Some file) = value_in (slice_get file.bodies block)

-- whether an entry is the A `ok` of call q of an incarnation
abbrev pub is_ok : (who : Who) (q : ℕ) → Entry → Bool
is_ok who q (A by n Ok) = same_who by who && (n == q)
is_ok who q other = false

-- a torn run keeps to the bounds and is within skew, by its schedule
pub record IsFair (most : ℕ) (head : Head) (happened : List Happening) : Type 0 where
  pub bounds : KeepsBounds most head (schedule head happened)
  pub within : IsWithinSkew head.hosts most (schedule head happened)

-- A client delayed a write and syncs the file. The push that comes then is torn, and the server boots a second time. In the run that is
-- torn before the commit the old value is kept; the push that the client sends again is stored, after the crash. In the one that is torn
-- after it the new value is kept, and was stored before the crash; the push that the client sends again is answered and not stored
-- again. In both the sync is answered ok at last, the write was stored once, and its value is kept
pub record PushesAreTorn : Type 0 where
  pub most : ℕ
  pub head : Head
  pub earlier : List Happening
  pub push : Event
  pub longest : ℕ
  pub who : Who
  pub file : ℕ
  pub block : ℕ
  pub number : ℕ
  pub value : ℕ
  pub old : ℕ
  pub sync : ℕ
  -- torn before
  pub later_before : List Happening
  pub fair_before : IsFair most head (later_before ++ torn_before push longest ∷ earlier)
  pub found_before : value_at block (find_file file (torn_run head (torn_before push longest ∷ earlier)).world.server.kept.files) ≡ Some old
  pub told_before :
      in_order
      (is_ok who sync ∷ is_store who file block number ∷ is_crash 2 ∷ is_delayed_write who file block number value ∷ [])
      (torn_run head (later_before ++ torn_before push longest ∷ earlier)).world.journal
      ≡ true
  pub once_before : length (filter (is_store who file block number) (torn_run head (later_before ++ torn_before push longest ∷ earlier)).world.journal) ≡ 1
  pub kept_before : value_at block (find_file file (torn_run head (later_before ++ torn_before push longest ∷ earlier)).world.server.kept.files) ≡ Some value
  -- torn after
  pub later_after : List Happening
  pub fair_after : IsFair most head (later_after ++ torn_after push longest ∷ earlier)
  pub found_after : value_at block (find_file file (torn_run head (torn_after push longest ∷ earlier)).world.server.kept.files) ≡ Some value
  pub told_after :
      in_order
      (is_ok who sync ∷ is_crash 2 ∷ is_store who file block number ∷ is_delayed_write who file block number value ∷ [])
      (torn_run head (later_after ++ torn_after push longest ∷ earlier)).world.journal
      ≡ true
  pub once_after : length (filter (is_store who file block number) (torn_run head (later_after ++ torn_after push longest ∷ earlier)).world.journal) ≡ 1
  pub kept_after : value_at block (find_file file (torn_run head (later_after ++ torn_after push longest ∷ earlier)).world.server.kept.files) ≡ Some value
