-- There are schedules in which leases end: the premises of the law are met.
use Rattle.std.specs.Prelude.{◌≡◌, ℕ, Bool, true, false, List}
use Rattle.std.specs.List.{list_any}
use Rattle.nq_base.specs.declared.Entry.{Entry}
use Rattle.nq_base.specs.declared.Entry.TheVariants.{F, O}
use Rattle.nq_base.specs.declared.Event.{Event}
use Rattle.nq_base.specs.declared.Who.{Who}
use Rattle.nq_model.specs.laws.Bounds.{KeepsBounds}
use Rattle.nq_model.specs.protocol.Skew.{IsWithinSkew}
use Rattle.nq_model.specs.protocol.World.{Head, run}
use Rattle.nq_model.specs.laws.EndingsComeLate.{was_caching}

-- whether an entry is the end of a writing lease in silence
abbrev pub is_silent_end : Entry → Bool
is_silent_end (F who file until heard now) = true
is_silent_end other = false

-- whether an entry ends a recovery
abbrev pub ends_recovery : Entry → Bool
ends_recovery (O boot until heard now) = true
ends_recovery other = false

-- the premises are met, and not in vain: after some schedule within skew a writing lease ended in silence, and after another
-- one a recovery ended, and the last grant to an incarnation on a file let it cache and was of the boot that served last before
pub record EndsSometime : Type 0 where
  pub most : ℕ
  pub head : Head
  pub silent : List Event
  pub opening : List Event
  pub who : Who
  pub file : ℕ
  pub bounds_silent : KeepsBounds most head silent
  pub within_silent : IsWithinSkew head.hosts most silent
  pub ends : list_any is_silent_end (run head silent).journal ≡ true
  pub bounds_opening : KeepsBounds most head opening
  pub within_opening : IsWithinSkew head.hosts most opening
  pub opens : list_any ends_recovery (run head opening).journal ≡ true
  pub cached : was_caching 1 (run head opening).journal who file ≡ true
