-- There is a schedule after which a sync was answered ok: the premises of the law are met.
use Rattle.std.specs.Prelude.{◌≡◌, ℕ, List, Some, false}
use Rattle.nq_base.specs.declared.Entry.{Entry}
use Rattle.nq_base.specs.declared.Entry.TheVariants.{W, A}
use Rattle.nq_base.specs.declared.Event.{Event}
use Rattle.nq_base.specs.declared.Said.TheVariants.{Ok}
use Rattle.nq_base.specs.declared.Told.TheVariants.{Sync}
use Rattle.nq_base.specs.declared.Who.{Who}
use Rattle.nq_model.specs.laws.Bounds.{KeepsBounds}
use Rattle.nq_model.specs.laws.Journal.{Exists, IsStored, call_of}
use Rattle.nq_model.specs.protocol.Skew.{IsWithinSkew}
use Rattle.nq_model.specs.protocol.World.{Head, run}

-- the entry is an A ok to call q of an incarnation
abbrev pub IsOk : (who : Who) (q : ℕ) → Entry → Type 0
IsOk who q (A by n Ok) = (by ≡ who) × (n ≡ q)
IsOk who q other = ⊥

-- the entry is a delayed write of an incarnation on a file, and an S of the journal covers it
abbrev pub IsDelayedAndStored : (journal : List Entry) (who : Who) (file : ℕ) → Entry → Type 0
IsDelayedAndStored journal who file (W by f block number value false) = (by ≡ who) × (f ≡ file) × IsStored journal (W by f block number value false)
IsDelayedAndStored journal who file other = ⊥

-- not in vain: after some schedule within skew a sync of a file was answered ok, on which a write was delayed and stored
pub record IsSyncedOnce : Type 0 where
  pub most : ℕ
  pub head : Head
  pub events : List Event
  pub who : Who
  pub q : ℕ
  pub file : ℕ
  pub bounds : KeepsBounds most head events
  pub within : IsWithinSkew head.hosts most events
  pub asks : call_of (run head events).journal who q ≡ Some (Sync file)
  pub answered : Exists (IsOk who q) (run head events).journal
  pub stored : Exists (IsDelayedAndStored (run head events).journal who file) (run head events).journal
