-- What a call that decides a request does. Below, `told` is what the keeper told of its content before the call, and `tells`
-- is what it tells after it.
use Rattle.std.specs.Prelude.{◌≡◌, ◌⊎◌, ◌<◌, ℕ, Option, Some, Result, Ok, Err}
use Rattle.std.specs.Option.{ForSome}
use Rattle.nq_base.specs.declared.Change.{Change}
use Rattle.nq_base.specs.declared.Decided.{Decided}
use Rattle.nq_base.specs.declared.Gate.{Gate}
use Rattle.nq_base.specs.declared.Request.{Request}
use Rattle.nq_base.specs.declared.Who.{Who}
use Rattle.nq_io.specs.Faults.{Rose}
use Rattle.nq_keeper.specs.declared.keeper.KeepFault.{KeepFault}
use Rattle.nq_keeper.specs.declared.keeper.KeepFault.TheVariants.{Failed, Memory}
use Rattle.nq_keeper.specs.Keeping.{StaysOrEnds}
use Rattle.nq_model.specs.protocol.Change.{applied_if}
use Rattle.nq_model.specs.protocol.Decided.{change_with, decided, effect_of, fresh_change, sequence_decided}
use Rattle.nq_model.specs.protocol.Kept.{Kept, host_row}
use Rattle.nq_model.specs.protocol.Message.{asker}
use Rattle.nq_model.specs.protocol.Profile.{most_hosts}

-- a call gives this decision and keeps this change, if there is one. After a fault nothing is kept, and the keeper may tell
-- nothing from then on
abbrev pub Gives : (Kept → Decided) → (Kept → Option Change) → Result Decided KeepFault → (told tells : Option Kept) → (before now : ℕ) → Type 0
Gives decision change (Ok d) told tells before now =
    ForSome told (λ kept. (d ≡ decision kept) × (tells ≡ Some (applied_if kept (change kept))))
    × (now ≡ before)
Gives decision change (Err Memory) told tells before now = (tells ≡ told) × (now ≡ before)
Gives decision change (Err Failed) told tells before now = StaysOrEnds told tells × Rose before now

-- a stop leaves what was kept before the change, or after it
abbrev pub LeavesGiven : (Kept → Option Change) → (told : Option Kept) → (Option Kept → Type 0) → Type 0
LeavesGiven change told leaves =
    ForSome told (λ kept. (found : Option Kept) → leaves found → (found ≡ Some kept) ⊎ (found ≡ Some (applied_if kept (change kept))))

-- both together, where `goes` says that the keeper after the call is the one before it, and `left` what a stop in it leaves
pub record Decides (decision : Kept → Decided) (change : Kept → Option Change) (result : Result Decided KeepFault) (told tells : Option Kept)
    (before now : ℕ) (goes : Type 0) (left : Option Kept → Type 0) : Type 0 where
  pub gives : Gives decision change result told tells before now
  pub follows : goes
  pub leaves : LeavesGiven change told left

-- a request is one of this incarnation and sequence that is decided once, whatever is kept
pub record IsOfSequence (who : Who) (seq : ℕ) (r : Request) : Type 0 where
  pub decides : (kept : Kept) (gate : Gate) → decided kept gate r ≡ sequence_decided who seq (host_row kept who.host) (effect_of kept gate r)
  pub changes : (kept : Kept) (gate : Gate) → fresh_change kept gate r ≡ change_with who seq (effect_of kept gate r)

-- a request is of a host that there can be
abbrev pub IsOfHost : Request → Type 0
IsOfHost r = ForSome (asker r) (λ who. who.host < most_hosts)
