-- What a call does that asks a keeper, and changes nothing. Below, `told` is what the keeper told of its content before the
-- call and `tells` is what it tells after it; `goes` says that the keeper after the call is the one before it, and `left` what a
-- stop in it leaves.
use Rattle.std.specs.Prelude.{◌≡◌, ℕ, Option, Result, IfOk}
use Rattle.std.specs.Option.{ForSome}
use Rattle.nq_keeper.specs.declared.keeper.KeepFault.{KeepFault}
use Rattle.nq_keeper.specs.Keeping.{Reads, LeavesOne}
use Rattle.nq_model.specs.protocol.Kept.{Kept}

-- it answers this of what is kept
pub record Asks {X : Type 0} (answer : Kept → X) (result : Result X KeepFault) (told tells : Option Kept) (before now : ℕ) (goes : Type 0)
    (left : Option Kept → Type 0) : Type 0 where
  pub answers : ForSome told (λ kept. IfOk result (λ x. x ≡ answer kept))
  pub reads : Reads result told tells before now
  pub follows : goes
  pub leaves : LeavesOne told left
