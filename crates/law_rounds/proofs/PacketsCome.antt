-- Packets stay where they are, and come until they are delivered.
use Rattle.std.proofs.Common.{◌≡◌, ℕ, ◌++◌, zero, suc, List, [], ◌∷◌, Some}
use Rattle.std.specs.Prelude.{slice_get}
use Rattle.nq_model.specs.protocol.Lines.{Play}
use Rattle.nq_model.specs.protocol.Message.{Packet}
use Rattle.walk_steps.proofs.ClientMoves.{none-some}
use Rattle.walk_steps.proofs.Packets.{In}

-- ---- lists

pub get-kept : {A : Type 0} (xs ys : List A) (k : ℕ) (x : A) → slice_get xs k ≡ Some x → slice_get (xs ++ ys) k ≡ Some x
get-kept [] ys k x is = none-some x is
get-kept (y ∷ xs) ys zero x is = is
get-kept (y ∷ xs) ys (suc k) x is = get-kept xs ys k x is

-- ---- packets only come

-- a packet is under way
pub record Comes (p : Play) (q : Packet) : Type 0 where
  pub number : ℕ
  pub fresh : In p.fresh number
  pub is : slice_get p.world.packets number ≡ Some q
