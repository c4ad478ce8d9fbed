-- What a link does. Below, `told` is a list of datagrams before a call and `tells` is that list after it, where the link tells it.
use Rattle.std.specs.Prelude.{◌≡◌, ℕ, ◌≤◌, List, [], ◌∷◌, ◌++◌, length, take, drop, min, Option, Some, None}
use Rattle.std.specs.Option.{ForSome}
use Rattle.nq_base.specs.declared.Party.{Party}
use Rattle.nq_io.specs.Faults.{Rose}
use Rattle.nq_link.specs.declared.link.Came.{Came}
use Rattle.nq_link.specs.declared.link.Sent.{Sent}

-- datagrams, each with the party at the other end of the link
abbrev pub Letters : Type 0
Letters = List (Party × List ℕ)

-- the datagrams told, with this one at their end
abbrev pub with_last : Option Letters → Party → List ℕ → Option Letters
with_last None party bytes = None
with_last (Some told) party bytes = Some (told ++ (party, bytes) ∷ [])

-- what a send does to the datagrams that were sent, by its answer
abbrev pub Sends : Sent → Party → List ℕ → (told tells : Option Letters) → Type 0
Sends Sent.All to bytes told tells = tells ≡ with_last told to bytes
Sends Sent.Failed to bytes told tells = tells ≡ told

-- a send that fails raises the count of faults, and any other leaves it as it was
abbrev pub CountsSend : Sent → (before now : ℕ) → Type 0
CountsSend Sent.All before now = now ≡ before
CountsSend Sent.Failed before now = Rose before now

-- the first datagram that waits came from this party and is taken: its bytes, or as many as the buffer holds, stand at the
-- front of the buffer, and the rest of the buffer stays
pub record TakesFirst (count : ℕ) (origin : Party) (waiting : Letters) (tells : Option Letters) (buffer filled : List ℕ) : Type 0 where
  pub bytes : List ℕ
  pub later : Letters
  pub first : waiting ≡ (origin, bytes) ∷ later
  pub left : tells ≡ Some later
  pub cut : count ≡ min (length bytes) (length buffer)
  pub copied : filled ≡ take count bytes ++ drop count buffer

-- what a receive does to the datagrams that wait and to its buffer, by its answer
abbrev pub Comes : Came → (told tells : Option Letters) → (buffer filled : List ℕ) → Type 0
Comes (Came.Datagram count origin) told tells buffer filled =
    (count ≤ length buffer) × ForSome told (λ waiting. TakesFirst count origin waiting tells buffer filled)
Comes Came.Nothing told tells buffer filled = ForSome told (λ waiting. waiting ≡ []) × (tells ≡ told)
Comes Came.Failed told tells buffer filled = tells ≡ told

-- a receive that fails raises the count of faults, and any other leaves it as it was
abbrev pub CountsReceive : Came → (before now : ℕ) → Type 0
CountsReceive (Came.Datagram _ _) before now = now ≡ before
CountsReceive Came.Nothing before now = now ≡ before
CountsReceive Came.Failed before now = Rose before now
