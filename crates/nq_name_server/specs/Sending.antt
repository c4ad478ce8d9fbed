-- What an outbox gains.
use Rattle.std.specs.Prelude.{◌≡◌, ℕ, Bool, true, false, List, [], ◌∷◌, ◌++◌, Option, Some, None}
use Rattle.nq_base.specs.declared.Party.{Party}
use Rattle.nq_wire.specs.Outbox.{Datagrams}
use Rattle.nq_name_server.specs.Served.{Served}
use Rattle.nq_name_server.specs.Serving.{Serves, ToHost}

-- a datagram to a host, as an outbox has it
abbrev pub sent : ToHost → Party × List ℕ
sent d = (Party.Client d.host, d.bytes)

-- datagrams, as an outbox has them
abbrev pub all_sent : List ToHost → List (Party × List ℕ)
all_sent [] = []
all_sent (d ∷ ds) = sent d ∷ all_sent ds

-- a list begins with another
abbrev pub Grows : {A : Type 0} → (old new : List A) → Type 0
Grows {A} old new = (more : List A) × (new ≡ old ++ more)

-- this was made of it: the server keeps that, and the datagrams were added to the outbox
pub record IsServed (s : Serves) (new : Served) (out out' : Datagrams) : Type 0 where
  pub served : new ≡ s.served
  pub sends : out'.datagrams ≡ out.datagrams ++ all_sent s.sends

-- nothing was changed
pub record IsUntouched (old new : Served) (out out' : Datagrams) : Type 0 where
  pub served : new ≡ old
  pub sends : out'.datagrams ≡ out.datagrams

-- by whether a request is held up
abbrev pub IsHeld : (held : Bool) → Option Serves → (old new : Served) → (out out' : Datagrams) → Type 0
IsHeld true (Some s) old new out out' = IsServed s new out out'
IsHeld true None old new out out' = ⊥
IsHeld false (Some s) old new out out' = ⊥
IsHeld false None old new out out' = IsUntouched old new out out'
