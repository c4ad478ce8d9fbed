-- What the packets of a world are, as contracts see them.
use Rattle.std.specs.Prelude.{ℕ, List}
use Rattle.nq_base.specs.declared.Party.{Party}

-- a datagram: who sent it, whom it is for, and its bytes
pub record Datagram : Type 0 where
  pub sender : Party
  pub to : Party
  pub bytes : List ℕ

-- Datagrams in the order in which they were sent, and how many more datagrams and bytes fit before memory
-- is wanted.
pub record PacketList : Type 0 where
  pub datagrams : List Datagram
  pub spare : ℕ
  pub spare_bytes : ℕ
