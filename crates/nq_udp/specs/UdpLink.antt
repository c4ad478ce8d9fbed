-- A link over UDP.
use Rattle.std.specs.Prelude.{◌≡◌, ◌⊎◌, ⊤, ℕ, Option, Some, None}
use Rattle.std.specs.declared.net.socket_addr.SocketAddr.{SocketAddr}
use Rattle.std.specs.Net.Socket.{socket_port}
use Rattle.nq_base.specs.declared.Party.{Party}
use Rattle.nq_link.specs.declared.Came.{Came}
use Rattle.nq_link.specs.declared.Sent.{Sent}
use Rattle.nq_udp.specs.Book.{IsAddressIn, Listed}

-- whose link it is, its book, where it listens if that is another place than the book says, where its socket is bound, if it is, its count
-- of faults, its count of receives, where the last datagram was sent to, and where that one came from which the last receive brought, if
-- it brought one
pub record CountedSocket : Type 0 where
  pub me : Party
  pub book : Listed
  pub home : Option SocketAddr
  pub bound : Option SocketAddr
  pub faults : ℕ
  pub receives : ℕ
  pub receiver : Option SocketAddr
  pub sender : Option SocketAddr

-- a link that was not used yet
abbrev pub unused : Party → Listed → (home : Option SocketAddr) → CountedSocket
unused me book home = record { me = me; book = book; home = home; bound = None; faults = 0; receives = 0; receiver = None; sender = None }

-- a link listens at this address: its home, or else that of its party by its book
abbrev pub ListensAt : CountedSocket → SocketAddr → Type 0
ListensAt link address = (link.home ≡ Some address) ⊎ ((link.home ≡ None) × IsAddressIn link.book link.me address)

-- where a link is bound behind a use of it: where it was before, or where it listens, if it was not bound
abbrev pub IsBoundBy : CountedSocket → (bound : Option SocketAddr) → Type 0
IsBoundBy link None = link.bound ≡ None
IsBoundBy link (Some address) = (link.bound ≡ Some address) ⊎ ((link.bound ≡ None) × ListensAt link address)

-- what was sent went out of a socket that is bound
abbrev pub IsSentAt : Sent → (bound : Option SocketAddr) → Type 0
IsSentAt Sent.All None = ⊥
IsSentAt Sent.All (Some address) = ⊤
IsSentAt Sent.Failed bound = ⊤

-- what came was received by a socket that is bound
abbrev pub IsHeardAt : Came → (bound : Option SocketAddr) → Type 0
IsHeardAt (Came.Datagram _ _) None = ⊥
IsHeardAt (Came.Datagram _ _) (Some address) = ⊤
IsHeardAt Came.Nothing bound = ⊤
IsHeardAt Came.Failed bound = ⊤

-- a link listens at an address with this port
abbrev pub HasPort : CountedSocket → (port : ℕ) → Type 0
HasPort link port = (address : SocketAddr) × (ListensAt link address × (socket_port address ≡ port))

-- what a datagram of so many bytes from this address is: one from the party there, and nothing where there is none
abbrev pub ComesFrom : Listed → SocketAddr → (length : ℕ) → Came → Type 0
ComesFrom book address length (Came.Datagram count sender) = (count ≡ length) × IsAddressIn book sender address
ComesFrom book address length Came.Nothing = (party : Party) → IsAddressIn book party address → ⊥
ComesFrom book address length Came.Failed = ⊥

-- it is the address of a party by a book, and there is one
abbrev pub IsOf : Listed → Party → Option SocketAddr → Type 0
IsOf book party None = ⊥
IsOf book party (Some address) = IsAddressIn book party address

-- what a receive answers is from the party at the address of the datagram that it brought; a stranger's counts as nothing
abbrev pub CameFrom : Listed → Came → Option SocketAddr → Type 0
CameFrom book (Came.Datagram count sender) address = IsOf book sender address
CameFrom book Came.Nothing None = ⊤
CameFrom book Came.Nothing (Some address) = (party : Party) → IsAddressIn book party address → ⊥
CameFrom book Came.Failed address = address ≡ None

-- whoever sent what came has an address in the book
abbrev pub IsFromParty : Listed → Came → Type 0
IsFromParty book (Came.Datagram count sender) = (address : SocketAddr) × IsAddressIn book sender address
IsFromParty book Came.Nothing = ⊤
IsFromParty book Came.Failed = ⊤
