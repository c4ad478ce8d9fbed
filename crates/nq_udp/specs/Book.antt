-- An address book: the addresses of the parties, where they are on more than one machine.
use Rattle.std.specs.Prelude.{◌≡◌, ◌≢◌, ◌+◌, ℕ, nat_lt, false, All, List, Option, Some, None, Result, Ok, Err, option_and_then, replicate, slice_get, slice_set}
use Rattle.std.specs.declared.net.socket_addr.SocketAddr.{SocketAddr}
use Rattle.nq_base.specs.declared.Party.{Party}
use Rattle.nq_udp.specs.Local.{HasAddress, IsAddressOf}
use Rattle.nq_udp.specs.declared.book.Clash.{Clash}

-- the places of a book: that of the server comes first, and then those of hosts 0 to 63
abbrev pub Places : Type 0
Places = List (Option SocketAddr)

-- a book: what stands at its places; None is the book of one machine, which says for each party what `Local` says
abbrev pub Listed : Type 0
Listed = Option Places

-- the place of a party
abbrev pub place_of : Party → ℕ
place_of Party.Server = 0
place_of (Party.Client host) = host + 1

-- the book with nothing at its 65 places
abbrev pub empty_book : Listed
empty_book = Some (replicate 65 None)

-- what stands at a place, if it is one and anything stands there
abbrev pub entry_at : Places → (place : ℕ) → Option SocketAddr
entry_at places place = option_and_then (λ entry. entry) (slice_get places place)

-- the place at which an address stands, if it stands there
abbrev pub IsPlaceOf : Places → SocketAddr → Option ℕ → Type 0
IsPlaceOf places address None = All (λ entry. entry ≢ Some address) places
IsPlaceOf places address (Some place) = slice_get places place ≡ Some (Some address)

-- by this book the party has this address
abbrev pub IsAddressIn : Listed → Party → SocketAddr → Type 0
IsAddressIn None party address = IsAddressOf party address
IsAddressIn (Some places) party address = entry_at places (place_of party) ≡ Some address

-- the address of a party by a book, if it has one
abbrev pub HasAddressIn : Listed → Party → Option SocketAddr → Type 0
HasAddressIn None party found = HasAddress party found
HasAddressIn (Some places) party found = found ≡ entry_at places (place_of party)

-- the party that has an address by a book, if one has it
abbrev pub IsAtIn : Listed → SocketAddr → Option Party → Type 0
IsAtIn book address None = (party : Party) → IsAddressIn book party address → ⊥
IsAtIn book address (Some party) = IsAddressIn book party address

-- the book with this address for the party
abbrev pub with_address : Listed → Party → SocketAddr → Listed
with_address None party address = None
with_address (Some places) party address = Some (slice_set places (place_of party) (Some address))

-- by this book the party has no address yet, and nobody has this one
pub record IsFresh (party : Party) (address : SocketAddr) (book : Listed) : Type 0 where
  pub unlisted : (known : SocketAddr) → ¬ (IsAddressIn book party known)
  pub nobody : (other : Party) → ¬ (IsAddressIn book other address)

-- what listing an address for a party does, by its answer: there is no such host, the party has an address, or a party has this one
abbrev pub Lists : Result Unit Clash → Party → SocketAddr → (book book' : Listed) → Type 0
Lists (Ok _) party address book book' = (book' ≡ with_address book party address) × IsFresh party address book
Lists (Err Clash.Host) party address book book' = (book' ≡ book) × (nat_lt (place_of party) 65 ≡ false)
Lists (Err Clash.Party) party address book book' = (book' ≡ book) × ((known : SocketAddr) × IsAddressIn book party known)
Lists (Err Clash.Address) party address book book' = (book' ≡ book) × ((other : Party) × IsAddressIn book other address)
