-- What stands at the places of a book.
use Rattle.std.proofs.Common.{◌≡◌, ◌≢◌, ℕ, zero, suc, [], ◌∷◌, Some, None, All, sym, ◌∙◌, arith}
use Rattle.std.proofs.lemmas.Option.{none-some}
use Rattle.std.specs.Net.Socket.{socket_port}
use Rattle.std.specs.declared.net.socket_addr.SocketAddr.{SocketAddr}
use Rattle.nq_base.specs.declared.Party.{Party}
use Rattle.nq_udp.specs.Book.{HasAddressIn, IsAddressIn, IsAtIn, IsFresh, Listed, Places, entry_at}

-- an address that stands nowhere stands at no place
pub nobody : (address : SocketAddr) (places : Places) (place : ℕ) → All (λ entry. entry ≢ Some address) places → entry_at places place ≡ Some address
    → ⊥
nobody address [] place none found = none-some address found
nobody address (entry ∷ places) zero none found = none 0 entry (omega arith) found
nobody address (entry ∷ places) (suc place) none found =
    nobody address places place (λ k d below. none (suc k) d (omega (arith, below))) found

-- what was found as a party's address is its address
pub known : (book : Listed) (party : Party) (address : SocketAddr) → HasAddressIn book party (Some address) → IsAddressIn book party address
known None party address has = has
known (Some places) party address has = sym has

-- a party of which no address was found has none
pub unlisted : (book : Listed) (party : Party) → HasAddressIn book party None → (known : SocketAddr) → ¬ (IsAddressIn book party known)
unlisted None party none known is = none-some (socket_port known) (sym none ∙ is.port)
unlisted (Some places) party none known is = none-some known (none ∙ is)

-- a party that was given an address was fresh, and so was the address
pub fresh : (book : Listed) (party : Party) (address : SocketAddr) → HasAddressIn book party None → IsAtIn book address None → IsFresh party address book
fresh book party address none nobody = record { unlisted = unlisted book party none; nobody = nobody }
