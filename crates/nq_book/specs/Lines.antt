-- The lines of an address book.
use Rattle.std.specs.Net.Grammar.{IsSocketText}
use Rattle.std.specs.Prelude.{◌≡◌, ◌⊎◌, ◌==◌, ℕ, Bool, true, List, [], ◌∷◌, Option, Some, None, Result, Ok, Err, codes, option_map, if◌then◌else◌}
use Rattle.std.specs.Str.{bytes_eq}
use Rattle.std.specs.declared.net.socket_addr.SocketAddr.{SocketAddr}
use Rattle.nq_base.specs.declared.Party.{Party}
use Rattle.nq_book.specs.declared.lines.Why.{Why}
use Rattle.nq_script.specs.WordsReading.{cut, number_of}
use Rattle.nq_udp.specs.Book.{Listed, Lists}
use Rattle.nq_udp.specs.declared.Clash.{Clash}

-- whether a line says nothing: it is empty, or begins with `#`
abbrev pub is_blank : List ℕ → Bool
is_blank [] = true
is_blank (b ∷ line) = b == 35

-- the party that a word names: the server, or a host by its number
abbrev pub party_named : List ℕ → Option Party
party_named word = if bytes_eq word (codes "server") then Some Party.Server else option_map Party.Client (number_of 63 word)

-- the words of a line: a party's, and what stands behind the first blank
abbrev pub HasWords : (line word text : List ℕ) → Type 0
HasWords line word text = cut 32 line ≡ Some (word, text)

-- a line says that this party has this address
pub record IsEntry (line : List ℕ) (party : Party) (address : SocketAddr) : Type 0 where
  pub word : List ℕ
  pub text : List ℕ
  pub words : HasWords line word text
  pub named : party_named word ≡ Some party
  pub spelled : IsSocketText text address

-- a line lists an address for a party, or would, by what the book answers
pub record Enters (line : List ℕ) (answer : Result Unit Clash) (book book' : Listed) : Type 0 where
  pub party : Party
  pub address : SocketAddr
  pub entry : IsEntry line party address
  pub listed : Lists answer party address book book'

-- a line whose first word names no party
pub record NamesNobody (line : List ℕ) : Type 0 where
  pub word : List ℕ
  pub text : List ℕ
  pub words : HasWords line word text
  pub nobody : party_named word ≡ None

-- a line that names a party, and behind it no address
pub record HasNoAddress (line : List ℕ) : Type 0 where
  pub word : List ℕ
  pub text : List ℕ
  pub words : HasWords line word text
  pub none : (address : SocketAddr) → ¬ (IsSocketText text address)

-- what taking a line in does to a book, by its answer
abbrev pub TakesLine : Result Unit Why → (line : List ℕ) → (book book' : Listed) → Type 0
TakesLine (Ok done) line book book' = ((is_blank line ≡ true) × (book' ≡ book)) ⊎ Enters line (Ok done) book book'
TakesLine (Err Why.Words) line book book' = (book' ≡ book) × (cut 32 line ≡ None)
TakesLine (Err Why.Party) line book book' = (book' ≡ book) × NamesNobody line
TakesLine (Err Why.Address) line book book' = (book' ≡ book) × HasNoAddress line
TakesLine (Err (Why.Clash clash)) line book book' = Enters line (Err clash) book book'
