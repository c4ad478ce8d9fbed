-- Sending over the links of all parties: the server's link is the first, and those of the hosts stand behind it in their order.
use Rattle.std.specs.Prelude.{◌≡◌, ℕ, ◌+◌, List, [], ◌∷◌, ◌++◌, Option, Some, Result, Ok, Err, slice_get, slice_set, zero, suc}
use Rattle.nq_base.specs.declared.Party.{Party}
use Rattle.nq_io.specs.Faults.{Rose}
use Rattle.nq_link.specs.Link.{Letters, with_last}
use Rattle.nq_loop.specs.declared.turns.Halt.{Halt}
use Rattle.nq_link.specs.Packets.{Datagram}
use Rattle.nq_link.specs.Links.{LinkTold, link_told}

-- a link as it is told
abbrev pub told_of : {L : Type 0} → (sent waiting : L → Option Letters) → (faults receives : L → ℕ) → L → LinkTold
told_of sent waiting faults receives link = link_told sent waiting faults receives link

-- the place of a party's link
abbrev pub place_of : Party → ℕ
place_of Party.Server = 0
place_of (Party.Client host) = host + 1

-- elements, of which the one at a place is changed so, if there is one
abbrev pub changed_at : {A : Type 0} → (place : ℕ) → (A → A) → List A → List A
changed_at place change [] = []
changed_at zero change (x ∷ xs) = change x ∷ xs
changed_at (suc place) change (x ∷ xs) = x ∷ changed_at place change xs

-- a link over which this datagram was sent, too
abbrev pub with_sent : Datagram → LinkTold → LinkTold
with_sent d link = record link { sent = with_last link.sent d.to d.bytes }

-- the links after this datagram was sent on its sender's
abbrev pub sent_one : Datagram → List LinkTold → List LinkTold
sent_one d links = changed_at (place_of d.sender) (with_sent d) links

-- the links after these datagrams were sent one after another, each on its sender's
abbrev pub sent_all : List Datagram → List LinkTold → List LinkTold
sent_all [] links = links
sent_all (d ∷ later) links = sent_all later (sent_one d links)

-- the link at a place failed, and counted that
pub record FailsAt (place : ℕ) (at after : List LinkTold) : Type 0 where
  pub link : LinkTold
  pub there : slice_get at place ≡ Some link
  pub count : ℕ
  pub rose : Rose link.faults count
  pub failed : after ≡ slice_set at place (record link { faults = count })

-- a front of these datagrams was sent, and the link of the next one's sender failed
pub record FailsSending (ds : List Datagram) (at after : List LinkTold) : Type 0 where
  pub front : List Datagram
  pub refused : Datagram
  pub later : List Datagram
  pub parts : ds ≡ front ++ refused ∷ later
  pub fails : FailsAt (place_of refused.sender) (sent_all front at) after

-- a front of these datagrams was sent
pub record SendsFront (ds : List Datagram) (at after : List LinkTold) : Type 0 where
  pub front : List Datagram
  pub later : List Datagram
  pub parts : ds ≡ front ++ later
  pub sent : after ≡ sent_all front at

-- what sending these datagrams did to the links, by how it ended
abbrev pub SendsAll : Result Unit Halt → List Datagram → (at after : List LinkTold) → Type 0
SendsAll (Ok done) ds at after = after ≡ sent_all ds at
SendsAll (Err Halt.Link) ds at after = FailsSending ds at after
SendsAll (Err Halt.Memory) ds at after = SendsFront ds at after
SendsAll (Err other) ds at after = ⊥
