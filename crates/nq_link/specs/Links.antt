-- What a turn does to a link. Below, `told` is a list of datagrams before a call and `tells` is that list after it, where the link
-- tells it.
use Rattle.std.specs.Prelude.{◌≡◌, ◌≤◌, ℕ, List, [], ◌∷◌, ◌++◌, Option, Some, None, length, take}
use Rattle.std.specs.Option.{ForSome}
use Rattle.nq_base.specs.declared.Party.{Party}
use Rattle.nq_io.specs.Faults.{Rose, count_up}
use Rattle.nq_link.specs.Link.{Letters}
use Rattle.nq_link.specs.declared.link.Sent.{Sent}

-- a datagram, with the party at the other end of the link
abbrev pub Letter : Type 0
Letter = Party × List ℕ

-- a link as it is told: what was sent over it, what waits, its count of faults, and its count of receives
pub record LinkTold : Type 0 where
  pub sent : Option Letters
  pub waiting : Option Letters
  pub faults : ℕ
  pub receives : ℕ

-- a link as it is told
abbrev pub link_told : {L : Type 0} → (sent waiting : L → Option Letters) → (faults receives : L → ℕ) → L → LinkTold
link_told sent waiting faults receives link =
    record { sent = sent link; waiting = waiting link; faults = faults link; receives = receives link }

-- a link was asked for one receive
abbrev pub ReceivesOnce : (link link' : LinkTold) → Type 0
ReceivesOnce link link' = link'.receives ≡ count_up link.receives

-- the most bytes of a datagram that a turn looks at: one more than the longest of the protocol has
unfoldable pub most_bytes : ℕ
most_bytes = 4401

-- ---- hearing

-- this is the first datagram that waits, or the first so many bytes of it, and it is taken
pub record IsFirst (most : ℕ) (letter : Letter) (waiting : Letters) (tells : Option Letters) : Type 0 where
  pub bytes : List ℕ
  pub later : Letters
  pub first : waiting ≡ (letter.0, bytes) ∷ later
  pub left : tells ≡ Some later
  pub cut : letter.1 ≡ take most bytes

-- what one receive gives, if anything came: at most so many bytes of a datagram
abbrev pub Hears : (most : ℕ) → Option Letter → (told tells : Option Letters) → Type 0
Hears most None told tells = ForSome told (λ waiting. waiting ≡ []) × (tells ≡ told)
Hears most (Some letter) told tells = (length letter.1 ≤ most) × ForSome told (λ waiting. IsFirst most letter waiting tells)

-- ---- sending

-- the datagrams told, with these at their end
abbrev pub with_all : Option Letters → Letters → Option Letters
with_all None letters = None
with_all (Some told) letters = Some (told ++ letters)

-- a front of these datagrams was sent, and the next one was refused
pub record SendsFront (letters : Letters) (told tells : Option Letters) : Type 0 where
  pub front : Letters
  pub refused : Letter
  pub later : Letters
  pub parts : letters ≡ front ++ refused ∷ later
  pub sent : tells ≡ with_all told front

-- what sending these datagrams in their order does, by its answer
abbrev pub SendsAll : Sent → Letters → (told tells : Option Letters) → (before now : ℕ) → Type 0
SendsAll Sent.All letters told tells before now = (tells ≡ with_all told letters) × (now ≡ before)
SendsAll Sent.Failed letters told tells before now = SendsFront letters told tells × Rose before now

-- sending these datagrams over a link, by its answer: what waits stays, and no receive is asked for
abbrev pub Posts : Sent → Letters → (link link' : LinkTold) → Type 0
Posts answer letters link link' =
    (link'.waiting ≡ link.waiting) × (link'.receives ≡ link.receives)
    × SendsAll answer letters link.sent link'.sent link.faults link'.faults
