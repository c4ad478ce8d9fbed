-- How far a world has counted, and what it cannot count on from.
use Rattle.std.specs.Prelude.{◌≡◌, ◌⊎◌, ◌≤◌, ◌<◌, ℕ, ◌+◌, ◌^◌, List, [], ◌∷◌, Option, Some, slice_get}
use Rattle.std.specs.Option.{ForSome}
use Rattle.nq_keeper.specs.Booting.{last_boot}
use Rattle.nq_client.specs.Counted.{Counted}
use Rattle.nq_model.specs.protocol.Client.{Client}
use Rattle.nq_model.specs.protocol.Kept.{Kept}
use Rattle.nq_model.specs.protocol.Profile.{most_taken_by_client, most_taken_by_server}
use Rattle.nq_model.specs.protocol.World.{World}
use Rattle.nq_server.specs.Holding.{Holding}

-- each of these clients took in at most so many calls, datagrams and ticks
abbrev pub TookIn : (most : ℕ) → List Counted → Type 0
TookIn most [] = Unit {0}
TookIn most (c ∷ clients) = (c.taken ≤ most) × TookIn most clients

-- no clock shows a later time than this one
abbrev pub IsLastTime : (time : ℕ) → Type 0
IsLastTime time = 2 ^ 62 ≤ time + 1

-- a client took in all that it can count, or its clock shows the last time, or no incarnation is left
abbrev pub IsSpent : Counted → Type 0
IsSpent c = (most_taken_by_client ≤ c.taken) ⊎ IsLastTime c.client.now ⊎ (2 ^ 32 ≤ c.client.who.inc + 1)

-- so does the client of this host, which is there
pub record ClientIsSpent (host : ℕ) (clients : List Counted) : Type 0 where
  pub client : Counted
  pub there : slice_get clients host ≡ Some client
  pub spent : IsSpent client

-- a server took in all that it can count, or the last number of a boot is kept
abbrev pub ServerIsSpent : {K : Type 0} → Holding K → (told : Option Kept) → Type 0
ServerIsSpent s told = (most_taken_by_server ≤ s.taken) ⊎ ForSome told (λ kept. kept.boot ≡ last_boot)

-- a world has numbers left for its next boot, for its clocks and for the next incarnations
pub record HasNumbersLeft (w : World) : Type 0 where
  pub boot : w.server.kept.boot < last_boot
  pub time : w.server.now + 1 < 2 ^ 62
  pub times : (host : ℕ) (c : Client) → slice_get w.clients host ≡ Some c → c.now + 1 < 2 ^ 62
  pub incarnations : (host : ℕ) (c : Client) → slice_get w.clients host ≡ Some c → c.who.inc + 1 < 2 ^ 32
