-- What holds at every moment of a server.
use Rattle.std.specs.Prelude.{◌≡◌, ◌<◌, ◌≤◌, ◌^◌, ℕ, ◌+◌, List, [], ◌∷◌, Option, Some, None, false}
use Rattle.nq_base.specs.declared.Row.{Row}
use Rattle.nq_keeper.specs.Recovery.{Recovery}
use Rattle.nq_model.specs.protocol.Profile.{shortest_term, longest_term, most_taken_by_server}
use Rattle.nq_model.specs.protocol.Server.{serving}
use Rattle.nq_model.specs.protocol.Table.{caches}
use Rattle.nq_server.specs.declared.state.Phase.{Phase}
use Rattle.nq_server.specs.declared.state.Phase.TheVariants.{Serving, Recovering}
use Rattle.nq_server.specs.declared.state.State.{State}
use Rattle.nq_server.specs.State.{phase_of}

-- a row of a lease that lets nobody cache ends later than this time, by less than 2^32 ticks
abbrev pub Runs : (time : ℕ) → Row → Type 0
Runs time row = caches row.mode ≡ false → (time < row.until) × (row.until < time + 2 ^ 32)

-- each of these rows does so
abbrev pub RowsRun : (time : ℕ) → List Row → Type 0
RowsRun time [] = Unit {0}
RowsRun time (row ∷ rows) = Runs time row × RowsRun time rows

-- a recovery is there, and has this longest term
abbrev pub IsThere : (longest : ℕ) → Option Recovery → Type 0
IsThere longest None = ⊥
IsThere longest (Some recovery) = recovery.longest ≡ longest

-- a boot that recovers has its recovery, with this longest term, and no row
abbrev pub IsOfBoot : (longest : ℕ) → Phase → List Row → Type 0
IsOfBoot longest (Serving boot) rows = Unit {0}
IsOfBoot longest (Recovering recovery last) rows = IsThere longest recovery × (rows ≡ [])

-- what holds of a server beside what it keeps: its time is one that a clock shows, its longest term is one that it can be told,
-- and the rows that let nobody cache run
pub record IsSound (s : State) : Type 0 where
  pub early : s.time < 2 ^ 62
  pub long : shortest_term ≤ s.longest
  pub short : s.longest ≤ longest_term
  pub run : RowsRun s.time s.table.rows
  pub of_boot : IsOfBoot s.longest s.phase s.table.rows

-- it stays sound in a call, which draws one tag at most
pub record StaysSound (old new : State) : Type 0 where
  pub sound : IsSound new
  pub drawn : new.table.drawn ≤ old.table.drawn + 1

-- it serves, and tags are left
pub record MayServe (s : State) : Type 0 where
  pub sound : IsSound s
  pub serves : phase_of s.phase ≡ serving
  pub drawn : s.table.drawn < 2 ^ 62

-- a sound one that has drawn no more tags than it has taken in datagrams and ticks
pub record IsSoundAfter (taken : ℕ) (s : State) : Type 0 where
  pub sound : IsSound s
  pub drawn : s.table.drawn ≤ taken
  pub few : taken ≤ most_taken_by_server
