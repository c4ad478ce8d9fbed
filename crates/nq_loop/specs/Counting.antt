-- What the loop keeps beside the world. The events of a run are told with the newest first.
use Rattle.std.specs.Prelude.{◌≡◌, ℕ, ◌+◌, ◌==◌, ◌<◌, Bool, List, [], ◌∷◌, min, slice_index_or, if◌then◌else◌}
use Rattle.nq_base.specs.declared.Event.{Event}

-- flags that tell which packets were delivered, and how many of its three calls each host began
pub record LoopCounts : Type 0 where
  pub flags : List Bool
  pub begun : List ℕ

-- how many calls of a host an event begins
abbrev pub begins : (host : ℕ) → Event → ℕ
begins host (Event.Call h op) = if h == host then 1 else 0
begins host other = 0

-- how many calls a host began in these events
abbrev pub begun_in : (host : ℕ) → List Event → ℕ
begun_in host [] = 0
begun_in host (event ∷ earlier) = begun_in host earlier + begins host event

-- numbers that tell of each host how many of its three calls it began
abbrev pub Counts : (begun : List ℕ) → List Event → Type 0
Counts begun events = (host : ℕ) → slice_index_or begun host 0 ≡ min (begun_in host events) 3

-- among so many hosts is the one whose call begins, if a call begins
abbrev pub HasCount : (hosts : ℕ) → Event → Type 0
HasCount hosts (Event.Call host op) = host < hosts
HasCount hosts other = Unit {0}
