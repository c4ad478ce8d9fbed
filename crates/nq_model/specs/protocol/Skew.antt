-- Within skew: no clock of a client falls behind the server's by more than the skew within one longest term.
use Rattle.std.specs.Prelude.{◌≡◌, ℕ, ◌+◌, ◌<◌, ◌≤◌, ◌==◌, Bool, true, ◌&&◌, ◌||◌, List, [], ◌∷◌, ◌++◌, nat_le, not, zero, suc, if◌then◌else◌}
use Rattle.nq_base.specs.declared.Event.{Event}
use Rattle.nq_model.specs.protocol.Profile.{skew}

-- whether an event is a tick of the server's clock
abbrev pub is_server_tick : Event → ℕ
is_server_tick Event.ServerTick = 1
is_server_tick other = 0

-- whether an event is a tick of this host's clock
abbrev pub is_tick_of : ℕ → Event → ℕ
is_tick_of host (Event.ClientTick h) = if h == host then 1 else 0
is_tick_of host other = 0

-- how often the server's clock ticks in a part of a schedule
abbrev pub server_ticks : List Event → ℕ
server_ticks [] = 0
server_ticks (e ∷ events) = is_server_tick e + server_ticks events

-- how often a host's clock ticks in a part of a schedule
abbrev pub ticks_of : ℕ → List Event → ℕ
ticks_of host [] = 0
ticks_of host (e ∷ events) = is_tick_of host e + ticks_of host events

-- a schedule is within skew: in each part of it in which a host's clock ticks no more often than the longest term, the
-- server's clock ticks at most 3 times more (Macklem 1994)
abbrev pub IsWithinSkew : (hosts longest : ℕ) → List Event → Type 0
IsWithinSkew hosts longest events =
    (before part after : List Event)
    → events ≡ before ++ part ++ after
    → (host : ℕ)
    → host < hosts
    → ticks_of host part ≤ longest
    → server_ticks part ≤ ticks_of host part + skew

-- the same as a test: the parts that begin at one place, by the ticks in them so far
abbrev pub part_within : (longest ticks server : ℕ) → Bool
part_within longest ticks server = not (nat_le ticks longest) || nat_le server (ticks + skew)

abbrev pub parts_within : (host longest ticks server : ℕ) → List Event → Bool
parts_within host longest ticks server [] = part_within longest ticks server
parts_within host longest ticks server (e ∷ events) =
    part_within longest ticks server
    && parts_within host longest (is_tick_of host e + ticks) (is_server_tick e + server) events

-- the parts that begin anywhere
abbrev pub host_within : (host longest : ℕ) → List Event → Bool
host_within host longest [] = true
host_within host longest (e ∷ events) = parts_within host longest 0 0 (e ∷ events) && host_within host longest events

-- of all hosts below a number
abbrev pub is_within_skew : (hosts longest : ℕ) → List Event → Bool
is_within_skew zero longest events = true
is_within_skew (suc host) longest events = host_within host longest events && is_within_skew host longest events

-- what passes the test is within skew
abbrev pub SkewTestIsSound : Type 0
SkewTestIsSound =
    (hosts longest : ℕ) (events : List Event)
    → is_within_skew hosts longest events ≡ true
    → IsWithinSkew hosts longest events
