-- The menu of a moment of a storm. Four hosts work on two files of four blocks.
use Rattle.std.specs.Prelude.{ℕ, ◌+◌, ◌-◌, ◌/◌, ◌%◌, nat_lt, Bool, zero, suc, List, [], ◌∷◌, ◌++◌, map, if◌then◌else◌}
use Rattle.std.specs.List.{flat_map}
use Rattle.nq_base.specs.Block.{filled}
use Rattle.nq_base.specs.declared.Call.{Call}
use Rattle.nq_base.specs.declared.Event.{Event}
use Rattle.nq_storm.specs.declared.fates.offers.Offer.{Offer}

-- what a function gives at the first numbers, from 0 on
abbrev pub each : {A : Type 0} → (ℕ → A) → ℕ → List A
each f zero = []
each f (suc n) = each f n ++ f n ∷ []

-- the blocks of the two files
abbrev pub blocks : List (ℕ × ℕ)
blocks = (1, 0) ∷ (1, 1) ∷ (1, 2) ∷ (1, 3) ∷ (2, 0) ∷ (2, 1) ∷ (2, 2) ∷ (2, 3) ∷ []

-- the calls of a host; what is written is the number of the event
abbrev pub host_calls : (number : ℕ) → List Call
host_calls number =
    map (λ b. Call.Read b.0 b.1) blocks
    ++ map (λ b. Call.Write b.0 b.1 (filled number)) blocks
    ++ map (λ b. Call.Put b.0 b.1 (filled number)) blocks
    ++ Call.Sync 1 ∷ Call.Sync 2 ∷ []

-- the calls of all hosts, host by host
abbrev pub calls : (number : ℕ) → List Event
calls number = flat_map (λ host. map (Event.Call host) (host_calls number)) (0 ∷ 1 ∷ 2 ∷ 3 ∷ [])

-- the tick of the server's clock, where it may tick
abbrev pub server_ticks : Bool → List Event
server_ticks may = if may then Event.ServerTick ∷ [] else []

-- the ticks
abbrev pub all_ticks : Bool → List Event
all_ticks may = server_ticks may ++ each Event.ClientTick 4

-- the menu: deliveries, ticks, restarts, a crash, and calls; `number` is that of the event, from 1
abbrev pub menu : Offer → (number : ℕ) → List Event
menu offer number =
    each Event.Deliver offer.packets ++ (all_ticks offer.server_tick ++ (each Event.Restart 4 ++ (Event.Crash 60 ∷ calls number)))

-- the call at a place among those of a host
abbrev pub call_at : (number place : ℕ) → Call
call_at number place =
    if nat_lt place 8 then Call.Read (1 + place % 8 / 4) (place % 4)
    else if nat_lt place 16 then Call.Write (1 + place % 8 / 4) (place % 4) (filled number)
    else if nat_lt place 24 then Call.Put (1 + place % 8 / 4) (place % 4) (filled number)
    else Call.Sync (place - 23)

-- the call at a place among those of all hosts
abbrev pub host_call : (number place : ℕ) → Event
host_call number place = Event.Call (place / 26) (call_at number (place % 26))
