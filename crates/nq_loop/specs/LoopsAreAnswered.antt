-- Where each datagram of a loop arrives before the next tick, all calls of all hosts are answered within so many ticks.
use Rattle.std.specs.Prelude.{◌≡◌, ◌≤◌, ◌<◌, ◌⊎◌, ℕ, ◌+◌, ◌*◌, true, List, []}
use Rattle.nq_loop.specs.Looping.{Moment}
use Rattle.nq_loop.specs.Turning.{all_answered}
use Rattle.nq_loop.specs.Whole.{loop_head}
use Rattle.nq_model.specs.protocol.Profile.{most_hosts}
use Rattle.nq_model.specs.protocol.World.{run}
use Rattle.nq_link.specs.Links.{LinkTold}
use Rattle.nq_replay.specs.Playing.{beginning}
use Rattle.nq_laws.specs.WholeCallsAnswered.{served_rounds_for}
use Rattle.law_rounds.specs.RoundsEndQuiet.{IsSmall}
use Rattle.nq_loop.specs.InTime.{played, all_in_time}
use Rattle.nq_loop.specs.LoopTurns.{MakesTurns}

-- the most ticks that a turn makes
abbrev pub most_due : ℕ
most_due = 60

-- ticks in which all three calls of so many hosts are answered: for each call, and once more, as many as answer a call of each host, and those of one
-- turn
abbrev pub ticks_enough : (hosts : ℕ) → ℕ
ticks_enough hosts = (3 * hosts + 1) * (served_rounds_for hosts + most_due)

-- a loop before its first turn, over these links
abbrev pub first_moment : List LinkTold → Moment
first_moment links = record { events = []; links = links }

-- so it is with each loop of at most 64 hosts that made so many turns from its start: where all came in time, and the schedule is no longer than a
-- schedule may be, all calls of all hosts are answered, or the server's clock ticked less often
abbrev pub LoopsAreAnswered : Type 0
LoopsAreAnswered =
    (hosts count : ℕ) (links : List LinkTold) (after : Moment)
    → hosts ≤ most_hosts
    → MakesTurns (beginning (loop_head hosts)) count (first_moment links) after
    → all_in_time (beginning (loop_head hosts)) after.events ≡ true
    → IsSmall (played (beginning (loop_head hosts)) after.events)
    → (all_answered (beginning (loop_head hosts)) after.events ≡ true)
    ⊎ ((run (beginning (loop_head hosts)) after.events).server.now < ticks_enough hosts)
