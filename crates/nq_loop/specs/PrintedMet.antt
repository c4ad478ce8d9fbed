-- That the laws of loops that printed speak of something: a loop of one host ends with all printed behind three turns, in which all came in time.
use Rattle.std.specs.Prelude.{◌≡◌, ℕ, true, List, Option, Some, None, [], ◌∷◌}
use Rattle.nq_base.specs.declared.ending.ending.Ending.{Ending}
use Rattle.nq_loop.specs.Looped.{LoopEnds}
use Rattle.nq_loop.specs.Turning.{all_answered}
use Rattle.nq_clock.specs.Clocks.{ClockTold}
use Rattle.nq_link.specs.Links.{LinkTold}
use Rattle.nq_loop.specs.InTime.{all_in_time}
use Rattle.nq_loop.specs.Met.{one_head}

-- a clock that was not read yet, and shows 0, and 1 from then on
abbrev pub slow_clock : ClockTold
slow_clock = record { floor = 0; readings = Some (0 ∷ 1 ∷ 1 ∷ []); reads = 0 }

-- the links of the server and of a host, which were asked for so many receives, and tell nothing else
abbrev pub asked : (server host : ℕ) → List LinkTold
asked server host =
    record { sent = None; waiting = None; faults = 0; receives = server } ∷ record { sent = None; waiting = None; faults = 0; receives = host } ∷ []

-- it read this clock and received over these links, and printed into a sink that held nothing. All came in time, and all its calls were answered
pub record PrintedLoopsAreMet : Type 0 where
  pub after : ClockTold
  pub now : Option (List ℕ)
  pub ends : LoopEnds Ending.Done 1 3 slow_clock after (asked 0 0) (asked 3 3) (Some []) now 0 0
  pub in_time : all_in_time one_head ends.events ≡ true
  pub answered : all_answered one_head ends.events ≡ true
