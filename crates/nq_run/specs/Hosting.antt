-- What the command of a real client does. Below, `held` is what the sink held before and `now` is what it holds after, where the sink
-- tells them; `w` and `w'` are its counts of faults before and after, and `s` and `s'` are the source's.
use Rattle.std.specs.Prelude.{◌≡◌, ℕ, List, Option, Some}
use Rattle.nq_base.specs.declared.Who.{Who}
use Rattle.nq_hosts.specs.Lines.{AreCalls}
use Rattle.nq_base.specs.Status.{status_of}
use Rattle.nq_base.specs.declared.ending.ending.Ending.{Ending}
use Rattle.nq_clock.specs.Clocks.{ClockTold}
use Rattle.nq_link.specs.Links.{LinkTold}
use Rattle.nq_hosts.specs.Using.{EndsBy as UsesBy, Uses}

-- a client ran the calls of the input, or ended before, and the status is that of its end, which has its cause
pub record Attends (turns : ℕ) (who : Who) (limit code : ℕ) (left rest : Option (List ℕ)) (s s' : ℕ) (held now : Option (List ℕ)) (w w' : ℕ)
    (clock clock' : ClockTold) (link link' : LinkTold) : Type 0 where
  pub end : Ending
  pub status : code ≡ status_of end
  pub uses : Uses turns who limit end left rest s s' held now w w' clock clock' link link'
  pub cause : UsesBy end s s' w w' link.faults link'.faults
  pub lawful : (text : List ℕ) (lines : List (List ℕ)) → left ≡ Some text → AreCalls lines text → end ≡ Ending.Script → ⊥
