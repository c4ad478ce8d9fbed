-- What is taken out of what came on a connection.
use Rattle.std.specs.Prelude.{◌≡◌, ◌<◌, ◌≤◌, ℕ}
use Rattle.nq_tasks.specs.declared.inbox.AskTaken.{AskTaken}

-- an ask is taken out whose number is above all before it, and no number is forgotten
abbrev pub TakesOut : AskTaken → (last last' : ℕ) → Type 0
TakesOut (AskTaken.Ask ask) last last' = (last < ask.number) × (last' ≡ ask.number)
TakesOut other last last' = last ≤ last'
