-- The whole of the program `client`. Below, `held` is what the sink held before and `now` is what it holds after, where the sink tells
-- them; `w` and `w'` are the sink's counts of faults before and after, and `s` and `s'` are the source's.
use Rattle.std.specs.Prelude.{◌≡◌, ⊤, ℕ, List, [], Option, Some, None, Result}
use Rattle.nq_hosts.specs.Telling.{IsSilent, TellsEnd, TellsSo, bytes_line, last_line, script_line}
use Rattle.nq_hosts.specs.declared.answers.ending.Stop.{Stop}
use Rattle.nq_base.specs.declared.Who.{Who}
use Rattle.nq_hosts.specs.Lines.{Tells}
use Rattle.nq_base.specs.declared.ending.ending.Ending.{Ending}
use Rattle.nq_io.specs.Faults.{Rose}
use Rattle.nq_io.specs.Whole.{CountsWhole, ReadsWhole}
use Rattle.nq_io.specs.declared.Whole.{Whole}
use Rattle.nq_base.specs.Entries.{EntryList}
use Rattle.nq_clock.specs.Clocks.{ClockTold}
use Rattle.nq_link.specs.Links.{LinkTold}
use Rattle.nq_hosts.specs.Running.{Runs}

-- the calls of a text were run with a journal that was empty at first, and what came of them was told
pub record RunsAndTells (turns : ℕ) (who : Who) (text : List ℕ) (result : Ending) (held now : Option (List ℕ)) (w w' : ℕ) (clock clock' : ClockTold)
    (link link' : LinkTold) : Type 0 where
  pub log : EntryList
  pub log' : EntryList
  pub empty : log.entries ≡ []
  pub ended : Result Unit Stop
  pub runs : Runs turns who text ended log log' clock clock' link link'
  pub tells : TellsEnd ended log'.entries result held now w w'

-- what comes of a text with this fault: its line is told and nothing else is done, or its calls are run
abbrev pub UsesText : Option ℕ → (turns : ℕ) → Who → (text : List ℕ) → Ending → (held now : Option (List ℕ)) → (w w' : ℕ) → (clock clock' : ClockTold)
    → (link link' : LinkTold) → Type 0
UsesText (Some number) turns who text result held now w w' clock clock' link link' =
    TellsSo Ending.Script (script_line number) result held now w w' × (clock' ≡ clock) × (link' ≡ link)
UsesText None turns who text result held now w w' clock clock' link link' =
    RunsAndTells turns who text result held now w w' clock clock' link link'

-- what comes of the input that was read so
abbrev pub UsesInput : Whole → (turns : ℕ) → Who → Ending → (held now : Option (List ℕ)) → (w w' : ℕ) → (clock clock' : ClockTold)
    → (link link' : LinkTold) → Type 0
UsesInput (Whole.All text) turns who result held now w w' clock clock' link link' =
    (fault : Option ℕ) × Tells fault text.items × UsesText fault turns who text.items result held now w w' clock clock' link link'
UsesInput (Whole.Over front) turns who result held now w w' clock clock' link link' =
    TellsSo Ending.Limit (bytes_line (last_line front.items)) result held now w w' × (clock' ≡ clock) × (link' ≡ link)
UsesInput Whole.Failed turns who result held now w w' clock clock' link link' =
    (result ≡ Ending.ReadFault) × IsSilent held now w w' × (clock' ≡ clock) × (link' ≡ link)
UsesInput Whole.Memory turns who result held now w w' clock clock' link link' =
    (result ≡ Ending.Memory) × IsSilent held now w w' × (clock' ≡ clock) × (link' ≡ link)

-- the input was read to its end, or to the limit, and this came of it
pub record Uses (turns : ℕ) (who : Who) (limit : ℕ) (result : Ending) (left rest : Option (List ℕ)) (s s' : ℕ) (held now : Option (List ℕ)) (w w' : ℕ)
    (clock clock' : ClockTold) (link link' : LinkTold) : Type 0 where
  pub whole : Whole
  pub reads : ReadsWhole whole limit left rest
  pub counts : CountsWhole whole s s'
  pub uses : UsesInput whole turns who result held now w w' clock clock' link link'

-- ---- completeness

-- Why a run of calls ended so. Where no count of faults rose and memory was not wanting, each call has its answer, or the turns for one
-- brought none, or the input passes its limit or the client takes in no more, or a line spells no call.
abbrev pub EndsBy : Ending → (s s' w w' link link' : ℕ) → Type 0
EndsBy Ending.Done s s' w w' link link' = ⊤
EndsBy Ending.NoAnswer s s' w w' link link' = ⊤
EndsBy Ending.Limit s s' w w' link link' = ⊤
EndsBy Ending.Script s s' w w' link link' = ⊤
EndsBy Ending.Memory s s' w w' link link' = ⊤
EndsBy Ending.ReadFault s s' w w' link link' = Rose s s'
EndsBy Ending.WriteFault s s' w w' link link' = Rose w w'
EndsBy Ending.LinkFault s s' w w' link link' = Rose link link'
EndsBy other s s' w w' link link' = ⊥
