-- What a run of calls prints, and how it ends. Below, `held` is what the sink held before and `now` is what it holds after, where the
-- sink tells them; `w` and `w'` are the sink's counts of faults before and after.
use Rattle.std.specs.Fmt.{decimal}
use Rattle.std.specs.List.{count_by}
use Rattle.std.specs.Prelude.{◌≡◌, ◌⊎◌, ℕ, ◌+◌, ◌-◌, ◌==◌, List, ◌++◌, length, take, Option, Result, Ok, Err, codes}
use Rattle.nq_hosts.specs.Answers.{answers_text}
use Rattle.nq_hosts.specs.declared.answers.ending.Stop.{Stop}
use Rattle.nq_base.specs.declared.Entry.{Entry}
use Rattle.nq_base.specs.declared.ending.ending.Ending.{Ending}
use Rattle.nq_base.specs.declared.ending.fault.Fault.{Fault}
use Rattle.nq_io.specs.Faults.{Rose}
use Rattle.nq_io.specs.Sink.{AppendsFront}
use Rattle.nq_io.specs.Told.{with_end}

-- ---- lines

-- the line that tells the number of a line that spells no call
unfoldable pub script_line : (number : ℕ) → List ℕ
script_line number = codes "script line " ++ decimal number ++ codes "\n"

-- the line that tells in which line there are too many bytes
unfoldable pub bytes_line : (number : ℕ) → List ℕ
bytes_line number = codes "limit line " ++ decimal number ++ codes " bytes\n"

-- the line that tells at whose line the client takes in no more
unfoldable pub events_line : (number : ℕ) → List ℕ
events_line number = codes "limit line " ++ decimal number ++ codes " events\n"

-- the line that tells whose call has no answer
unfoldable pub noanswer_line : (number : ℕ) → List ℕ
noanswer_line number = codes "noanswer line " ++ decimal number ++ codes "\n"

-- the line in which the last of these bytes stands: one more than there are line feeds before it
unfoldable pub last_line : List ℕ → ℕ
last_line bytes = count_by (λ b. b == 10) (take (length bytes - 1) bytes) + 1

-- ---- printing

-- nothing was printed
abbrev pub IsSilent : (held now : Option (List ℕ)) → (w w' : ℕ) → Type 0
IsSilent held now w w' = (now ≡ held) × (w' ≡ w)

-- a text was printed, or a front of it where the sink failed, which it has counted
abbrev pub Prints : (text : List ℕ) → (held now : Option (List ℕ)) → (w w' : ℕ) → Type 0
Prints text held now w w' = ((now ≡ with_end held text) × (w' ≡ w)) ⊎ (AppendsFront text held now × Rose w w')

-- it ended so, and a text was printed; or memory was wanting
abbrev pub TellsSo : (due : Ending) → (text : List ℕ) → Ending → (held now : Option (List ℕ)) → (w w' : ℕ) → Type 0
TellsSo due text result held now w w' =
    ((result ≡ due) × Prints text held now w w') ⊎ ((result ≡ Ending.Memory) × IsSilent held now w w')

-- what the end says of printing this text, behind which nothing is told
abbrev pub PrintsAll : Ending → (text : List ℕ) → (held now : Option (List ℕ)) → (w w' : ℕ) → Type 0
PrintsAll Ending.Done text held now w w' = (now ≡ with_end held text) × (w' ≡ w)
PrintsAll Ending.WriteFault text held now w w' = AppendsFront text held now × Rose w w'
PrintsAll Ending.Memory text held now w w' = IsSilent held now w w'
PrintsAll other text held now w w' = ⊥

-- what is told where calls stopped: the answers so far, and behind them the line of the call where it has no answer
abbrev pub TellsStop : (why : Fault) → (line : ℕ) → List Entry → Ending → (held now : Option (List ℕ)) → (w w' : ℕ) → Type 0
TellsStop Fault.Link line entries result held now w w' = (result ≡ Ending.LinkFault) × IsSilent held now w w'
TellsStop Fault.Keep line entries result held now w w' = (result ≡ Ending.KeepFault) × IsSilent held now w w'
TellsStop Fault.Memory line entries result held now w w' = (result ≡ Ending.Memory) × IsSilent held now w w'
TellsStop Fault.Spent line entries result held now w w' =
    TellsSo Ending.Limit (answers_text entries ++ events_line line) result held now w w'
TellsStop Fault.NoAnswer line entries result held now w w' =
    TellsSo Ending.NoAnswer (answers_text entries ++ noanswer_line line) result held now w w'

-- what is told of calls that ended so, with this journal
abbrev pub TellsEnd : Result Unit Stop → List Entry → Ending → (held now : Option (List ℕ)) → (w w' : ℕ) → Type 0
TellsEnd (Ok done) entries result held now w w' = PrintsAll result (answers_text entries) held now w w'
TellsEnd (Err stop) entries result held now w w' = TellsStop stop.why stop.line entries result held now w w'
