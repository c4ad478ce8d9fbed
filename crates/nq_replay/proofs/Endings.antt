-- The end of reading a schedule.
use Rattle.std.proofs.Common.{◌≡◌, ℕ, List, Option, Some, Result, Ok, Err, IfOk, inl, inr, refl, subst}
use Rattle.std.specs.Option.{IfSome}
use Rattle.std.specs.Prelude.{IfErr}
use Rattle.nq_base.specs.declared.ending.ending.Ending.{Ending}
use Rattle.nq_io.specs.Whole.{IsAll, IsOver}
use Rattle.nq_replay.specs.Ending.{CountsSource, IsFault, IsUnlessFault, TellsOver}
use Rattle.nq_replay.specs.Reading.{CountsInput, IsReadAs, RefusedUnlessFault, Refuses, RefusesText}
use Rattle.nq_replay.specs.Replay.{OfInput}
use Rattle.nq_replay.specs.Schedules.{TellsStop}
use Rattle.nq_script.specs.Schedule.{FirstBadLine}
use Rattle.nq_script.specs.declared.scripts.Script.{Script}
use Rattle.nq_world.specs.declared.stepped.Stepped.{Stepped}

-- what was read is what was told
pub told_text : (bytes : List ℕ) (limit : ℕ) (left rest : Option (List ℕ)) (text : List ℕ) → IsAll bytes limit left rest → left ≡ Some text → bytes ≡ text
told_text bytes limit left rest text read told = subst (λ l. IfSome l (λ input. bytes ≡ input)) told read.all

-- a text outside the grammar
pub refuses_text : (end : Ending) (line : ℕ) (text : List ℕ) (held now : Option (List ℕ)) (w w' : ℕ) → FirstBadLine text line
    → TellsStop end line Stepped.NoPacket held now w w' → RefusesText end text held now w w'
refuses_text Ending.Script line text held now w w' bad tells = record { number = line; bad = bad; printed = tells }
refuses_text Ending.Memory line text held now w w' bad tells = tells
refuses_text other line text held now w w' bad tells = absurd tells

-- a text that was read to its end
pub read_as : (result : Result Script Ending) (text : List ℕ) (limit : ℕ) (left rest : Option (List ℕ)) → IsAll text limit left rest
    → IfOk result (λ script. IsReadAs script text)
    → IfOk result (λ script. OfInput limit left rest (λ t. IsReadAs script t))
read_as (Ok script) text limit left rest read is = record { text = text; read = read; so = is }
read_as (Err end) text limit left rest read is = tt

refuses : (end : Ending) (text : List ℕ) (limit : ℕ) (left rest held now : Option (List ℕ)) (r r' w w' : ℕ) → IsAll text limit left rest
    → RefusesText end text held now w w' → Refuses end limit left rest held now r r' w w'
refuses Ending.Script text limit left rest held now r r' w w' read so = record { text = text; read = read; so = so }
refuses Ending.Memory text limit left rest held now r r' w w' read so = (so, inr (inl (text, read)))
refuses other text limit left rest held now r r' w w' read so = absurd so

pub refuses_read : (result : Result Script Ending) (text : List ℕ) (limit : ℕ) (left rest held now : Option (List ℕ)) (r r' w w' : ℕ)
    → IsAll text limit left rest → IfErr result (λ end. RefusesText end text held now w w')
    → IfErr result (λ end. Refuses end limit left rest held now r r' w w')
refuses_read (Ok script) text limit left rest held now r r' w w' read so = tt
refuses_read (Err end) text limit left rest held now r r' w w' read so = refuses end text limit left rest held now r r' w w' read so

-- reading a text meets no fault of the source
still_refused : (end : Ending) (text : List ℕ) (held now : Option (List ℕ)) (r r' w w' : ℕ) → RefusesText end text held now w w'
    → IsUnlessFault end Ending.Script 0 0 w w' → IsUnlessFault end Ending.Script r r' w w'
still_refused Ending.Script text held now r r' w w' so unless = inl refl
still_refused Ending.Memory text held now r r' w w' so unless = inr tt
still_refused other text held now r r' w w' so unless = absurd so

pub refused_read : (result : Result Script Ending) (text : List ℕ) (held now : Option (List ℕ)) (r r' w w' : ℕ)
    → IfErr result (λ end. RefusesText end text held now w w') → RefusedUnlessFault result Ending.Script 0 0 w w'
    → RefusedUnlessFault result Ending.Script r r' w w'
refused_read (Ok script) text held now r r' w w' so unless = absurd unless
refused_read (Err end) text held now r r' w w' so unless = still_refused end text held now r r' w w' so unless

fault_alone : (end : Ending) (r r' w w' : ℕ) → end ≡ Ending.Memory → IsFault end r r' w w'
fault_alone end r r' w w' is = rw is tt

pub faults_read : (result : Result Script Ending) (r r' w w' : ℕ) → IfErr result (λ end. end ≡ Ending.Memory) → IfErr result (λ end. IsFault end r r' w w')
faults_read (Ok script) r r' w w' is = tt
faults_read (Err end) r r' w w' is = fault_alone end r r' w w' is

-- what was told of an input that passes the limit
pub refuses_over : (end : Ending) (front : List ℕ) (limit : ℕ) (left rest held now : Option (List ℕ)) (r r' w w' : ℕ) → IsOver front limit left rest
    → TellsOver end front held now w w' → Refuses end limit left rest held now r r' w w'
refuses_over Ending.Memory front limit left rest held now r r' w w' over tells = (tells, inr (inr (front, over)))
refuses_over Ending.Limit front limit left rest held now r r' w w' over tells = record { front = front; passes = over; printed = tells }
refuses_over other front limit left rest held now r r' w w' over tells = absurd tells

pub over_unless : (end : Ending) (front : List ℕ) (held now : Option (List ℕ)) (r r' w w' : ℕ) → TellsOver end front held now w w'
    → IsUnlessFault end Ending.Limit r r' w w'
over_unless Ending.Memory front held now r r' w w' tells = inr tt
over_unless Ending.Limit front held now r r' w w' tells = inl refl
over_unless other front held now r r' w w' tells = absurd tells

-- telling it meets no fault of the source
pub over_counts : (end : Ending) (front : List ℕ) (held now : Option (List ℕ)) (w w' before count : ℕ) → TellsOver end front held now w w'
    → count ≡ before → CountsSource end before count
over_counts Ending.Memory front held now w w' before count tells same = same
over_counts Ending.Limit front held now w w' before count tells same = same
over_counts other front held now w w' before count tells same = absurd tells

-- nor does reading a text
refused_counts : (end : Ending) (text : List ℕ) (held now : Option (List ℕ)) (w w' before count : ℕ) → RefusesText end text held now w w'
    → count ≡ before → CountsSource end before count
refused_counts Ending.Script text held now w w' before count so same = same
refused_counts Ending.Memory text held now w w' before count so same = same
refused_counts other text held now w w' before count so same = absurd so

pub read_counts : (result : Result Script Ending) (text : List ℕ) (held now : Option (List ℕ)) (w w' before count : ℕ)
    → IfErr result (λ end. RefusesText end text held now w w') → count ≡ before → CountsInput result before count
read_counts (Ok script) text held now w w' before count so same = same
read_counts (Err end) text held now w w' before count so same = refused_counts end text held now w w' before count so same
