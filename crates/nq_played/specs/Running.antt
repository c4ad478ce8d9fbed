-- What a command reads and prints that plays texts of some kind. Below, `spells` tells which lines a text has, `bad` which of its lines is
-- the first that is wrong, `play` what playing lines comes to, and `prints` which bytes are printed of a moment, which is what playing
-- comes to. `left` is what was left in the source before it and `rest` is what is left after it, where the source tells them; `held` is what
-- the sink held before it and `now` is what it holds after it, where the sink tells them; `r` and `r'` are the source's counts of faults
-- before and after, and `w` and `w'` the sink's.
use Rattle.std.specs.Prelude.{◌≡◌, ◌⊎◌, ◌≤◌, ◌<◌, ℕ, List, Option, Some, length}
use Rattle.nq_base.specs.declared.SkewBroken.{SkewBroken}
use Rattle.nq_base.specs.declared.ending.ending.Ending.{Ending}
use Rattle.nq_io.specs.Faults.{Rose}
use Rattle.nq_io.specs.Sink.{AppendsFront, PrintsLine}
use Rattle.nq_io.specs.Told.{with_end}
use Rattle.nq_io.specs.Whole.{TakesSome}
use Rattle.nq_model.specs.protocol.Stepped.{Stepped, no_packet, out_of_skew, too_many_events, too_many_packets}
use Rattle.nq_replay.specs.AsidesPlaying.{Ended, ran, stopped}
use Rattle.nq_replay.specs.Ending.{CountsSink, IsUnlessFault}
use Rattle.nq_replay.specs.Lines.{limit_line, script_line, skew_line}
use Rattle.nq_replay.specs.Replay.{OfInput, PrintsLimit, TakesInput}
use Rattle.nq_replay.specs.Schedules.{PrintsBytes, TellsStop}
use Rattle.nq_replay.specs.declared.Bound.{Bound}
use Rattle.nq_script.specs.declared.heads.Head.{Head}
use Rattle.nq_world.specs.Answering.{told as answer_of}

module _ {L S : Type 0} (spells : Head → L → List ℕ → Type 0) (bad : List ℕ → ℕ → Type 0) (play : Head → L → Ended S)
    (prints : Head → S → List ℕ → Type 0) where
  -- the text is one with this head, and playing all of its lines comes to this
  pub record Runs (text : List ℕ) (head : Head) (reached : S) : Type 0 where
    pub lines : L
    pub spelled : spells head lines text
    pub played : play head lines ≡ ran reached

  -- the text is one, and the first of its events that is not taken is of this line and is answered so
  pub record Stops (text : List ℕ) (number : ℕ) (answer : Stepped) : Type 0 where
    pub head : Head
    pub lines : L
    pub spelled : spells head lines text
    pub stopped : play head lines ≡ stopped number answer

  -- the faulty line: of a text outside the grammar the first that is, and of another one the one that delivers a packet which does not travel
  abbrev pub Faulty : (text : List ℕ) → (number : ℕ) → Type 0
  Faulty text number = bad text number ⊎ Stops text number no_packet

  -- an event of this line comes after too many events or packets
  abbrev pub Passes : (text : List ℕ) → (number : ℕ) → Bound → Type 0
  Passes text number Bound.Bytes = ⊥
  Passes text number Bound.Events = Stops text number too_many_events
  Passes text number Bound.Packets = Stops text number too_many_packets

  -- ---- what is printed

  -- running this text printed all of that
  pub record Prints (text : List ℕ) (held now : Option (List ℕ)) : Type 0 where
    pub head : Head
    pub reached : S
    pub runs : Runs text head reached
    pub bytes : List ℕ
    pub are : prints head reached bytes
    pub printed : now ≡ with_end held bytes

  -- or a front of it
  pub record PrintsPart (text : List ℕ) (held now : Option (List ℕ)) : Type 0 where
    pub head : Head
    pub reached : S
    pub runs : Runs text head reached
    pub bytes : List ℕ
    pub are : prints head reached bytes
    pub printed : AppendsFront bytes held now

  -- running this text printed which of its lines is faulty
  pub record PrintsFaulty (text : List ℕ) (held now : Option (List ℕ)) (w w' : ℕ) : Type 0 where
    pub number : ℕ
    pub faulty : Faulty text number
    pub printed : PrintsLine (script_line number) held now w w'

  -- running this text printed which tick breaks the rule on skew
  pub record PrintsSkew (text : List ℕ) (held now : Option (List ℕ)) (w w' : ℕ) : Type 0 where
    pub number : ℕ
    pub broken : SkewBroken
    pub breaks : Stops text number (out_of_skew broken)
    pub printed : PrintsLine (skew_line number broken) held now w w'

  -- running this text printed in which line there are too many events or packets
  pub record PrintsPassing (text : List ℕ) (held now : Option (List ℕ)) (w w' : ℕ) : Type 0 where
    pub number : ℕ
    pub bound : Bound
    pub passes : Passes text number bound
    pub printed : PrintsLine (limit_line number bound) held now w w'

  -- all that is printed of a moment was printed, or a front of it, or nothing, by the end
  pub record PrintsRun (end : Ending) (head : Head) (reached : S) (held now : Option (List ℕ)) (w w' : ℕ) : Type 0 where
    pub bytes : List ℕ
    pub are : prints head reached bytes
    pub printed : PrintsBytes end bytes held now w w'

  -- ---- how it ends

  -- what running lines that were read printed, by what is due and the end
  abbrev pub EndsPlayed : Ending → Head → Ended S → (held now : Option (List ℕ)) → (w w' : ℕ) → Type 0
  EndsPlayed end head (ran reached) held now w w' = PrintsRun end head reached held now w w' ⊎ ((end ≡ Ending.Memory) × (now ≡ held))
  EndsPlayed end head (stopped line answer) held now w w' = TellsStop end line (answer_of answer) held now w w'

  -- what running a text that was read printed, by the end
  abbrev pub EndsText : Ending → (text : List ℕ) → (held now : Option (List ℕ)) → (w w' : ℕ) → Type 0
  EndsText Ending.Done text held now w w' = Prints text held now
  EndsText Ending.Script text held now w w' = PrintsFaulty text held now w w'
  EndsText Ending.Skew text held now w w' = PrintsSkew text held now w w'
  EndsText Ending.Limit text held now w w' = PrintsPassing text held now w w'
  EndsText Ending.WriteFault text held now w w' = PrintsPart text held now × Rose w w'
  EndsText Ending.Memory text held now w w' = (now ≡ held) ⊎ PrintsPart text held now
  EndsText other text held now w w' = ⊥

  -- what running a text printed, and which end came by the text, if no fault came in its place
  pub record TellsText (end : Ending) (text : List ℕ) (held now : Option (List ℕ)) (w w' : ℕ) : Type 0 where
    pub ends : EndsText end text held now w w'
    pub script : (number : ℕ) → Faulty text number → IsUnlessFault end Ending.Script 0 0 w w'
    pub skew : (number : ℕ) (broken : SkewBroken) → Stops text number (out_of_skew broken) → IsUnlessFault end Ending.Skew 0 0 w w'
    pub passes : (number : ℕ) (bound : Bound) → Passes text number bound → IsUnlessFault end Ending.Limit 0 0 w w'
    pub done : (head : Head) (reached : S) → Runs text head reached → IsUnlessFault end Ending.Done 0 0 w w'
    pub sink : CountsSink end w w'

  -- what a run read and printed, by its end
  abbrev pub Ends : Ending → (limit : ℕ) → (left rest held now : Option (List ℕ)) → (r r' w w' : ℕ) → Type 0
  Ends Ending.Done limit left rest held now r r' w w' = OfInput limit left rest (λ text. Prints text held now)
  Ends Ending.Script limit left rest held now r r' w w' = OfInput limit left rest (λ text. PrintsFaulty text held now w w')
  Ends Ending.Skew limit left rest held now r r' w w' = OfInput limit left rest (λ text. PrintsSkew text held now w w')
  Ends Ending.ReadFault limit left rest held now r r' w w' = (now ≡ held) × Rose r r' × TakesSome limit left rest
  Ends Ending.WriteFault limit left rest held now r r' w w' = OfInput limit left rest (λ text. PrintsPart text held now × Rose w w')
  Ends Ending.Memory limit left rest held now r r' w w' =
      ((now ≡ held) × TakesInput limit left rest) ⊎ OfInput limit left rest (λ text. PrintsPart text held now)
  Ends Ending.Limit limit left rest held now r r' w w' =
      PrintsLimit limit left rest held now w w' ⊎ OfInput limit left rest (λ text. PrintsPassing text held now w w')
  Ends other limit left rest held now r r' w w' = ⊥

  -- How it ends by its input: one that passes the limit, a faulty line, a tick that breaks the rule on skew, too many events or packets, or
  -- all events taken. A fault that was counted, or want of memory, may come in the place of that.
  pub record EndsByInput (end : Ending) (limit : ℕ) (left : Option (List ℕ)) (r r' w w' : ℕ) : Type 0 where
    pub over : (text : List ℕ) → left ≡ Some text → limit < length text → IsUnlessFault end Ending.Limit r r' w w'
    pub script : (text : List ℕ) → left ≡ Some text → length text ≤ limit → (number : ℕ) → Faulty text number
        → IsUnlessFault end Ending.Script r r' w w'
    pub skew : (text : List ℕ) → left ≡ Some text → length text ≤ limit → (number : ℕ) (broken : SkewBroken)
        → Stops text number (out_of_skew broken) → IsUnlessFault end Ending.Skew r r' w w'
    pub passes : (text : List ℕ) → left ≡ Some text → length text ≤ limit → (number : ℕ) (bound : Bound) → Passes text number bound
        → IsUnlessFault end Ending.Limit r r' w w'
    pub done : (text : List ℕ) → left ≡ Some text → length text ≤ limit → (head : Head) (reached : S) → Runs text head reached
        → IsUnlessFault end Ending.Done r r' w w'
