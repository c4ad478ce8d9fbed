-- The lines between the head and `end`.
use Rattle.std.specs.Prelude.{◌≡◌, ◌⊎◌, ℕ, ◌<◌, ◌≤◌, ◌^◌, ◌==◌, List, [], ◌∷◌, ◌++◌, replicate, codes, if◌then◌else◌}
use Rattle.std.specs.Fmt.{decimal}
use Rattle.nq_base.specs.declared.Event.{Event}
use Rattle.nq_script.specs.Calls.{HasCall, IsFilledCall, FitsCall, call_of, call_words}
use Rattle.nq_script.specs.Text.{spaced}
use Rattle.nq_script.specs.declared.heads.Head.{Head}
use Rattle.nq_script.specs.declared.lines.Line.{Line}
use Rattle.nq_script.specs.declared.lines.ToldLine.{ToldLine}

-- an event that a head allows: it is of a host that is there, and no boot gets a longer term than the longest one
abbrev pub Allows : Head → Event → Type 0
Allows head (Event.Call host call) = host < head.hosts
Allows head (Event.ClientTick host) = host < head.hosts
Allows head (Event.Restart host) = host < head.hosts
Allows head (Event.Crash longest) = longest ≤ head.longest
Allows head other = Unit {0}

-- how often a line may tell a tick or a round
abbrev pub IsRepeat : ℕ → Type 0
IsRepeat times = (1 ≤ times) × (times ≤ 1000)

-- a crash tells the longest term from version 2 on
abbrev pub longest_words : (version longest : ℕ) → List (List ℕ)
longest_words version longest = if version == 2 then decimal longest ∷ [] else []

-- the words of an event, so many times over
abbrev pub event_words : (version : ℕ) → Event → (times : ℕ) → List (List ℕ)
event_words version (Event.Call host call) times = codes "call" ∷ decimal host ∷ call_words call
event_words version (Event.Deliver packet) times = codes "deliver" ∷ decimal packet ∷ []
event_words version Event.ServerTick times = codes "tick" ∷ codes "s" ∷ decimal times ∷ []
event_words version (Event.ClientTick host) times = codes "tick" ∷ decimal host ∷ decimal times ∷ []
event_words version (Event.Restart host) times = codes "restart" ∷ decimal host ∷ []
event_words version (Event.Crash longest) times = codes "crash" ∷ longest_words version longest

-- an event that a version can tell: in version 1 each boot has the longest term 60, and in version 2 one of at least 5
abbrev pub HasEvent : (version : ℕ) → Event → Type 0
HasEvent version (Event.Call host call) = HasCall version call
HasEvent version (Event.Crash longest) = ((version ≡ 1) × (longest ≡ 60)) ⊎ ((version ≡ 2) × (5 ≤ longest))
HasEvent version other = Unit {0}

-- an event whose body, if it has one, a number fills
abbrev pub IsFilledEvent : Event → Type 0
IsFilledEvent (Event.Call host call) = IsFilledCall call
IsFilledEvent other = Unit {0}

-- how often one line tells an event: ticks up to a thousand times, others once
abbrev pub TellsTimes : Event → (times : ℕ) → Type 0
TellsTimes Event.ServerTick times = IsRepeat times
TellsTimes (Event.ClientTick host) times = IsRepeat times
TellsTimes other times = times ≡ 1

-- an event whose packet is below 2 ^ 64 and whose other numbers are below 2 ^ 32
abbrev pub FitsEvent : Event → Type 0
FitsEvent (Event.Call host call) = (host < 2 ^ 32) × FitsCall call
FitsEvent (Event.Deliver packet) = packet < 2 ^ 64
FitsEvent Event.ServerTick = Unit {0}
FitsEvent (Event.ClientTick host) = host < 2 ^ 32
FitsEvent (Event.Restart host) = host < 2 ^ 32
FitsEvent (Event.Crash longest) = longest < 2 ^ 32

-- the line that spells an event, so many times over
abbrev pub SpellsEvents : (version : ℕ) → Event → (times : ℕ) → List ℕ → Type 0
SpellsEvents version event times text =
    HasEvent version event × FitsEvent event × TellsTimes event times × (text ≡ spaced (event_words version event times))

-- the line that spells one event
abbrev pub SpellsEvent : (version : ℕ) → Event → List ℕ → Type 0
SpellsEvent version event text = SpellsEvents version event 1 text

-- a line that a version can tell
abbrev pub HasLine : (version : ℕ) → Line → Type 0
HasLine version (Line.Events event times) = HasEvent version event × TellsTimes event times
HasLine version (Line.Round times) = IsRepeat times
HasLine version other = Unit {0}

-- the text of a line in a version
abbrev pub TellsLine : (version : ℕ) → Line → List ℕ → Type 0
TellsLine version (Line.Events event times) text = SpellsEvents version event times text
TellsLine version (Line.Round times) text = IsRepeat times × (text ≡ spaced (codes "round" ∷ decimal times ∷ []))
TellsLine version Line.Flow text = text ≡ codes "flow"
TellsLine version Line.End text = text ≡ codes "end"

-- a line that a head allows
abbrev pub AllowsLine : Head → Line → Type 0
AllowsLine head (Line.Events event times) = Allows head event
AllowsLine head other = Unit {0}

-- the text of a line, in a schedule with this head
abbrev pub SpellsLine : Head → Line → List ℕ → Type 0
SpellsLine head line text = AllowsLine head line × TellsLine head.version line text

-- the line that is told, with its body
abbrev pub line_of : ToldLine → Line
line_of (ToldLine.Call host told) = Line.Events (Event.Call host (call_of told)) 1
line_of (ToldLine.Deliver packet) = Line.Events (Event.Deliver packet) 1
line_of (ToldLine.ServerTicks times) = Line.Events Event.ServerTick times
line_of (ToldLine.ClientTicks host times) = Line.Events (Event.ClientTick host) times
line_of (ToldLine.Restart host) = Line.Events (Event.Restart host) 1
line_of (ToldLine.Crash longest) = Line.Events (Event.Crash longest) 1
line_of (ToldLine.Round times) = Line.Round times
line_of ToldLine.Flow = Line.Flow
line_of ToldLine.End = Line.End

-- the line of an event, once
abbrev pub once : Event → Line
once event = Line.Events event 1

-- texts that spell events one by one, each an event that the head allows
abbrev pub AreSpelled : Head → List Event → List (List ℕ) → Type 0
AreSpelled head [] [] = Unit {0}
AreSpelled head [] (text ∷ texts) = ⊥
AreSpelled head (event ∷ events) [] = ⊥
AreSpelled head (event ∷ events) (text ∷ texts) = Allows head event × SpellsEvent head.version event text × AreSpelled head events texts

-- the events that lines name themselves; those of a round or a flow follow from the run
abbrev pub events_of : List Line → List Event
events_of [] = []
events_of (Line.Events event times ∷ lines) = replicate times event ++ events_of lines
events_of (other ∷ lines) = events_of lines
