-- Running the calls of a text, line by line, with a client that is started, attached, and stopped in the end.
use Rattle.std.specs.Prelude.{◌≡◌, ◌+◌, ℕ, List, [], ◌∷◌, ◌++◌, length, map, Result, Ok, Err}
use Rattle.nq_hosts.specs.declared.answers.ending.Stop.{Stop}
use Rattle.nq_base.specs.declared.Call.{Call}
use Rattle.nq_base.specs.declared.Who.{Who}
use Rattle.nq_hosts.specs.Lines.{AreCalls}
use Rattle.nq_client.specs.Counted.{Counted}
use Rattle.nq_client.specs.Finishing.{to_server}
use Rattle.nq_base.specs.declared.ending.fault.Fault.{Fault}
use Rattle.nq_base.specs.Entries.{EntryList}
use Rattle.nq_model.specs.protocol.ClientStep.{starts}
use Rattle.nq_clock.specs.Clocks.{ClockTold, ReadsOnce}
use Rattle.nq_link.specs.Links.{LinkTold}
use Rattle.nq_script.specs.Calls.{SpellsCall}
use Rattle.nq_hosts.specs.Calling.{RunsCall, SendsOut}
use Rattle.nq_hosts.specs.UserTurning.{Between, TakesTurns}
use Rattle.nq_hosts.specs.declared.user.aims.Aim.{Aim}

-- the term that a client wants, in ticks
abbrev pub term_wanted : ℕ
term_wanted = 30

-- ---- lines

-- the call that a line spells was run, and ended so
abbrev pub RunsLine : (turns : ℕ) → (line : List ℕ) → Result Unit Fault → (at after : Between) → Type 0
RunsLine turns line result at after = (call : Call) × SpellsCall 1 call line × RunsCall turns call result at after

-- the calls of these lines were run one after another, each to its answer
abbrev pub AnswersAll : (turns : ℕ) → List (List ℕ) → (at after : Between) → Type 0
AnswersAll turns [] at after = after ≡ at
AnswersAll turns (line ∷ lines) at after =
    (between : Between) × RunsLine turns line (Ok tt) at between × AnswersAll turns lines between after

-- the calls of some lines were run to their answers, and that of the next line stopped so
pub record StopsAt (turns : ℕ) (lines : List (List ℕ)) (stop : Stop) (at after : Between) : Type 0 where
  pub before : List (List ℕ)
  pub line : List ℕ
  pub later : List (List ℕ)
  pub parts : lines ≡ before ++ line ∷ later
  pub number : stop.line ≡ length before + 1
  pub between : Between
  pub answered : AnswersAll turns before at between
  pub last : RunsLine turns line (Err stop.why) between after

-- the calls of these lines were run, and ended so
abbrev pub RunsLines : (turns : ℕ) → List (List ℕ) → Result Unit Stop → (at after : Between) → Type 0
RunsLines turns lines (Ok done) at after = AnswersAll turns lines at after
RunsLines turns lines (Err stop) at after = StopsAt turns lines stop at after

-- the calls of a text were run, and ended so
abbrev pub RunsText : (turns : ℕ) → (text : List ℕ) → Result Unit Stop → (at after : Between) → Type 0
RunsText turns text result at after = (lines : List (List ℕ)) × AreCalls lines text × RunsLines turns lines result at after

-- ---- attaching

-- after turns for attaching: they stopped, or the calls of the text were run
abbrev pub AttendsFrom : (turns : ℕ) → (text : List ℕ) → (attached : Result Unit Fault) → Result Unit Stop → (at after : Between) → Type 0
AttendsFrom turns text (Err why) result at after = (result ≡ Err (record { why = why; line = 0 })) × (after ≡ at)
AttendsFrom turns text (Ok done) result at after = RunsText turns text result at after

-- a client that asked for it was attached, and the calls of the text were run
abbrev pub Attends : (turns : ℕ) → (text : List ℕ) → Result Unit Stop → (at after : Between) → Type 0
Attends turns text result at after =
    (attached : Result Unit Fault) × (between : Between)
    × TakesTurns Aim.Attached turns attached at between
    × AttendsFrom turns text attached result between after

-- a client that starts at this time, and what its start pushes is sent; or there is no memory, or the link failed
abbrev pub Begins : Who → (time : ℕ) → Result Counted Fault → (link link' : LinkTold) → Type 0
Begins who time (Ok client) link link' =
    (client.client ≡ (starts who term_wanted time).client) × (client.taken ≡ 0)
    × SendsOut (map to_server (starts who term_wanted time).sends) (Ok tt) link link'
Begins who time (Err Fault.Memory) link link' = link' ≡ link
Begins who time (Err why) link link' = SendsOut (map to_server (starts who term_wanted time).sends) (Err why) link link'

-- what comes after the start: nothing, or the client is attached and the calls of the text are run
pub record RunsFrom (turns : ℕ) (client : Counted) (text : List ℕ) (result : Result Unit Stop) (log log' : EntryList) (clock clock' : ClockTold)
    (link link' : LinkTold) : Type 0 where
  pub last : Between
  pub attends : Attends turns text result (record { client = client; log = log; next = 0; clock = clock; link = link }) last
  pub logs : log' ≡ last.log
  pub clocks : clock' ≡ last.clock
  pub links : link' ≡ last.link

-- likewise, by what the start gave
abbrev pub GoesOn : (turns : ℕ) → (begun : Result Counted Fault) → (text : List ℕ) → Result Unit Stop → (log log' : EntryList)
    → (clock clock' : ClockTold) → (link link' : LinkTold) → Type 0
GoesOn turns (Err why) text result log log' clock clock' link link' =
    (result ≡ Err (record { why = why; line = 0 })) × (log' ≡ log) × (clock' ≡ clock) × (link' ≡ link)
GoesOn turns (Ok client) text result log log' clock clock' link link' =
    RunsFrom turns client text result log log' clock clock' link link'

-- the clock was read once, a client was started at that time, attached, and the calls of the text were run
pub record Runs (turns : ℕ) (who : Who) (text : List ℕ) (result : Result Unit Stop) (log log' : EntryList) (clock clock' : ClockTold)
    (link link' : LinkTold) : Type 0 where
  pub time : ℕ
  pub clock_read : ClockTold
  pub read : ReadsOnce time clock clock_read
  pub begun : Result Counted Fault
  pub link_begun : LinkTold
  pub begins : Begins who time begun link link_begun
  pub rest : GoesOn turns begun text result log log' clock_read clock' link_begun link'
