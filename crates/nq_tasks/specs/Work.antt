-- What a host does for one ask.
use Rattle.std.specs.Fmt.{decimal}
use Rattle.std.specs.Prelude.{◌≡◌, ℕ, List, ◌++◌, Option, Some, None, if◌then◌else◌, codes, bytes_eq}
use Rattle.nq_asks.specs.declared.lines.AnswerKind.{AnswerKind}
use Rattle.nq_base.specs.Steps.{◌>>=◌}
use Rattle.nq_base.specs.declared.Answer.{Answer}
use Rattle.nq_base.specs.declared.Call.{Call}
use Rattle.nq_base.specs.declared.Who.{Who}
use Rattle.nq_script.specs.WordsReading.{name_of, word_at, words_of}
use Rattle.nq_tasks.specs.declared.work.Came.{Came}
use Rattle.nq_tasks.specs.declared.tasks.Stepped.{Stepped}
use Rattle.nq_tasks.specs.declared.tasks.Task.{Task}
use Rattle.nq_tasks.specs.declared.work.AskReply.{AskReply}
use Rattle.nq_whole.specs.Getting.{Gives, asked_at as got_by}
use Rattle.nq_whole.specs.Storing.{asked_at as stored_by, store_at}
use Rattle.nq_whole.specs.Tidying.{asked_at as tidied_by, tidy_at}
use Rattle.nq_whole.specs.declared.getting.GettingSays.{GettingSays}
use Rattle.nq_whole.specs.declared.storing.StoringSays.{StoringSays}
use Rattle.nq_whole.specs.declared.tidying.TidyingSays.{TidyingSays}

-- who asked, and the number of the ask
pub record Asked : Type 0 where
  pub place : ℕ
  pub number : ℕ

-- what nobody asked for
abbrev pub nobodys : Asked
nobodys = record { place = 18446744073709551615; number = 0 }

-- an ask at work: whose it is, and what is done for it
pub record Works : Type 0 where
  pub asked : Asked
  pub task : Task

-- storing what is delayed of a file, which nobody asked for
abbrev pub syncs : (file : ℕ) → Works
syncs file = record { asked = nobodys; task = Task.Call (Call.Sync file) }

-- the call that a task makes next; a list makes none
abbrev pub asked_by : Task → Option Call
asked_by (Task.Call call) = Some call
asked_by (Task.Store s) = Some (stored_by s.name s.own s.bytes s.step)
asked_by (Task.Get g) = Some (got_by g.name g.stage)
asked_by (Task.Tidy t) = Some (tidied_by t.own t.name t.rest)
asked_by Task.List = None

-- an answer goes to whoever asked, with the number of the ask
pub record IsOf (asked : Asked) (reply : AskReply) : Type 0 where
  pub place : reply.place ≡ asked.place
  pub number : reply.number ≡ asked.number

-- what came of a step is no answer, or one of this ask
abbrev pub Answers : Asked → Came → Type 0
Answers asked (Came.Over reply) = IsOf asked reply
Answers asked other = Unit {0}

-- work is over, with an answer of this kind to its ask
abbrev pub Ends : Asked → AnswerKind → Came → Type 0
Ends asked kind (Came.Over reply) = IsOf asked reply × (reply.kind ≡ kind)
Ends asked kind other = ⊥

-- work goes on, or is over with a refusal
abbrev pub GoesOrRefuses : Asked → Came → Type 0
GoesOrRefuses asked Came.On = Unit {0}
GoesOrRefuses asked came = Ends asked AnswerKind.Refused came

-- tidying up is over, and nobody is answered
abbrev pub IsTidied : Came → Type 0
IsTidied (Came.Tidied made) = Unit {0}
IsTidied other = ⊥

-- a task said this of an answer, and stands so behind it
abbrev pub Steps : Stepped → Answer → (old new : Task) → Type 0
Steps Stepped.Called answer (Task.Call call) new = new ≡ Task.Call call
Steps (Stepped.Stored said) answer (Task.Store s) new =
    let next = store_at s.step answer s.bytes in (said ≡ next.said) × (new ≡ Task.Store (record s { step = next.step }))
Steps (Stepped.Got said) answer (Task.Get g) (Task.Get g') = Gives said answer g g'
Steps (Stepped.Tidied told) answer (Task.Tidy t) new =
    let next = tidy_at t.rest answer in (told ≡ next.told) × (new ≡ Task.Tidy (record t { rest = next.rest }))
Steps Stepped.Listing answer Task.List new = new ≡ Task.List
Steps stepped answer old new = ⊥

-- the answer to a call says whether it was done
abbrev pub kind_by : Answer → AnswerKind
kind_by (Answer.Ok value) = AnswerKind.Done
kind_by other = AnswerKind.Refused

-- what comes of what storing says: it is over where all is stored, or where it was refused and has removed what it had made
abbrev pub ComesOfStoring : Asked → StoringSays → Came → Type 0
ComesOfStoring asked StoringSays.Done came = Ends asked AnswerKind.Done came
ComesOfStoring asked StoringSays.Refused came = Ends asked AnswerKind.Refused came
ComesOfStoring asked other came = came ≡ Came.On

-- what comes of what getting says: where it begins anew it is refused once that was too often
abbrev pub ComesOfGetting : Asked → GettingSays → Came → Type 0
ComesOfGetting asked GettingSays.Goes came = came ≡ Came.On
ComesOfGetting asked GettingSays.Anew came = GoesOrRefuses asked came
ComesOfGetting asked GettingSays.Done came = Ends asked AnswerKind.Bytes came
ComesOfGetting asked other came = Ends asked AnswerKind.Refused came

-- what comes of what tidying says
abbrev pub ComesOfTidying : TidyingSays → Came → Type 0
ComesOfTidying TidyingSays.Goes came = came ≡ Came.On
ComesOfTidying other came = IsTidied came

-- what comes of what a task said of an answer
abbrev pub ComesOf : Asked → Answer → Stepped → Came → Type 0
ComesOf asked answer Stepped.Called came = Ends asked (kind_by answer) came
ComesOf asked answer (Stepped.Stored said) came = ComesOfStoring asked said came
ComesOf asked answer (Stepped.Got said) came = ComesOfGetting asked said came
ComesOf asked answer (Stepped.Tidied told) came = ComesOfTidying told came
ComesOf asked answer Stepped.Listing came = came ≡ Came.On

-- work took an answer: what its task said of it, and what came of that. Where it goes on, it goes on behind that step
pub record TakesAnswer (answer : Answer) (came : Came) (old new : Works) : Type 0 where
  pub stepped : Stepped
  pub task : Task
  pub steps : Steps stepped answer old.task task
  pub comes : ComesOf old.asked answer stepped came
  pub asked : new.asked ≡ old.asked
  pub goes : came ≡ Came.On → new.task ≡ task

-- the name under which words store a file
abbrev pub stored_word : (verb : List ℕ) → (words : List (List ℕ)) → Option (List ℕ)
stored_word verb words = if bytes_eq verb (codes "store") then (word_at words >>= λ word. name_of word.0) else None

-- the name under which an ask stores a file
unfoldable pub stored_name : (text : List ℕ) → Option (List ℕ)
stored_name text = word_at (words_of text) >>= λ word. stored_word word.0 word.1

-- the name of a file with the bytes of a whole one
abbrev pub own_name : Who → (count : ℕ) → List ℕ
own_name who count = codes "~" ++ (decimal who.host ++ (codes "." ++ (decimal who.inc ++ (codes "." ++ decimal count))))
