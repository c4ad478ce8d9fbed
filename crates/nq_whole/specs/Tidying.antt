-- Tidying up behind a store that was cut off: whether a file that was made for bytes is removed.
use Rattle.std.specs.Prelude.{ℕ, ◌==◌, List, Option, Some, None, if◌then◌else◌}
use Rattle.nq_base.specs.declared.Answer.{Answer}
use Rattle.nq_base.specs.declared.Call.{Call}
use Rattle.nq_base.specs.declared.Value.{Value}
use Rattle.nq_whole.specs.Heads.{head_in}
use Rattle.nq_whole.specs.declared.heads.FileHead.{FileHead}
use Rattle.nq_whole.specs.declared.tidying.Rest.{Rest}
use Rattle.nq_whole.specs.declared.tidying.TidyingSays.{TidyingSays}
use Rattle.nq_whole.specs.declared.tidying.TidyStep.{TidyStep}

-- what is asked: the file that was made, the file under the name, and its head. The one that was made is removed where no head tells it
abbrev pub asked_at : (own name : List ℕ) → Rest → Call
asked_at own name Rest.Owning = Call.Lookup own
asked_at own name (Rest.Naming file) = Call.Lookup name
asked_at own name (Rest.Heading file at) = Call.Fetch at 0
asked_at own name (Rest.Removing file) = Call.Remove file
asked_at own name Rest.Ended = Call.Lookup own

-- it goes on
abbrev pub goes : Rest → TidyStep
goes rest = record { told = TidyingSays.Goes; rest = rest }

-- it ends so
abbrev pub ends : TidyingSays → TidyStep
ends told = record { told = told; rest = Rest.Ended }

-- behind looking for the file that was made
abbrev pub owned : Answer → TidyStep
owned (Answer.Ok (Value.File file)) = goes (Rest.Naming file)
owned Answer.NoEntry = ends TidyingSays.Gone
owned other = ends TidyingSays.Unsure

-- behind looking for the name
abbrev pub named : Answer → (file : ℕ) → TidyStep
named (Answer.Ok (Value.File at)) file = goes (Rest.Heading file at)
named Answer.NoEntry file = goes (Rest.Removing file)
named other file = ends TidyingSays.Unsure

-- whether the head tells the file
abbrev pub told_by : Option FileHead → (file : ℕ) → TidyStep
told_by (Some head) file = if head.file == file then ends TidyingSays.Kept else goes (Rest.Removing file)
told_by None file = goes (Rest.Removing file)

-- behind the first block under the name
abbrev pub headed : Answer → (file : ℕ) → TidyStep
headed (Answer.Ok (Value.Body body)) file = told_by (head_in body) file
headed Answer.Stale file = goes (Rest.Removing file)
headed other file = ends TidyingSays.Unsure

-- behind the removal
abbrev pub removed : Answer → TidyStep
removed (Answer.Ok value) = ends TidyingSays.Gone
removed Answer.Stale = ends TidyingSays.Gone
removed other = ends TidyingSays.Unsure

-- what an answer makes of tidying
abbrev pub tidy_at : Rest → Answer → TidyStep
tidy_at Rest.Owning answer = owned answer
tidy_at (Rest.Naming file) answer = named answer file
tidy_at (Rest.Heading file at) answer = headed answer file
tidy_at (Rest.Removing file) answer = removed answer
tidy_at Rest.Ended answer = ends TidyingSays.Unsure

-- tidying up behind a store
pub record Tidies : Type 0 where
  pub own : List ℕ
  pub name : List ℕ
  pub rest : Rest
