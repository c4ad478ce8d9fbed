-- The counts of a loop.
use Rattle.std.specs.Fmt.{decimal}
use Rattle.std.specs.Prelude.{ℕ, Bool, true, false, List, ◌++◌, codes}
use Rattle.nq_base.specs.declared.Entry.{Entry}

-- whether an entry tells a call
unfoldable pub is_call : Entry → Bool
is_call (Entry.C who call op) = true
is_call other = false

-- whether an entry tells an answer
unfoldable pub is_answer : Entry → Bool
is_answer (Entry.A who call answer) = true
is_answer other = false

-- the line that counts calls and answers
unfoldable pub loop_line : (calls answers : ℕ) → List ℕ
loop_line calls answers = codes "loop calls " ++ (decimal calls ++ (codes " answered " ++ (decimal answers ++ codes "\n")))
