-- The lines of the answers that a journal tells.
use Rattle.std.specs.Prelude.{ℕ, List, []}
use Rattle.std.specs.List.{flat_map}
use Rattle.nq_base.specs.declared.Entry.{Entry}
use Rattle.nq_base.specs.declared.Said.{Said}
use Rattle.nq_script.specs.Forms.{said_words}
use Rattle.nq_script.specs.Words.{line}

-- the line of an answer: its words as in a journal
unfoldable pub answer_line : Said → List ℕ
answer_line said = line (said_words said)

-- the line of the answer that an entry tells; none where it tells no answer
abbrev pub told_line : Entry → List ℕ
told_line (Entry.A who q said) = answer_line said
told_line other = []

-- the lines of all the answers that entries tell, in their order
abbrev pub answers_text : List Entry → List ℕ
answers_text entries = flat_map told_line entries
