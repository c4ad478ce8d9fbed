-- Answers and entries as they are compared: a list of losses has room for further ones, of which no answer and no
-- journal tells.
use Rattle.nq_base.specs.declared.answers.Answer.{Answer}
use Rattle.nq_base.specs.declared.entries.Entry.{Entry}
use Rattle.nq_base.specs.declared.entries.Said.{Said}

-- an answer with no room reserved in it
abbrev pub plain_answer : Answer → Answer
plain_answer (Answer.Lost losses) = Answer.Lost (record losses { spare = 0 })
plain_answer other = other

-- an answer as a journal tells it, with no room reserved in it
abbrev pub plain_said : Said → Said
plain_said (Said.Lost spans) = Said.Lost (record spans { spare = 0 })
plain_said other = other

-- an entry with no room reserved in it
abbrev pub plain : Entry → Entry
plain (Entry.A who q said) = Entry.A who q (plain_said said)
plain other = other
