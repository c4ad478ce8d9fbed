use Rattle.nq_replay.proofs.Outcomes.{names_bad}
use Rattle.nq_observe.proofs.looking.look.Goals as goal

pub returns-in-Err-Bad-clause-shows : goal.returns-in-Err-Bad-clause-shows
returns-in-Err-Bad-clause-shows g c = λ head lines spelled.
    absurd (names_bad c.in-Err-Bad.field-0 c.in-Err-Bad._number (λ n. ⊥) c.in-Err-Bad.field-0-is (c.in-Err-Bad.ensures.only head lines spelled))
