use Rattle.nq_replay.proofs.Endings.{refuses_text}
use Rattle.nq_replay.proofs.Outcomes.{names_bad, script_unless}
use Rattle.nq_replay.proofs.reading.read_text.Goals as goal

pub returns-in-Ok-clause-read : goal.returns-in-Ok-clause-read
returns-in-Ok-clause-read g c = record { spelled = c.in-Ok.ensures.found; only = c.in-Ok.ensures.only; good = c.in-Ok.ensures.bad }

pub returns-in-Ok-clause-ready : goal.returns-in-Ok-clause-ready
returns-in-Ok-clause-ready g c = record { text = c.args.text.now; spelled = c.in-Ok.ensures.found; short = c.requires; first = c.in-Ok.ensures.first }

pub returns-in-Ok-clause-script : goal.returns-in-Ok-clause-script
returns-in-Ok-clause-script g c = c.in-Ok.ensures.bad

pub returns-in-Err-Bad-clause-refuses : goal.returns-in-Err-Bad-clause-refuses
returns-in-Err-Bad-clause-refuses g c =
    refuses_text c.tell_script.result c.in-Err-Bad.number c.args.text.now _ _ _ _ (names_bad c.in-Err-Bad.field-0 c.in-Err-Bad.number _
    c.in-Err-Bad.field-0-is c.in-Err-Bad.ensures.found) c.tell_script.ensures.tells

pub returns-in-Err-Bad-clause-script : goal.returns-in-Err-Bad-clause-script
returns-in-Err-Bad-clause-script g c = λ number bad. script_unless c.tell_script.result c.in-Err-Bad.number _ _ _ _ c.tell_script.ensures.tells

pub returns-in-Err-Bad-clause-spelled : goal.returns-in-Err-Bad-clause-spelled
returns-in-Err-Bad-clause-spelled g c = λ head lines spelled.
    absurd (names_bad c.in-Err-Bad.field-0 c.in-Err-Bad.number (λ n. ⊥) c.in-Err-Bad.field-0-is (c.in-Err-Bad.ensures.only head lines spelled))
