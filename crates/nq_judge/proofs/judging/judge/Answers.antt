use Rattle.std.proofs.Common.{◌∙◌, subst, sym}
use Rattle.nq_io.specs.Whole.{IsAll}
use Rattle.nq_journal.specs.Fault.{IsFaultyAt, IsJournal}
use Rattle.nq_replay.proofs.Endings.{over_counts, over_unless, told_text}
use Rattle.nq_judge.proofs.Judgements.{judged_source, judges_over, judges_text, script_said, verdict_said}
use Rattle.nq_replay.specs.Ending.{TellsOver}
use Rattle.nq_judge.proofs.judging.judge.Goals as goal

pub returns-in-All-clause-judges : goal.returns-in-All-clause-judges
returns-in-All-clause-judges g c =
    judges_text c.judge_text.result c.deref.result.now c.args.limit _ _ _ _ _ _ _ _
    (subst (λ t. IsAll t c.args.limit (g.S.Source.left c.args.input.now) (g.S.Source.left c.read_all.new.source)) (sym c.deref.ensures.value)
    c.in-All.ensures.reads) c.judge_text.ensures.judges

pub returns-in-All-clause-script : goal.returns-in-All-clause-script
returns-in-All-clause-script g c = λ text told within number faulty.
    let here = c.deref.ensures.value ∙ told_text _ _ _ _ text c.in-All.ensures.reads told in
    script_said c.judge_text.result c.deref.result.now number _ _ _ _ _ _ (subst (IsFaultyAt number) (sym here) faulty) c.judge_text.ensures.judges

pub returns-in-All-clause-said : goal.returns-in-All-clause-said
returns-in-All-clause-said g c = λ text told within journal.
    let here = c.deref.ensures.value ∙ told_text _ _ _ _ text c.in-All.ensures.reads told in
    verdict_said c.judge_text.result c.deref.result.now _ _ _ _ _ _ (subst IsJournal (sym here) journal) c.judge_text.ensures.judges

pub returns-in-Over-clause-judges : goal.returns-in-Over-clause-judges
returns-in-Over-clause-judges g c =
    judges_over c.tell_over.result c.in-Over.front.items c.args.limit _ _ _ _ _ _ _ _ c.in-Over.ensures.reads
    (subst (λ t. TellsOver c.tell_over.result t (g.K.Sink.held c.args.out.now) (g.K.Sink.held c.tell_over.new.out) (g.K.Sink.faults c.args.out.now)
    (g.K.Sink.faults c.tell_over.new.out)) c.deref-in-Over.ensures.value c.tell_over.ensures.tells)

pub returns-in-Over-clause-limit : goal.returns-in-Over-clause-limit
returns-in-Over-clause-limit g c = λ text told longer. over_unless c.tell_over.result _ _ _ _ _ _ _ c.tell_over.ensures.tells

pub returns-in-All-clause-source : goal.returns-in-All-clause-source
returns-in-All-clause-source g c =
    judged_source c.judge_text.result c.deref.result.now _ _ _ _ _ _ c.judge_text.ensures.judges c.in-All.ensures.cause

pub returns-in-Over-clause-source : goal.returns-in-Over-clause-source
returns-in-Over-clause-source g c = over_counts c.tell_over.result _ _ _ _ _ _ _ c.tell_over.ensures.tells c.in-Over.ensures.cause
