use Rattle.std.proofs.Common.{◌∙◌, sym, subst}
use Rattle.nq_io.specs.Whole.{IsAll}
use Rattle.nq_replay.specs.Ending.{TellsOver}
use Rattle.nq_replay.proofs.Endings.{faults_read, over_counts, over_unless, read_as, read_counts, refused_read, refuses_over, refuses_read, told_text}
use Rattle.nq_script.specs.Schedule.{FirstBadLine, SpellsSchedule}
use Rattle.nq_replay.proofs.reading.read_script.Goals as goal

pub returns-in-All-clause-read : goal.returns-in-All-clause-read
returns-in-All-clause-read g c =
    read_as c.read_text.result c.deref.result.now c.args.limit _ _
    (subst (λ t. IsAll t c.args.limit (g.S.Source.left c.args.input.now) (g.S.Source.left c.read_all.new.source)) (sym c.deref.ensures.value)
    c.in-All.ensures.reads) c.read_text.ensures.read

pub returns-in-All-clause-refuses : goal.returns-in-All-clause-refuses
returns-in-All-clause-refuses g c =
    refuses_read c.read_text.result c.deref.result.now c.args.limit _ _ _ _ _ _ _ _
    (subst (λ t. IsAll t c.args.limit (g.S.Source.left c.args.input.now) (g.S.Source.left c.read_all.new.source)) (sym c.deref.ensures.value)
    c.in-All.ensures.reads) c.read_text.ensures.refuses

pub returns-in-All-clause-script : goal.returns-in-All-clause-script
returns-in-All-clause-script g c = λ text told within number bad.
    let here = c.deref.ensures.value ∙ told_text _ _ _ _ text c.in-All.ensures.reads told in
    refused_read c.read_text.result c.deref.result.now _ _ _ _ _ _ c.read_text.ensures.refuses
    (c.read_text.ensures.script number (subst (λ t. FirstBadLine t number) (sym here) bad))

pub returns-in-All-clause-spelled : goal.returns-in-All-clause-spelled
returns-in-All-clause-spelled g c = λ text told within head lines spelled.
    let here = c.deref.ensures.value ∙ told_text _ _ _ _ text c.in-All.ensures.reads told in
    faults_read c.read_text.result _ _ _ _ (c.read_text.ensures.spelled head lines (subst (λ t. SpellsSchedule head lines t) (sym here) spelled))

pub returns-in-Over-clause-refuses : goal.returns-in-Over-clause-refuses
returns-in-Over-clause-refuses g c =
    refuses_over c.tell_over.result c.in-Over.front.items c.args.limit _ _ _ _ _ _ _ _ c.in-Over.ensures.reads
    (subst (λ t. TellsOver c.tell_over.result t (g.K.Sink.held c.args.out.now) (g.K.Sink.held c.tell_over.new.out) (g.K.Sink.faults c.args.out.now)
    (g.K.Sink.faults c.tell_over.new.out)) c.deref-in-Over.ensures.value c.tell_over.ensures.tells)

pub returns-in-Over-clause-limit : goal.returns-in-Over-clause-limit
returns-in-Over-clause-limit g c = λ text told longer. over_unless c.tell_over.result _ _ _ _ _ _ _ c.tell_over.ensures.tells

pub returns-in-All-clause-source : goal.returns-in-All-clause-source
returns-in-All-clause-source g c =
    read_counts c.read_text.result c.deref.result.now _ _ _ _ _ _ c.read_text.ensures.refuses c.in-All.ensures.cause

pub returns-in-Over-clause-source : goal.returns-in-Over-clause-source
returns-in-Over-clause-source g c = over_counts c.tell_over.result _ _ _ _ _ _ _ c.tell_over.ensures.tells c.in-Over.ensures.cause
