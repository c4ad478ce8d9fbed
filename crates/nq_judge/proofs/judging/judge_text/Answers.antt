use Rattle.std.proofs.Common.{◌∙◌}
use Rattle.nq_judge.proofs.Judgements.{judged_text, tell_fits, wrong_text}
use Rattle.nq_judge.proofs.judging.judge_text.Goals as goal

pub tell-requires : goal.tell-requires
tell-requires g c = tell_fits c.check.result c.in-Ok.journal.entries c.args.text.now c.check.ensures c.in-Ok.ensures.parses c.requires

pub returns-in-Ok-clause-judges : goal.returns-in-Ok-clause-judges
returns-in-Ok-clause-judges g c = judged_text c.tell.result c.check.result c.in-Ok.journal.entries c.args.text.now _ _ _ _ c.check.ensures c.in-Ok.ensures.parses
    c.tell.ensures.tells

pub returns-in-Ok-script_text-clause-judges : goal.returns-in-Ok-script_text-clause-judges
returns-in-Ok-script_text-clause-judges g c =
    wrong_text c.in-Err-Line.line c.args.text.now c.as_bytes.result.now _ _ _ _ (rw c.in-Err-Line.field-0-is at c.in-Err-Line.ensures.parses)
    c.requires (c.as_bytes.ensures.value ∙ c.in-Ok-script_text.ensures) c.put_line.ensures
