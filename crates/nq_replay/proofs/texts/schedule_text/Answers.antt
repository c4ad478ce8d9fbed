use Rattle.std.proofs.Common.{◌∙◌, ◌++◌, ap, append_assoc, codes, map, subst, sym}
use Rattle.nq_script.proofs.Whole.{printed-again}
use Rattle.nq_script.specs.Heads.{head_lines}
use Rattle.nq_script.specs.Lines.{once}
use Rattle.nq_script.specs.Schedule.{SpellsSchedule}
use Rattle.nq_script.specs.Text.{text_of}
use Rattle.nq_replay.proofs.texts.schedule_text.Goals as goal

pub returns : goal.returns
returns c =
    let lines = c.in_ok-push_events.ensures in
    let path =
    c.in_ok-push.ensures
    ∙ ap (λ t. t ++ codes "end\n") (lines.2 ∙ ap (λ t. t ++ text_of lines.0) c.in_ok-text.ensures)
    ∙ append_assoc (text_of (head_lines c.args.head.now)) (text_of lines.0) (codes "end\n") in
    subst (λ t. SpellsSchedule c.args.head.now (map once c.args.ran.now) t) (sym path) (printed-again c.args.head.now c.args.ran.now lines.0
    c.requires.fits lines.1)
