use Rattle.nq_played.proofs.Outcomes.{tells_bad, tells_none, tells_read}
use Rattle.nq_replay.proofs.Outcomes.{names_bad}
use Rattle.nq_replay.specs.Text.{FirstBadMixed, SpellsMixed, mixed}
use Rattle.nq_played.proofs.running.run_text.Goals as goal

pub run-requires : goal.run-requires
run-requires g c = c.in-Ok.ensures.ready

pub returns-in-Ok : goal.returns-in-Ok
returns-in-Ok g c = tells_read (SpellsMixed g.A.AsideLine.said) (FirstBadMixed g.A.AsideLine.said) g.A.PlayedAside.due
    g.A.PlayedAside.prints
    c.run.result c.in-Ok.script.script.head (mixed c.in-Ok.script.asides.items c.in-Ok.script.script.lines) c.args.text.now _ _ _ _
    c.in-Ok.ensures.found c.in-Ok.ensures.only c.in-Ok.ensures.bad c.run.ensures.ends c.run.ensures.sink

pub returns-in-Err-Bad : goal.returns-in-Err-Bad
returns-in-Err-Bad g c = tells_bad (SpellsMixed g.A.AsideLine.said) (FirstBadMixed g.A.AsideLine.said) g.A.PlayedAside.due
    g.A.PlayedAside.prints
    c.tell_script.result c.in-Err-Bad.number c.args.text.now _ _ _ _
    (names_bad c.in-Err-Bad.field-0 c.in-Err-Bad.number _ c.in-Err-Bad.field-0-is c.in-Err-Bad.ensures.found)
    (λ h ls spelled. names_bad c.in-Err-Bad.field-0 c.in-Err-Bad.number (λ n. ⊥) c.in-Err-Bad.field-0-is (c.in-Err-Bad.ensures.only h ls spelled))
    c.tell_script.ensures.tells c.tell_script.ensures.sink

pub returns-in-Err-Memory : goal.returns-in-Err-Memory
returns-in-Err-Memory g c = tells_none (SpellsMixed g.A.AsideLine.said) (FirstBadMixed g.A.AsideLine.said) g.A.PlayedAside.due
    g.A.PlayedAside.prints
    c.args.text.now _ _
