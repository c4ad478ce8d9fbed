use Rattle.nq_played.proofs.Outcomes.{memory_before}
use Rattle.nq_replay.proofs.Never.{memory_never}
use Rattle.nq_replay.specs.Text.{mixed}
use Rattle.nq_staged.specs.Playing.{play}
use Rattle.nq_staged.specs.Running.{IsPrinted}
use Rattle.nq_staged.specs.Text.{FirstBadStaged, SpellsStaged}
use Rattle.nq_staged.proofs.running.OfferPlayedAside.run.Goals as goal

pub run_over-requires-clause-never : goal.run_over-requires-clause-never
run_over-requires-clause-never g c = memory_never c.in-Ok.keeper _ c.in-Ok.ensures.keeper (search)

pub returns-in-Ok-clause-ends : goal.returns-in-Ok-clause-ends
returns-in-Ok-clause-ends g c = c.run_over.ensures.ends

pub returns-in-Err-clause-ends : goal.returns-in-Err-clause-ends
returns-in-Err-clause-ends g c = memory_before SpellsStaged FirstBadStaged play IsPrinted c.args.script.now.script.head
    (play c.args.script.now.script.head (mixed c.args.script.now.asides.items c.args.script.now.script.lines)) _ _
