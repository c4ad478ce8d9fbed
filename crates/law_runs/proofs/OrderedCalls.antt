-- In every run the calls and what they make stand in order.
use Rattle.nq_model.specs.laws.CallsAreOrdered.{OrderedInEveryRun, ReadsAreOfTheirCallInEveryRun}
use Rattle.walk_files.proofs.Placed.{ordered, of-their-call}
use Rattle.law_runs.proofs.RunCalls.{calls-known}
use Rattle.nq_model.specs.protocol.World.{run}

pub ordered-in-every-run : OrderedInEveryRun
ordered-in-every-run most head events bounds within =
    let j = (calls-known most head events bounds within).journal in
    ordered (run head events).journal j.placed j.spaced

pub of-their-call-in-every-run : ReadsAreOfTheirCallInEveryRun
of-their-call-in-every-run most head events bounds within = of-their-call (run head events).journal (calls-known most head events bounds within).journal.placed
