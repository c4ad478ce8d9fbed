use Rattle.law_runs.proofs.OrderedCalls.{of-their-call-in-every-run, ordered-in-every-run}
use Rattle.law_runs.proofs.ChainWorlds.{chain-fits}
use Rattle.law_runs.proofs.OkDeeds.{deeds-in-every-run}
use Rattle.law_runs.proofs.ExcusesInRuns.{losses-excused}
use Rattle.law_runs.proofs.FateLaws.{accounted, waiting, fates}
use Rattle.law_runs.proofs.HeldLaws.{held-in-every-run}
use Rattle.law_runs.proofs.ZeroRuns.{untouched}
use Rattle.nq_laws.proofs.CachedReads.{cached-in-every-run}
use Rattle.nq_laws.proofs.FullRuns.{full-has-its-cause, losses-are-named}
use Rattle.nq_laws.proofs.HeadlineParts.{at-every-moment}
use Rattle.nq_laws.proofs.RunAnswers.{refusals-are-of-their-calls, answers-tell-what-was, answers-have-causes}
use Rattle.nq_laws.proofs.promises.headline.Goals as goal
use Rattle.law_runs.proofs.LegalLaws.{legal-in-every-run}
use Rattle.law_runs.proofs.ReportedRuns.{reported-in-every-run}
use Rattle.law_runs.proofs.Standings.{synchronized-in-every-run, answers-in-every-run, busy-in-every-run}

pub returns-clause-ordered : goal.returns-clause-ordered
returns-clause-ordered c = ordered-in-every-run

pub returns-clause-of_their_call : goal.returns-clause-of_their_call
returns-clause-of_their_call c = of-their-call-in-every-run

pub returns-clause-answered : goal.returns-clause-answered
returns-clause-answered c = answers-in-every-run

pub returns-clause-done : goal.returns-clause-done
returns-clause-done c = deeds-in-every-run

pub returns-clause-refused : goal.returns-clause-refused
returns-clause-refused c = refusals-are-of-their-calls

pub returns-clause-told : goal.returns-clause-told
returns-clause-told c = answers-tell-what-was

pub returns-clause-caused : goal.returns-clause-caused
returns-clause-caused c = answers-have-causes

pub returns-clause-full : goal.returns-clause-full
returns-clause-full c = full-has-its-cause

pub returns-clause-busy : goal.returns-clause-busy
returns-clause-busy c = busy-in-every-run

pub returns-clause-legal : goal.returns-clause-legal
returns-clause-legal c = legal-in-every-run

pub returns-clause-accounted : goal.returns-clause-accounted
returns-clause-accounted c = accounted

pub returns-clause-waiting : goal.returns-clause-waiting
returns-clause-waiting c = waiting

pub returns-clause-fates : goal.returns-clause-fates
returns-clause-fates c = fates

pub returns-clause-excused : goal.returns-clause-excused
returns-clause-excused c = losses-excused chain-fits

pub returns-clause-reported : goal.returns-clause-reported
returns-clause-reported c = reported-in-every-run

pub returns-clause-named : goal.returns-clause-named
returns-clause-named c = losses-are-named

pub returns-clause-synchronized : goal.returns-clause-synchronized
returns-clause-synchronized c = synchronized-in-every-run

pub returns-clause-kept : goal.returns-clause-kept
returns-clause-kept c = held-in-every-run

pub returns-clause-untouched : goal.returns-clause-untouched
returns-clause-untouched c = untouched

pub returns-clause-cached : goal.returns-clause-cached
returns-clause-cached c = cached-in-every-run

pub returns-clause-always : goal.returns-clause-always
returns-clause-always c = at-every-moment
