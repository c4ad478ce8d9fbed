use Rattle.nq_laws.proofs.Headlines.{one-is-torn, each-stop-tears, first-boot-tears}
use Rattle.nq_laws.proofs.TornRuns.{torn-is-run}
use Rattle.nq_laws.proofs.torn.torn_runs.Goals as goal

pub returns-clause-tears : goal.returns-clause-tears
returns-clause-tears c = each-stop-tears

pub returns-clause-first : goal.returns-clause-first
returns-clause-first c = first-boot-tears

pub returns-clause-one : goal.returns-clause-one
returns-clause-one c = one-is-torn

pub returns-clause-runs : goal.returns-clause-runs
returns-clause-runs c = torn-is-run
