-- The law: in every run reads are legal.
use Rattle.law_runs.proofs.LegalRuns.{run-legal}
use Rattle.nq_model.specs.laws.ReadsAreLegal.{ReadsAreLegalInEveryRun}
use Rattle.law_runs.proofs.KnownRuns.{run-known}

pub legal-in-every-run : ReadsAreLegalInEveryRun
legal-in-every-run most head events bounds within = run-legal most head (run-known most head) events bounds within
