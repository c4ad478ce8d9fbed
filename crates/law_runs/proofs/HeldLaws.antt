-- The law: in every run kept blocks are held.
use Rattle.law_runs.proofs.HeldRuns.{run-held}
use Rattle.nq_model.specs.laws.BlocksAreHeld.{KeptBlocksAreHeldInEveryRun}
use Rattle.law_runs.proofs.KnownRuns.{run-known}

pub held-in-every-run : KeptBlocksAreHeldInEveryRun
held-in-every-run most head events bounds within = run-held most head (run-known most head) events bounds within
