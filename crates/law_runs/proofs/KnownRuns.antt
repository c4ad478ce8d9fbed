-- What is known of every run within skew; so in every run delayed writes that can still be stored are undisturbed.
use Rattle.std.proofs.Common.{ℕ, List}
use Rattle.nq_base.specs.declared.Event.{Event}
use Rattle.law_runs.proofs.ChainWorlds.{chain-fits, pushes-fit}
use Rattle.law_runs.proofs.WorldWrites.{writes-fit}
use Rattle.walk_steps.proofs.LeaseIntervals.{run-runs, kept-in-every-run}
use Rattle.nq_model.specs.laws.Bounds.{KeepsBounds}
use Rattle.nq_model.specs.protocol.Skew.{IsWithinSkew}
use Rattle.nq_model.specs.protocol.World.{Head, run}
use Rattle.walk_steps.proofs.OneRequests.{one-open-in-every-run}
use Rattle.walk_steps.proofs.Worlds.{run-holds}
use Rattle.walk_files.proofs.Holders.{KnownOf}
use Rattle.law_runs.proofs.UndisturbedRuns.{Still, run-still}

pub run-known : (most : ℕ) (head : Head) (events : List Event) → KeepsBounds most head events → IsWithinSkew head.hosts most events
    → KnownOf head.hosts most (run head events) events
run-known most head events bounds within =
    let writes = writes-fit most head events bounds within in
    record {
      holds = run-holds head events;
      runs = run-runs most head events bounds within;
      chains = λ host c is. chain-fits most head events host c bounds within is;
      pushes = λ host c is. pushes-fit most head events host c bounds within is;
      writes = writes.clients;
      journal = writes.journal;
      covers = kept-in-every-run most head events bounds within;
      opens = one-open-in-every-run most head events bounds within;
    }

-- of each client of every run
pub still-fits : (most : ℕ) (head : Head) (events : List Event) → KeepsBounds most head events → IsWithinSkew head.hosts most events → Still (run head events)
still-fits most head events bounds within = run-still most head (run-known most head) events bounds within
