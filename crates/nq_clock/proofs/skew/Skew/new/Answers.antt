use Rattle.std.proofs.Common.{sym, subst}
use Rattle.nq_clock.specs.Counts.{Counts}
use Rattle.std.specs.Prelude.{List, []}
use Rattle.nq_clock.specs.Tracks.{Follows}
use Rattle.nq_clock.proofs.Tracking.{follows-none}
use Rattle.nq_clock.proofs.skew.Skew.new.Goals as goal

pub returns-clause-begins : goal.returns-clause-begins
returns-clause-begins c =
    subst
    (λ (hosts : List Counts). Follows (record { window = c.args.window; hosts = hosts }) [])
    (sym (c.in_ok-new_hosts.ensures))
    (follows-none c.args.hosts c.args.window)
