use Rattle.std.proofs.Common.{length, sym, ap, ◌∙◌}
use Rattle.nq_image.specs.Hosts.{hosts_checks, hosts_of}
use Rattle.nq_image.proofs.Checks.{tested-value}
use Rattle.nq_image.proofs.Holding.{length-hosts}
use Rattle.nq_image.proofs.image.read_all_rows.Goals as goal

pub returns-clause-hosts : goal.returns-clause-hosts
returns-clause-hosts c =
    let part = c.piece.result.now in
    sym (ap length (tested-value (hosts_checks 64 64 part) (hosts_of 64 part) c.in_ok-hosts.hosts.items c.in_ok-hosts.ensures)) ∙ length-hosts 64 part
