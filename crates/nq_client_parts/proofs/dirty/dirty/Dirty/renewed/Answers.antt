use Rattle.std.proofs.Common.{◌≡◌, true, List, IfSome, subst}
use Rattle.nq_client_parts.proofs.Renewals.{renewed-caches}
use Rattle.nq_model.specs.protocol.Client.{Lease, lease_on}
use Rattle.nq_model.specs.protocol.Hear.{holds_caching}
use Rattle.nq_client_parts.proofs.dirty.dirty.Dirty.renewed.Goals as goal

pub returns-clause-caches : goal.returns-clause-caches
returns-clause-caches c =
    subst (λ (leases : List Lease). IfSome c.renewed.result (λ file. holds_caching (lease_on file leases) ≡ true)) c.rows.ensures.rows
    (renewed-caches c.args.now c.rows.result.now c.args.notices.now.items c.args.self.now.dirty c.args.self.now.push c.renewed.result
    c.rows.ensures.ascends c.renewed.ensures)
