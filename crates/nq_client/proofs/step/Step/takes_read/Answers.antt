use Rattle.std.proofs.Common.{◌≡◌, ◌&&◌, not, is_some, ap, arith}
use Rattle.nq_cache.specs.Cached.{Cached}
use Rattle.nq_client.proofs.Grants.{read_taken}
use Rattle.nq_cache.specs.Granting.{clean_after_reply}
use Rattle.nq_client.specs.Granting.{with_clean}
use Rattle.nq_client.specs.Step.{step_of}
use Rattle.nq_model.specs.protocol.Client.{is_clean, lease_on}
use Rattle.nq_model.specs.protocol.Hear.{breaks}
use Rattle.nq_client.proofs.step.Step.takes_read.Goals as goal

pub returns-in_ok-caches_read-in-Some : goal.returns-in_ok-caches_read-in-Some
returns-in_ok-caches_read-in-Some c =
    let s = c.args.self.now in
    let t = step_of s in
    let arm = c.in_ok-held-in-Some in
    let pattern = arm.losing-is in
    let losing = arm.ensures.broken in
    let lost : is_some arm.field-0.losing ≡ (breaks c.in-Some.given (lease_on c.args.file t.client.leases) && not (is_clean t.client c.args.file)) =
    first_of (cc, grind arith) in
    let u = step_of (record s { state = record s.state { cache = c.caches_read.new.cache } }) in
    let cached : u ≡ with_clean t (clean_after_reply c.args.file c.args.block c.args.body.now c.args.grant.now t.client.revisions t.client.clean) =
    ap (λ (k : Cached). step_of (record s { state = record s.state { cache = k } })) c.in_ok-caches_read-in-Some.ensures.cached in
    record {
      step = read_taken t u (step_of c.breaks_chain.new.self) (step_of c.keeps.new.self) c.args.file c.args.block c.args.body.now c.args.grant.now
          c.in-Some.given c.args.sent (is_some arm.field-0.losing) c.in-Some.is lost cached c.breaks_chain.ensures.step c.keeps.ensures.step;
      spare = rw c.keeps.ensures.entries c.breaks_chain.ensures.spare;
      block = rw c.keeps.ensures.dirty c.breaks_chain.ensures.block;
    }
