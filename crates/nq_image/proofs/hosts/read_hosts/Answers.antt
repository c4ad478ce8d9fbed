use Rattle.std.proofs.Common.{◌≡◌, rules, Err, Ok, arith, ℕ, sym, ◌∙◌, subst, List}
use Rattle.nq_image.specs.Check.{tested}
use Rattle.nq_image.specs.Hosts.{hosts_checks, hosts_of, host_checks, host_of}
use Rattle.nq_image.specs.declared.fault.ImageFault.TheVariants.{BadField}
use Rattle.nq_image.proofs.Walks.{host-passes, host-fails, no-host-left, reads-wrong}
use Rattle.nq_image.proofs.hosts.read_hosts.Goals as goal

pub returns-in_err-host : goal.returns-in_err-host
returns-in_err-host c =
    let P : List ℕ → Type 0 = λ row. tested (host_checks c.loop.at row) (host_of row) ≡ Err c.in_err-host.field-0.0 in
    let wrong = subst P c.split_at.ensures.front (sym c.read_host.ensures ∙ c.in_err-host.was) in
    let whole = tested (hosts_checks c.args.count c.args.place c.args.rows.now) (hosts_of c.args.count c.args.rows.now) in
    let is : c.from_residual.result ≡ Err (BadField c.in_err-host.field-0.0) = search rules in
    reads-wrong (λ hosts. hosts.items) c.from_residual.result c.in_err-host.field-0.0 whole is
    (host-fails c.args.count c.loop.counter c.loop.at c.loop.hosts.items c.loop.rest.now c.in_err-host.field-0.0 whole (omega arith) wrong
    c.loop.invariant.same)

pub loop-preserved : goal.loop-preserved
loop-preserved c =
    let P : List ℕ → Type 0 = λ row. tested (host_checks c.loop.at row) (host_of row) ≡ Ok c.in_ok-host.host in
    let right = subst P c.split_at.ensures.front (sym c.read_host.ensures ∙ c.in_ok-host.was) in
    let whole = tested (hosts_checks c.args.count c.args.place c.args.rows.now) (hosts_of c.args.count c.args.rows.now) in
    record {
      size = omega arith;
      at = omega arith;
      same = rw (c.in_ok-push.ensures.items, c.split_at.ensures.back) (host-passes c.args.count c.loop.counter c.loop.at c.loop.hosts.items
          c.loop.rest.now c.in_ok-host.host whole (omega arith) right c.loop.invariant.same);
    }

pub returns : goal.returns
returns c =
    let whole = tested (hosts_checks c.args.count c.args.place c.args.rows.now) (hosts_of c.args.count c.args.rows.now) in
    no-host-left c.args.count c.loop.counter c.loop.at c.loop.hosts.items c.loop.rest.now whole (omega arith) c.loop.invariant.same
