use Rattle.std.proofs.Common.{◌≡◌, ◌<◌, ◌≤◌, length, ap, ◌∙◌, add-one, arith}
use Rattle.std.specs.Prelude.{map}
use Rattle.nq_clock.specs.Counts.{after_server_tick}
use Rattle.nq_clock.proofs.CountLists.{mapped_to, mapped_to-next, mapped_to-all, length-map}
use Rattle.std.proofs.lemmas.List.{take_at}
use Rattle.nq_clock.proofs.skew.tick_each.Goals as goal

pub loop-leads-preserved : goal.loop-leads-preserved
loop-leads-preserved c =
    let all = c.deref_mut-leads-items.result.now in
    let so_far : c.loop-leads.leads-items ≡ mapped_to after_server_tick c.loop-leads.leads-index all = c.loop-leads.invariant in
    let below : c.loop-leads.leads-index < length all = c.loop-leads-test.true in
    let next = mapped_to-next after_server_tick c.loop-leads.leads-index all c.leads-item.result below in
    let ticked = c.server_tick.ensures in
    let item = c.leads-item.is in
    rw add-one (cc)

pub returns : goal.returns
returns c =
    let all = c.args.hosts.now.items in
    let so_far : c.loop-leads.leads-items ≡ mapped_to after_server_tick c.loop-leads.leads-index c.deref_mut-leads-items.result.now = c.loop-leads.invariant in
    let same : c.deref_mut-leads-items.result.now ≡ all = c.deref_mut-leads-items.ensures.value in
    let done : length all ≤ c.loop-leads.leads-index = omega (arith, ap length same, c.loop-leads-test.false) in
    let every = mapped_to-all after_server_tick c.loop-leads.leads-index all done in
    let is : c.loop-leads.leads-items ≡ map after_server_tick all = cc in
    take_at c.loop-leads.leads-items _ c.args.hosts.now.len (omega (arith, ap length is, length-map after_server_tick all, c.args.hosts.now.ok.0)) ∙ is
