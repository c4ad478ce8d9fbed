use Rattle.nq_clock.proofs.CountLists.{ring-ticked}
use Rattle.nq_clock.proofs.leads.Leads.host_tick.Goals as goal

pub returns : goal.returns
returns c =
    let ticked = ring-ticked c.args.window c.self.inside.counts.items c.self.invariant.1 in
    rw (
      c.push_back-3.ensures.items,
      c.push_back-2.ensures.items,
      c.push_back.ensures.items,
      c.one_on.ensures,
      c.one_on-2.ensures,
      c.flatten-two_more.ensures,
      c.flatten-three_more.ensures,
      c.pop_front-3.ensures.items,
      c.pop_front-3.ensures.value,
      c.pop_front-2.ensures.items,
      c.pop_front-2.ensures.value,
      c.pop_front.ensures.items,
      ← c.self.view_is,
      c.self.invariant.0,
    ) ticked
