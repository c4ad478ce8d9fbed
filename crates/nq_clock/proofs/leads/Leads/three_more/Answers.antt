use Rattle.nq_clock.proofs.CountLists.{at-most}
use Rattle.nq_clock.proofs.leads.Leads.three_more.Goals as goal

pub returns-clause-few : goal.returns-clause-few
returns-clause-few c = rw (c.flatten.ensures, c.copied.ensures, c.back.ensures) (at-most 600 c.self.inside.counts.items _ c.self.invariant.2)
