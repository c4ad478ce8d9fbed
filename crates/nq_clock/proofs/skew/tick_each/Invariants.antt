use Rattle.std.proofs.Common.{◌≡◌}
use Rattle.nq_clock.specs.Counts.{after_server_tick}
use Rattle.nq_clock.proofs.CountLists.{mapped_to}
use Rattle.nq_clock.proofs.skew.tick_each.Given as goal

abbrev pub invariant-loop-leads : goal.invariant-loop-leads
invariant-loop-leads l = l.leads-items ≡ mapped_to after_server_tick l.leads-index l.initial.leads-items
