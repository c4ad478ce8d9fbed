use Rattle.std.proofs.Common.{reverse}
use Rattle.nq_base.specs.Plain.{plain}
use Rattle.nq_client_parts.proofs.Reversed.{map-reverse}
use Rattle.nq_client_parts.proofs.entries.tell.Goals as goal

pub returns-clause-told : goal.returns-clause-told
returns-clause-told c = record {
  more = reverse c.args.newest_first.now.items;
  behind = c.move_all.ensures.moved;
  are = map-reverse plain c.args.newest_first.now.items;
}
