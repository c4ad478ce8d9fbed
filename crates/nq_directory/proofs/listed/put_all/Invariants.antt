use Rattle.std.proofs.Common.{◌≡◌, ◌≤◌, ◌+◌, ◌-◌, length, drop, vec_len, vec_capacity}
use Rattle.nq_directory.specs.Fronts.{AreFronted}
use Rattle.nq_directory.specs.Names.{put_names}
use Rattle.nq_directory.proofs.listed.put_all.Given as goal

abbrev pub invariant-loop-entry : goal.invariant-loop-entry
invariant-loop-entry l = record {
  same : put_names l.more l.fn.names.items ≡ put_names (drop l.entry-index l.more) l.names.items;
  fronted : AreFronted l.skip l.fronts.items l.names.items;
  room : vec_len l.names + (length l.more - l.entry-index) ≤ vec_capacity l.names;
  front_room : vec_len l.fronts + (length l.more - l.entry-index) ≤ vec_capacity l.fronts;
}
