use Rattle.std.proofs.Common.{◌≡◌, map, take, vec_len}
use Rattle.nqnfs.proofs.machine.links_of.Given as goal

abbrev pub invariant-loop-party : goal.invariant-loop-party
invariant-loop-party l = record {
  parties : map (λ link. link.me) l.links.items ≡ take l.party-index l.parties;
  count : vec_len l.links ≡ l.party-index;
}
