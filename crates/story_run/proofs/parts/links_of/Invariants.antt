use Rattle.std.proofs.Common.{◌≡◌, vec_len}
use Rattle.story_run.proofs.parts.links_of.Given as goal

abbrev pub invariant-loop-party : goal.invariant-loop-party
invariant-loop-party l = vec_len l.links ≡ l.party-index
