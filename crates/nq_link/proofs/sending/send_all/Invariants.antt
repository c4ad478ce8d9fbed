use Rattle.std.proofs.Common.{◌≡◌, take}
use Rattle.nq_link.specs.Links.{with_all}
use Rattle.nq_link.proofs.sending.send_all.Given as goal

abbrev pub invariant-loop-place : goal.invariant-loop-place
invariant-loop-place g l =
    (g.L.Link.sent l.link ≡ with_all (g.L.Link.sent l.fn.link) (take l.place l.out.datagrams))
    × (g.L.Link.waiting l.link ≡ g.L.Link.waiting l.fn.link)
    × (g.L.Link.receives l.link ≡ g.L.Link.receives l.fn.link)
    × (g.L.Link.faults l.link ≡ g.L.Link.faults l.fn.link)
