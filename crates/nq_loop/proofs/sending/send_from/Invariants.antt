use Rattle.std.proofs.Common.{map}
use Rattle.nq_loop.proofs.Posts.{SentUpTo}
use Rattle.nq_loop.specs.Sending.{told_of}
use Rattle.nq_loop.proofs.sending.send_from.Given as goal

abbrev pub invariant-loop-number : goal.invariant-loop-number
invariant-loop-number g l =
    let told = told_of g.L.Link.sent g.L.Link.waiting g.L.Link.faults g.L.Link.receives in
    SentUpTo l.packets.datagrams l.first l.number (map told l.fn.links) (map told l.links)
