use Rattle.std.proofs.Common.{◌++◌, arith}
use Rattle.std.proofs.lemmas.List.{length-append}
use Rattle.nq_xdr.specs.Words.{repeats}
use Rattle.nq_xdr.proofs.Repeats.{repeats-length}
use Rattle.nq_link.proofs.net.packets.Packet.len.Goals as goal

pub returns : goal.returns
returns c =
    let four = c.self.invariant.0 in
    let words = repeats-length c.self.inside.times c.self.inside.word four in
    let two = length-append (repeats c.self.inside.times c.self.inside.word) c.self.inside.back.now in
    let all = length-append c.self.inside.front.now (repeats c.self.inside.times c.self.inside.word ++ c.self.inside.back.now) in
    rw (← c.self.view_is) (omega (arith, words, two, all))
