use Rattle.std.proofs.Common.{◌≡◌, ◌+◌, ◌*◌, ◌++◌, ◌∙◌, length, vec_len, arith}
use Rattle.std.proofs.lemmas.List.{length-append}
use Rattle.nq_xdr.specs.Words.{repeats}
use Rattle.nq_xdr.proofs.Repeats.{repeats-length}
use Rattle.nq_link.proofs.net.packets.Packet.bytes_into.Goals as goal

pub push_words-requires : goal.push_words-requires
push_words-requires c =
    let p = c.self.inside in
    let words = repeats-length p.times p.word c.self.invariant.0 in
    let two = length-append (repeats p.times p.word) p.back.now in
    let all = length-append p.front.now (repeats p.times p.word ++ p.back.now) in
    let size : c.len.result ≡ length p.front.now + 4 * p.times + length p.back.now = rw (← c.self.view_is) at c.len.ensures ∙ omega (arith, words, two, all) in
    let len : vec_len c.extend_from_slice.new.self ≡ vec_len c.reserve.new.self + length p.front.now = rw c.unwrap.ensures at
    c.extend_from_slice.ensures.len in
    let grown = c.extend_from_slice.ensures.capacity in
    let room = c.in_ok-reserve.ensures.ok in
    omega (arith, size, len, grown, room)
