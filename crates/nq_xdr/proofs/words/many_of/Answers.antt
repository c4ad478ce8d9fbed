use Rattle.std.proofs.Common.{◌≡◌, length}
use Rattle.nq_xdr.proofs.Repeats.{many-all, first_word}
use Rattle.nq_xdr.proofs.words.many_of.Goals as goal

pub returns : goal.returns
returns c =
    let w = c.args.word in
    let four : length c.args.word ≡ 4 = search in
    let long : length c.double-6.new.bytes ≡ 256 = search in
    let three = c.double-3.ensures.doubled w (c.double-2.ensures.doubled w (c.double.ensures.doubled w (first_word w four))) in
    many-all c.double-6.new.bytes w long (c.double-6.ensures.doubled w (c.double-5.ensures.doubled w (c.double-4.ensures.doubled w three)))
