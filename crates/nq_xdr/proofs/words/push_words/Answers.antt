use Rattle.std.proofs.Common.{◌≡◌, ◌+◌, ◌*◌, ◌/◌, ◌%◌, ◌++◌, ◌∙◌, vec_len, length, take, ap, arith}
use Rattle.std.proofs.lemmas.List.{length-take-le}
use Rattle.nq_xdr.specs.Words.{repeats}
use Rattle.nq_xdr.proofs.Repeats.{more-words, all-words, many-length}
use Rattle.nq_xdr.proofs.words.push_words.Goals as goal

pub loop-round-preserved : goal.loop-round-preserved
loop-round-preserved c =
    let four : length c.args.word ≡ 4 = search in
    let all : c.extend_from_slice.new.self.items ≡ c.loop-round.out.items ++ c.many_of-many.result = rw c.unwrap.ensures at
    c.extend_from_slice.ensures.items in
    let len : vec_len c.extend_from_slice.new.self ≡ vec_len c.loop-round.out + length c.many_of-many.result = rw c.unwrap.ensures at
    c.extend_from_slice.ensures.len in
    let size : length c.many_of-many.result ≡ 256 = ap length c.many_of-many.ensures ∙ many-length c.args.word four in
    let words = all ∙ ap (λ b. b ++ c.many_of-many.result) c.loop-round.invariant.0
    ∙ ap (λ m. (c.args.out.now.items ++ repeats (64 * c.loop-round._round) c.args.word) ++ m) c.many_of-many.ensures
    ∙ more-words c.args.out.now.items c.loop-round._round c.args.word in
    let before = c.loop-round.invariant.1 in
    let room = c.loop-round.invariant.2 in
    let below = c.loop-round-test.true in
    let grown = c.extend_from_slice.ensures.capacity in
    (words, omega (arith, len, size, before), omega (arith, room, grown), omega (arith, below))

pub returns-clause-words : goal.returns-clause-words
returns-clause-words c =
    let four : length c.args.word ≡ 4 = search in
    let all : c.extend_from_slice-2.new.self.items ≡ c.loop-round.out.items ++ take (4 * (c.args.times % 64)) c.many_of-many.result =
    rw c.unwrap-2.ensures at c.extend_from_slice-2.ensures.items in
    let most = c.loop-round.invariant.3 in
    let ended : c.loop-round._round ≡ c.args.times / 64 = omega (arith, most, c.loop-round-test.false) in
    all ∙ ap (λ b. b ++ take (4 * (c.args.times % 64)) c.many_of-many.result) (c.loop-round.invariant.0
    ∙ ap (λ k. c.args.out.now.items ++ repeats (64 * k) c.args.word) ended)
    ∙ ap (λ m. (c.args.out.now.items ++ repeats (64 * (c.args.times / 64)) c.args.word) ++ take (4 * (c.args.times % 64)) m) c.many_of-many.ensures
    ∙ all-words c.args.out.now.items c.args.times c.args.word four

pub returns-clause-len : goal.returns-clause-len
returns-clause-len c =
    let four : length c.args.word ≡ 4 = search in
    let size : length c.many_of-many.result ≡ 256 = ap length c.many_of-many.ensures ∙ many-length c.args.word four in
    let last = length-take-le (4 * (c.args.times % 64)) c.many_of-many.result (omega (arith, size)) in
    let len : vec_len c.extend_from_slice-2.new.self ≡ vec_len c.loop-round.out + length (take (4 * (c.args.times % 64)) c.many_of-many.result) =
    rw c.unwrap-2.ensures at c.extend_from_slice-2.ensures.len in
    let before = c.loop-round.invariant.1 in
    let most = c.loop-round.invariant.3 in
    let ended : c.loop-round._round ≡ c.args.times / 64 = omega (arith, most, c.loop-round-test.false) in
    omega (arith, len, last, before, ended)
