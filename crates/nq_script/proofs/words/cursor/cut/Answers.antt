use Rattle.std.proofs.Common.{◌+◌, Some, take, ap, sym, ◌∙◌}
use Rattle.nq_script.proofs.WordsCuts.{past, here, nowhere, to_end}
use Rattle.nq_script.proofs.words.cursor.cut.Goals as goal

pub returns-then-byte-stop : goal.returns-then-byte-stop
returns-then-byte-stop c =
    let bytes = c.args.bytes.now in
    let place = c.loop-place.place in
    ap (λ rest. Some (take place bytes, rest)) (to_end bytes (place + 1))
    ∙ sym (here c.args.stop bytes place c.loop-place-test.true c.if-byte-stop.true)
    ∙ c.loop-place.invariant

pub loop-place-preserved : goal.loop-place-preserved
loop-place-preserved c =
    sym (past c.args.stop c.args.bytes.now c.loop-place.place c.loop-place-test.true c.if-byte-stop.false) ∙ c.loop-place.invariant

pub returns : goal.returns
returns c = sym (nowhere c.args.stop c.args.bytes.now c.loop-place.place c.loop-place-test.false) ∙ c.loop-place.invariant
