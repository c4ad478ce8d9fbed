use Rattle.std.proofs.Common.{rules, ◌≡◌, ◌<◌, ◌≤◌, ◌-◌, true, length, refl, sym, ◌∙◌, arith}
use Rattle.std.specs.Prelude.{IsTrue}
use Rattle.std.proofs.lemmas.Option.{slice_get_read}
use Rattle.nq_check.proofs.OwnWrite.{put_kept}
use Rattle.nq_check.proofs.puts.is_put_kept.Goals as goal

pub returns : goal.returns
returns c =
    let whole = c.args.linked.now.whole.now in
    let place = c.args.place in
    let call = c.back_from-call.result in
    let write = c.head_at-write.result in
    let within : place < length whole = c.requires.there.0 in
    let some = c.if-call-eq0.false in
    let upto : call ≤ write = c.if-call-write.false in
    let first : call - 1 < write = omega arith in
    let second : write < place = c.if-write-place.false in
    let at_call = slice_get_read whole (length whole) (call - 1) c.index-whole-call.result refl (omega arith) c.index-whole-call.is in
    let at_write = slice_get_read whole (length whole) write c.index-whole-write.result refl (omega arith) c.index-whole-write.is in
    let found : IsTrue c.is_through_or_stored.result → c.is_through_or_stored.result ≡ true = λ t. search rules in
    λ t. put_kept whole (call - 1) write place c.args.by.now c.args.n c.index-whole-call.result c.index-whole-write.result c.args.entry.now
    c.requires.ordered first second within at_call at_write c.requires.there.1
    (sym c.is_call.ensures ∙ c.if-not-is_call.false) (sym c.is_write_by.ensures ∙ c.if-not-is_write_by.false) c.requires.answer
    (sym c.is_through_or_stored.ensures ∙ found t)
