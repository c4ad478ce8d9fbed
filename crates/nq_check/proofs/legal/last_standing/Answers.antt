use Rattle.std.proofs.Common.{length, refl, reverse, take, sym, ◌∙◌, ◌<◌, ◌≤◌, ◌-◌, arith}
use Rattle.std.proofs.lemmas.Option.{slice_get_read}
use Rattle.nq_rules.specs.declared.keys.KeyKind.TheVariants.{Writes}
use Rattle.nq_check.proofs.Standing.{none_more, passes_there, stands_linked}
use Rattle.nq_model.specs.laws.StandsTest.{stands}
use Rattle.nq_check.proofs.legal.last_standing.Goals as goal

pub stands-requires-clause-there : goal.stands-requires-clause-there
stands-requires-clause-there c =
    let whole = c.args.linked.now.whole.now in
    let at = c.loop-at.at in
    let up : 0 < at = c.loop-at-test.true in
    let within : c.args.place < length whole = c.requires.within in
    let below : at ≤ c.args.place = c.loop-at.invariant.0 in
    slice_get_read whole (length whole) (at - 1) c.index-whole-at.result refl (omega arith) c.index-whole-at.is

pub returns-then-stands-clause-there : goal.returns-then-stands-clause-there
returns-then-stands-clause-there c =
    let whole = c.args.linked.now.whole.now in
    let read = c.args.read.now in
    let at = c.loop-at.at in
    let up : 0 < at = c.loop-at-test.true in
    let within : c.args.place < length whole = c.requires.within in
    let below : at ≤ c.args.place = c.loop-at.invariant.0 in
    let x = c.index-whole-at.result in
    let there = slice_get_read whole (length whole) (at - 1) x refl (omega arith) c.index-whole-at.is in
    λ some write e. passes_there (stands (reverse whole) (reverse (take c.args.place whole)) read.who.now read.file read.block) whole (at - 1) x write there e
    (sym c.stands.ensures ∙ c.if-stands.true)

pub loop-at-preserved : goal.loop-at-preserved
loop-at-preserved c =
    let whole = c.args.linked.now.whole.now in
    let place = c.args.place in
    let before = reverse (take place whole) in
    let read = c.args.read.now in
    let at = c.loop-at.at in
    let up : 0 < at = c.loop-at-test.true in
    let within : place < length whole = c.requires.within in
    let below : at ≤ place = c.loop-at.invariant.0 in
    let next = c.back_from-at-in-loop-at.result in
    let low : next ≤ at - 1 = c.back_from-at-in-loop-at.ensures.low in
    let there = slice_get_read whole (length whole) (at - 1) c.index-whole-at.result refl (omega arith) c.index-whole-at.is in (
      omega arith,
      none_more (stands (reverse whole) before read.who.now read.file read.block) Writes c.block_key-key.result whole next at place c.index-whole-at.result
          (stands_linked c.block_key-key.result (reverse whole) before read.who.now read.file read.block c.block_key-key.ensures)
          up there (sym c.stands.ensures ∙ c.if-stands.false) c.back_from-at-in-loop-at.ensures.free c.loop-at.invariant.1,
    )
