use Rattle.std.proofs.Common.{rules, ◌≡◌, length, refl, reverse, take, sym, ◌∙◌, ◌<◌, ◌≤◌, ◌-◌, arith}
use Rattle.std.proofs.lemmas.Option.{slice_get_read}
use Rattle.nq_check.proofs.Standing.{cut_value, hit_value, zero_value}
use Rattle.nq_model.specs.laws.StandsTest.{stands}
use Rattle.nq_check.proofs.legal.standing_value.Goals as goal

pub returns-then-is_between : goal.returns-then-is_between
returns-then-is_between c =
    let whole = c.args.linked.now.whole.now in
    let place = c.args.place in
    let read = c.args.read.now in
    let within : place < length whole = c.requires.within in
    let upto : place ≤ length whole = omega arith in
    sym (cut_value (stands (reverse whole) (reverse (take place whole)) read.who.now read.file read.block) read.file read.block whole
    c.last_standing-at.result place upto c.last_standing-at.ensures.none (c.is_between.ensures.yes c.if-is_between.true))

pub returns-then-at-eq0 : goal.returns-then-at-eq0
returns-then-at-eq0 c =
    let whole = c.args.linked.now.whole.now in
    let place = c.args.place in
    let read = c.args.read.now in
    let within : place < length whole = c.requires.within in
    let upto : place ≤ length whole = omega arith in
    let zero : c.last_standing-at.result ≡ 0 = search rules in
    sym (zero_value (stands (reverse whole) (reverse (take place whole)) read.who.now read.file read.block) read.file read.block whole
    c.last_standing-at.result place zero upto c.last_standing-at.ensures.none (c.is_between.ensures.no c.if-is_between.false))

pub returns : goal.returns
returns c =
    let whole = c.args.linked.now.whole.now in
    let place = c.args.place in
    let read = c.args.read.now in
    let at = c.last_standing-at.result in
    let within : place < length whole = c.requires.within in
    let upto : place ≤ length whole = omega arith in
    let low : at ≤ place = c.last_standing-at.ensures.low in
    let some = c.if-at-eq0.false in
    let up : 0 < at = omega arith in
    let x = c.index-whole-at.result in
    let there = slice_get_read whole (length whole) (at - 1) x refl (omega arith) c.index-whole-at.is in
    c.value_written.ensures
    ∙ sym (hit_value (reverse whole) (reverse (take place whole)) read.who.now read.file read.block whole at place x up low upto there
    (c.last_standing-at.ensures.there up x there) c.last_standing-at.ensures.none (c.is_between.ensures.no c.if-is_between.false))
