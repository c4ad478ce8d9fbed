use Rattle.std.proofs.Common.{length, refl, sym, ◌∙◌, subst, ◌≡◌, ◌<◌, ◌≤◌, true, arith}
use Rattle.std.proofs.lemmas.Option.{slice_get_read}
use Rattle.nq_rules.specs.Keys.{spot_of}
use Rattle.nq_rules.specs.Marks.{same_spot}
use Rattle.nq_check.proofs.Followed.{back_free}
use Rattle.nq_check.proofs.along.back_from.Goals as goal

pub returns-then-same_key-clause-free : goal.returns-then-same_key-clause-free
returns-then-same_key-clause-free c =
    let whole = c.args.whole.now in
    let earlier = c.args.links.now.earlier.items in
    let linked = c.args.linked in
    let place = c.args.place in
    let entry = c.index-whole-place.result in
    let within : place ≤ linked = c.requires.within in
    let all : linked ≤ length whole = c.requires.whole in
    let other = c.if-place-linked.false in
    let below : place < linked = omega arith in
    let there = slice_get_read whole (length whole) place entry refl (omega arith) c.index-whole-place.is in
    let link = slice_get_read earlier linked place c.index-earlier.result.now (sym c.requires.linked.long) below c.index-earlier.ensures in
    let same : same_spot (spot_of c.args.kind entry) c.args.key ≡ true =
    subst (λ k. same_spot k c.args.key ≡ true) c.key_of.ensures (sym c.same_key.ensures ∙ c.if-same_key.true) in
    back_free c.args.kind whole linked c.args.links.now.heads.entries earlier place entry c.index-earlier.result.now c.args.key c.requires.linked there
    link same
