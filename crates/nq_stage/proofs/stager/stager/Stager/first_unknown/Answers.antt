use Rattle.std.proofs.Common.{sym, ap, ◌∙◌}
use Rattle.std.specs.List.{slice_get}
use Rattle.nq_stage.specs.Acknowledged.{verifier_of}
use Rattle.nq_stage.specs.Staged.{Staged}
use Rattle.nq_stage.proofs.Offered.{no-loss, unknown-past, unknown-at, unknown-behind}
use Rattle.nq_stage.proofs.stager.stager.Stager.first_unknown.Goals as goal

pub returns-in_default : goal.returns-in_default
returns-in_default c =
    let dirty = c.args.dirty.now.dirty in
    let none = no-loss (slice_get dirty c.loop-place.place) c.in_default.ensures in
    sym (unknown-past c.args.self.now.who c.args.self.now.acknowledged dirty c.loop-place.place none) ∙ c.loop-place.invariant

pub returns-then-is_none : goal.returns-then-is_none
returns-then-is_none c =
    let s = c.args.self.now in
    let place = c.loop-place.place in
    let found = c.find.ensures ∙ ap (λ (t : Staged). verifier_of c.written-written.result t.acknowledged) c.self.view_is in
    sym (unknown-at s.who s.acknowledged c.args.dirty.now.dirty place c.in-Some.loss c.written-written.result c.find.result c.in-Some.ensures
    c.written-written.ensures found c.if-is_none.ensures)
    ∙ c.loop-place.invariant

pub loop-place-preserved : goal.loop-place-preserved
loop-place-preserved c =
    let s = c.args.self.now in
    let place = c.loop-place.place in
    let found = c.find.ensures ∙ ap (λ (t : Staged). verifier_of c.written-written.result t.acknowledged) c.self.view_is in
    unknown-behind s.who s.acknowledged c.args.dirty.now.dirty place c.in-Some.loss c.written-written.result c.find.result c.in-Some.ensures
    c.written-written.ensures found c.if-is_none.ensures
    ∙ c.loop-place.invariant
