use Rattle.std.proofs.Common.{◌≡◌, ◌+◌, ◌-◌, ℕ, suc, true, false, Some, length, sym, ap, ◌∙◌, arith}
use Rattle.nq_disk.specs.Record.{front_of, is_misplaced, wrong_range}
use Rattle.nq_disk.proofs.Fielding.{front-length, wrong-end, wrong-here, wrong-next, wrong-unfit}
use Rattle.nq_disk.proofs.Lawful.{within-bound}
use Rattle.nq_disk.proofs.redo.area.Area.wrong_range.Goals as goal

pub loop-turn-init : goal.loop-turn-init
loop-turn-init c =
    let all : c.args.count - 0 ≡ c.args.count = omega arith in
    let short = c.requires.short in
    record {
      same = ap (λ (n : ℕ). wrong_range c.args.self.place c.args.self.size c.args.self.bound n c.args.len (c.args.self.place + 16) c.args.bytes.now) all;
      within = omega arith;
    }

pub loop-turn-preserved : goal.loop-turn-preserved
loop-turn-preserved c =
    let so = c.loop-turn.invariant in
    let next : c.args.count - c.loop-turn._turn ≡ suc (c.args.count - (c.loop-turn._turn + 1)) = let lt = c.loop-turn-test.true in omega arith in
    let right : is_misplaced c.args.self.place c.args.self.size c.args.self.bound c.loop-turn.end c.in-Some.place (length c.in-Some.body.now) ≡ false = cc in
    let long = front-length c.loop-turn.rest.now (front_of c.in-Some.place c.in-Some.body.now c.in-Some.behind.now) c.in-Some.ensures in
    let within = so.within in
    record {
      same =
          sym (wrong-next c.args.self.place c.args.self.size c.args.self.bound (c.args.count - c.loop-turn._turn)
          (c.args.count - (c.loop-turn._turn + 1)) c.loop-turn.end c.longer-end.result c.loop-turn.at
          (c.loop-turn.at + (12 + length c.in-Some.body.now)) c.loop-turn.rest.now
          (front_of c.in-Some.place c.in-Some.body.now c.in-Some.behind.now) next c.in-Some.ensures right c.longer-end.ensures (omega arith))
          ∙ so.same;
      within = omega arith;
    }

pub overflow_add-at-in-Some-2 : goal.overflow_add-at-in-Some-2
overflow_add-at-in-Some-2 c =
    let long = front-length c.loop-turn.rest.now (front_of c.in-Some.place c.in-Some.body.now c.in-Some.behind.now) c.in-Some.ensures in
    let within = c.loop-turn.invariant.within in
    let area_within = c.requires.area.within in
    omega arith

pub overflow_add-place : goal.overflow_add-place
overflow_add-place c =
    let right : is_misplaced c.args.self.place c.args.self.size c.args.self.bound c.loop-turn.end c.in-Some.place (length c.in-Some.body.now) ≡ false = cc in
    let within = within-bound c.args.self.place c.args.self.size c.args.self.bound c.loop-turn.end c.in-Some.place (length c.in-Some.body.now) right in
    omega arith

pub returns-in-None : goal.returns-in-None
returns-in-None c =
    let so = c.loop-turn.invariant in
    let next : c.args.count - c.loop-turn._turn ≡ suc (c.args.count - (c.loop-turn._turn + 1)) = let lt = c.loop-turn-test.true in omega arith in
    ap Some c.unfit_field.ensures
    ∙ sym (wrong-unfit c.args.self.place c.args.self.size c.args.self.bound (c.args.count - c.loop-turn._turn)
    (c.args.count - (c.loop-turn._turn + 1)) c.loop-turn.end c.loop-turn.at c.loop-turn.rest.now next c.in-None.ensures)
    ∙ so.same

pub returns-then-is_misplaced : goal.returns-then-is_misplaced
returns-then-is_misplaced c =
    let so = c.loop-turn.invariant in
    let next : c.args.count - c.loop-turn._turn ≡ suc (c.args.count - (c.loop-turn._turn + 1)) = let lt = c.loop-turn-test.true in omega arith in
    let wrong : is_misplaced c.args.self.place c.args.self.size c.args.self.bound c.loop-turn.end c.in-Some.place (length c.in-Some.body.now) ≡ true = cc in
    sym (wrong-here c.args.self.place c.args.self.size c.args.self.bound (c.args.count - c.loop-turn._turn) (c.args.count - (c.loop-turn._turn + 1))
    c.loop-turn.end c.loop-turn.at c.loop-turn.rest.now
    (front_of c.in-Some.place c.in-Some.body.now c.in-Some.behind.now) next c.in-Some.ensures wrong)
    ∙ so.same

pub returns : goal.returns
returns c =
    let so = c.loop-turn.invariant in
    let none : c.args.count - c.loop-turn._turn ≡ 0 = let over = c.loop-turn-test.false in omega arith in
    sym (wrong-end c.args.self.place c.args.self.size c.args.self.bound (c.args.count - c.loop-turn._turn) c.loop-turn.end c.loop-turn.at
    c.loop-turn.rest.now none) ∙ so.same
