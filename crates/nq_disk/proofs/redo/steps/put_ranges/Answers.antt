use Rattle.std.proofs.Common.{◌≡◌, ◌+◌, ◌-◌, ℕ, suc, List, ◌∷◌, Some, refl, sym, ap, subst, ◌∙◌, inl, inr, arith}
use Rattle.nq_disk.specs.Bytes.{written}
use Rattle.nq_disk.specs.Calling.{told_after}
use Rattle.nq_disk.specs.Ranges.{Range, Among, Settling, applied}
use Rattle.nq_disk.specs.Record.{front_of, ranges_in}
use Rattle.nq_disk.proofs.RedoGoing.{ranges-none, ranges-step, step-settles, through, told-end, told-step}
use Rattle.nq_disk.proofs.Settling.{settling-none}
use Rattle.nq_disk.proofs.redo.steps.put_ranges.Goals as goal

pub loop-turn-init : goal.loop-turn-init
loop-turn-init g c =
    let all : c.args.count - 0 ≡ c.args.count = omega arith in
    record {
      follows = g.met.D.Disk.follows_itself c.args.disk.now;
      faults = refl;
      leaves = λ old told only image left.
          subst (λ (i : List ℕ). Settling (ranges_in c.args.count c.args.bytes.now) old i)
          (sym (only image (g.met.D.Disk.leaves_now c.args.disk.now image left)))
          (settling-none (ranges_in c.args.count c.args.bytes.now) old);
      told = λ old told. (old, told, ap (λ (n : ℕ). applied (ranges_in n c.args.bytes.now) old) all);
      among = λ range here. subst (λ (n : ℕ). Among (ranges_in n c.args.bytes.now) range) all here;
    }

pub loop-turn-preserved : goal.loop-turn-preserved
loop-turn-preserved g c =
    let so = c.loop-turn.invariant in
    let range : Range = record { place = c.in-Some.place; bytes = c.in-Some.body.now } in
    let next : c.args.count - c.loop-turn._turn ≡ suc (c.args.count - (c.loop-turn._turn + 1)) = let lt = c.loop-turn-test.true in omega arith in
    let step : ranges_in (c.args.count - c.loop-turn._turn) c.loop-turn.rest.now ≡ range ∷ ranges_in (c.args.count - (c.loop-turn._turn + 1))
    c.in-Some.behind.now =
    ranges-step (c.args.count - c.loop-turn._turn) (c.args.count - (c.loop-turn._turn + 1)) c.loop-turn.rest.now
    (front_of c.in-Some.place c.in-Some.body.now c.in-Some.behind.now) next c.in-Some.ensures in
    record {
      follows = g.met.D.Disk.follows_on c.args.disk.now c.loop-turn.disk c.write_at.new.self so.follows c.write_at.ensures.follows;
      faults = c.in_ok-write_at-in-Some.ensures.cause ∙ so.faults;
      leaves = λ old told only image left.
          through (Settling (ranges_in c.args.count c.args.bytes.now) old) _ _ image
          (g.met.D.Disk.parts c.args.disk.now c.loop-turn.disk c.write_at.new.self image so.follows c.write_at.ensures.follows left)
          (so.leaves old told only image)
          (step-settles (ranges_in c.args.count c.args.bytes.now) range old (g.D.Disk.may_leave c.loop-turn.disk) (g.D.Disk.leaves c.loop-turn.disk
          c.write_at.new.self)
          (so.among range (subst (λ (l : List Range). Among l range) (sym step) (inl refl)))
          (λ i may. so.leaves old told only i (g.met.D.Disk.leaves_ends c.args.disk.now c.loop-turn.disk i so.follows (inr may)))
          c.write_at.ensures.leaves image);
      told = λ old told.
          let t = so.told old told in (
            written range.place range.bytes t.0,
            c.in_ok-write_at-in-Some.ensures.writes ∙ ap (told_after range.place range.bytes) t.1,
            told-step (ranges_in (c.args.count - c.loop-turn._turn) c.loop-turn.rest.now) (ranges_in (c.args.count - (c.loop-turn._turn + 1))
                c.in-Some.behind.now) range old t.0 (ranges_in c.args.count c.args.bytes.now) step t.2,
          );
      among = λ r here. so.among r (subst (λ (l : List Range). Among l r) (sym step) (inr here));
    }

pub returns-in_err-write_at-in-Some-clause-leaves : goal.returns-in_err-write_at-in-Some-clause-leaves
returns-in_err-write_at-in-Some-clause-leaves g c =
    let so = c.loop-turn.invariant in
    let range : Range = record { place = c.in-Some.place; bytes = c.in-Some.body.now } in
    let next : c.args.count - c.loop-turn._turn ≡ suc (c.args.count - (c.loop-turn._turn + 1)) = let lt = c.loop-turn-test.true in omega arith in
    let step : ranges_in (c.args.count - c.loop-turn._turn) c.loop-turn.rest.now ≡ range ∷ ranges_in (c.args.count - (c.loop-turn._turn + 1))
    c.in-Some.behind.now =
    ranges-step (c.args.count - c.loop-turn._turn) (c.args.count - (c.loop-turn._turn + 1)) c.loop-turn.rest.now
    (front_of c.in-Some.place c.in-Some.body.now c.in-Some.behind.now) next c.in-Some.ensures in
    λ old told only image left.
    through (Settling (ranges_in c.args.count c.args.bytes.now) old) _ _ image
    (g.met.D.Disk.parts c.args.disk.now c.loop-turn.disk c.write_at.new.self image so.follows c.write_at.ensures.follows left)
    (so.leaves old told only image)
    (step-settles (ranges_in c.args.count c.args.bytes.now) range old (g.D.Disk.may_leave c.loop-turn.disk) (g.D.Disk.leaves c.loop-turn.disk
    c.write_at.new.self)
    (so.among range (subst (λ (l : List Range). Among l range) (sym step) (inl refl)))
    (λ i may. so.leaves old told only i (g.met.D.Disk.leaves_ends c.args.disk.now c.loop-turn.disk i so.follows (inr may)))
    c.write_at.ensures.leaves image)

pub returns-in-None-clause-written : goal.returns-in-None-clause-written
returns-in-None-clause-written g c = λ old told.
    let t = c.loop-turn.invariant.told old told in
    t.1 ∙ ap Some (told-end (ranges_in (c.args.count - c.loop-turn._turn) c.loop-turn.rest.now) old t.0 (ranges_in c.args.count c.args.bytes.now)
    (ranges-none (c.args.count - c.loop-turn._turn) c.loop-turn.rest.now c.in-None.ensures) t.2)
