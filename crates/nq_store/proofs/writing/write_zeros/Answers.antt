use Rattle.std.proofs.Common.{get_or, ◌≡◌, ◌+◌, ℕ, List, Some, length, drop, refl, sym, ap, subst, ◌∙◌, inr}
use Rattle.nq_disk.specs.Bytes.{Torn, written}
use Rattle.nq_disk.specs.Calling.{told_after}
use Rattle.nq_image.specs.Layout.{block_place}
use Rattle.nq_store.specs.Changing.{zeroed}
use Rattle.nq_store.specs.Storing.{StandsStill}
use Rattle.nq_store.proofs.Zeroing.{free-at, no-block-left, size-of, still-itself, still-torn, through, zeroed-passes}
use Rattle.nq_store.proofs.writing.write_zeros.Goals as goal

pub loop-block-init : goal.loop-block-init
loop-block-init g c = record {
  follows = g.met.D.Disk.follows_itself c.args.disk.now;
  faults = refl;
  told = λ old told. (old, told, refl);
  still = λ old told s ready image left.
      subst (λ (i : List ℕ). StandsStill s old i) (sym (ready.alone image (g.met.D.Disk.leaves_now c.args.disk.now image left)))
      (still-itself s old ready.closed);
}

pub loop-block-preserved : goal.loop-block-preserved
loop-block-preserved g c =
    let so = c.loop-block.invariant in
    let i = c.loop-block.block-index in
    let block = get_or c.args.blocks.now i 0 in
    let part = c.args.zeros.now in
    let place : c.block_place.result ≡ block_place block = c.block_place.ensures in
    record {
      follows = g.met.D.Disk.follows_on c.args.disk.now c.loop-block.disk c.write_at.new.self so.follows c.write_at.ensures.follows;
      faults = c.in_ok-write_at.ensures.cause ∙ so.faults;
      told = λ old told.
          let t = so.told old told in (
            written c.block_place.result part t.0,
            c.in_ok-write_at.ensures.writes ∙ ap (told_after c.block_place.result part) t.1,
            ap (λ (p : ℕ). zeroed (drop (i + 1) c.args.blocks.now) (written p part t.0)) place
                ∙ zeroed-passes i block c.args.blocks.now t.0 part (zeroed c.args.blocks.now old) c.requires c.loop-block-test.true refl t.2,
          );
      still = λ old told s ready image left.
          through (StandsStill s old) _ _ image
          (g.met.D.Disk.parts c.args.disk.now c.loop-block.disk c.write_at.new.self image so.follows c.write_at.ensures.follows left)
          (so.still old told s ready image)
          (λ l.
          let from = c.write_at.ensures.leaves image l in
          let mid = so.still old told s ready from.0 (g.met.D.Disk.leaves_ends c.args.disk.now c.loop-block.disk from.0 so.follows (inr from.1)) in
          still-torn s old from.0 image block (length part) (size-of part c.requires) ready.stands (free-at s i block c.args.blocks.now ready.free
          c.loop-block-test.true refl) mid
          (subst (λ (p : ℕ). Torn p (length part) from.0 image) place from.2));
    }

pub returns-in_err-write_at-clause-still : goal.returns-in_err-write_at-clause-still
returns-in_err-write_at-clause-still g c =
    let so = c.loop-block.invariant in
    let i = c.loop-block.block-index in
    let block = get_or c.args.blocks.now i 0 in
    let part = c.args.zeros.now in
    λ old told s ready image left.
    through (StandsStill s old) _ _ image
    (g.met.D.Disk.parts c.args.disk.now c.loop-block.disk c.write_at.new.self image so.follows c.write_at.ensures.follows left)
    (so.still old told s ready image)
    (λ l.
    let from = c.write_at.ensures.leaves image l in
    let mid = so.still old told s ready from.0 (g.met.D.Disk.leaves_ends c.args.disk.now c.loop-block.disk from.0 so.follows (inr from.1)) in
    still-torn s old from.0 image block (length part) (size-of part c.requires) ready.stands (free-at s i block c.args.blocks.now ready.free
    c.loop-block-test.true refl) mid
    (subst (λ (p : ℕ). Torn p (length part) from.0 image) c.block_place.ensures from.2))

pub returns-clause-written : goal.returns-clause-written
returns-clause-written g c = λ old told.
    let t = c.loop-block.invariant.told old told in
    t.1 ∙ ap Some (no-block-left c.loop-block.block-index c.args.blocks.now t.0 (zeroed c.args.blocks.now old) c.loop-block-test.false t.2)
