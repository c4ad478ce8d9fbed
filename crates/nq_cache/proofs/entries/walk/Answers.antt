use Rattle.std.proofs.Common.{◌≡◌, ◌-◌, ◌+◌, ◌∙◌, ap, length, arith}
use Rattle.nq_cache.specs.Entries.{walked}
use Rattle.nq_cache.proofs.Kept.{walked-more}
use Rattle.nq_cache.proofs.entries.walk.Goals as goal

pub loop-preserved : goal.loop-preserved
loop-preserved c =
    let es = c.args.entries.now.entries in
    let left : length es - c.loop.counter ≡ length es - (c.loop.counter + 1) + 1 = omega (arith, c.requires) in
    let was = c.loop.invariant.0 ∙ ap (λ n. walked c.args.file n es) left in (
      walked-more c.args.file (length es - (c.loop.counter + 1)) es c.loop.entries.entries c.turn.new.entries.entries (omega (arith, c.requires)) was
          c.turn.ensures.turns,
      c.turn.ensures.room ∙ c.loop.invariant.1,
      omega arith,
    )
