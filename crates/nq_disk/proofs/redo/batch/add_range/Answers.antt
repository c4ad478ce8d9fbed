use Rattle.std.proofs.Common.{◌≡◌, ◌+◌, ◌≤◌, List, ℕ, ◌++◌, length, take, drop, arith, ap, ◌∙◌}
use Rattle.std.specs.Int.{w32, to_be_bytes}
use Rattle.nq_disk.proofs.Adding.{added-batch, added-ranges, written-back}
use Rattle.nq_disk.proofs.redo.batch.add_range.Goals as goal

pub returns-clause-batch : goal.returns-clause-batch
returns-clause-batch c =
    let value = c.deref_mut.ensures.value in
    let len : length c.set_count.new.body ≡ length c.push_range.new.body.items = c.set_count.auto.body ∙ ap length value in
    let fits : length c.push_range.new.body.items ≤ c.push_range.new.body.len = let ok = c.push_range.new.body.ok.0 in omega arith in
    added-batch c.args.count c.args.place c.args.bytes.now c.args.body.now.items _ c.requires.batch c.requires.few c.ranges.place.fits c.requires.short
    (written-back c.push_range.new.body.len c.set_count.new.body c.push_range.new.body.items len fits
    ∙ c.set_count.ensures
    ∙ ap (λ (d : List ℕ). take 7 d ++ (to_be_bytes w32 (c.args.count + 1) ++ drop 11 d)) (value ∙ c.push_range.ensures))

pub returns-clause-ranges : goal.returns-clause-ranges
returns-clause-ranges c =
    let value = c.deref_mut.ensures.value in
    let len : length c.set_count.new.body ≡ length c.push_range.new.body.items = c.set_count.auto.body ∙ ap length value in
    let fits : length c.push_range.new.body.items ≤ c.push_range.new.body.len = let ok = c.push_range.new.body.ok.0 in omega arith in
    added-ranges c.args.count c.args.place c.args.bytes.now c.args.body.now.items _ c.requires.batch c.requires.few c.ranges.place.fits c.requires.short
    (written-back c.push_range.new.body.len c.set_count.new.body c.push_range.new.body.items len fits
    ∙ c.set_count.ensures
    ∙ ap (λ (d : List ℕ). take 7 d ++ (to_be_bytes w32 (c.args.count + 1) ++ drop 11 d)) (value ∙ c.push_range.ensures))
