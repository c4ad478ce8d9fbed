use Rattle.std.proofs.Common.{sym, ap, ◌∙◌}
use Rattle.nq_store.specs.Migrated.{blocks_in, files_in}
use Rattle.nq_store.proofs.migrating.batch_of.Goals as goal

pub returns : goal.returns
returns c = λ found is.
    let numbers = c.in_ok-numbers.ensures.numbers found is.boots_are (ap files_in is.slots_are ∙ sym c.files_in-files.ensures.count)
    (ap blocks_in is.slots_are ∙ sym c.blocks_in-tables.ensures) in
    let added = rw c.in_ok-batch.ensures at c.in_ok-add.ensures.added in
    cc
