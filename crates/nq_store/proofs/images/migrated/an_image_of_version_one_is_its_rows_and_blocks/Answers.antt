use Rattle.nq_store.proofs.Same.{one-opens-same}
use Rattle.nq_store.proofs.images.migrated.an_image_of_version_one_is_its_rows_and_blocks.Goals as goal

pub returns : goal.returns
returns c found old new is agree = one-opens-same found old new is agree
