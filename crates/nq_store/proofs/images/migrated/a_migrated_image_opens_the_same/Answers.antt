use Rattle.nq_store.proofs.Two.{migrated-opens}
use Rattle.nq_store.proofs.images.migrated.a_migrated_image_opens_the_same.Goals as goal

pub returns : goal.returns
returns c found old new is m = migrated-opens found old new is m
