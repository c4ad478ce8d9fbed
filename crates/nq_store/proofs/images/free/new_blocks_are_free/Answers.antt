use Rattle.nq_store.proofs.Seats.{new-are-free}
use Rattle.nq_store.proofs.images.free.new_blocks_are_free.Goals as goal

pub returns : goal.returns
returns c bytes held row placed is_held is = new-are-free bytes held is_held row placed is
