use Rattle.nq_stage.proofs.Inner.{offers-store-nothing}
use Rattle.nq_stage.proofs.run.laws.offers_store_nothing.Goals as goal

pub returns : goal.returns
returns c = offers-store-nothing
