use Rattle.nq_store.proofs.ImagesZeroing.{all-zeros, torn-agrees, written-agrees, zeroed-agrees}
use Rattle.nq_store.proofs.images.free.free_blocks_may_be_any.Goals as goal

pub returns-clause-written : goal.returns-clause-written
returns-clause-written c bytes s block part stands free long = written-agrees bytes s block part stands free long

pub returns-clause-torn : goal.returns-clause-torn
returns-clause-torn c s block old new stands free torn = torn-agrees s block old new stands free torn

pub returns-clause-zeroed : goal.returns-clause-zeroed
returns-clause-zeroed c bytes s blocks stands free = zeroed-agrees blocks bytes s stands free

pub returns-clause-zeros : goal.returns-clause-zeros
returns-clause-zeros c bytes blocks = all-zeros blocks bytes
