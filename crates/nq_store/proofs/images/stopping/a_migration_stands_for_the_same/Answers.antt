use Rattle.std.proofs.Common.{arith}
use Rattle.nq_store.proofs.Leaving.{fits, then-begins, then-stands, then-two}
use Rattle.nq_store.proofs.images.stopping.a_migration_stands_for_the_same.Goals as goal

pub returns-clause-fits : goal.returns-clause-fits
returns-clause-fits c found old is closed = fits found old is closed

pub returns-clause-opens : goal.returns-clause-opens
returns-clause-opens c found old image is closed long so = then-stands found old is closed image long so

pub returns-clause-begins : goal.returns-clause-begins
returns-clause-begins c found old image is closed shut so = let long = shut.long in then-begins found old is closed image (omega arith) so

pub returns-clause-two : goal.returns-clause-two
returns-clause-two c found old image is closed shut so = let long = shut.long in then-two found old is closed image (omega arith) so shut
