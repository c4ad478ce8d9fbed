use Rattle.nq_xdr.proofs.Numbers.{length-word, length-hyper}
use Rattle.nq_xdr.proofs.Opaque.{length-boolean, length-opaque}
use Rattle.nq_xdr.proofs.laws.lengths.Goals as goal

pub returns-clause-words : goal.returns-clause-words
returns-clause-words c = length-word

pub returns-clause-hypers : goal.returns-clause-hypers
returns-clause-hypers c = length-hyper

pub returns-clause-booleans : goal.returns-clause-booleans
returns-clause-booleans c = length-boolean

pub returns-clause-opaques : goal.returns-clause-opaques
returns-clause-opaques c = length-opaque
