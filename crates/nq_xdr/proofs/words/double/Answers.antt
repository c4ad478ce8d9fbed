use Rattle.nq_xdr.proofs.Repeats.{doubled}
use Rattle.nq_xdr.proofs.words.double.Goals as goal

pub returns-clause-doubled : goal.returns-clause-doubled
returns-clause-doubled c = λ word before. doubled c.args.bytes.now c.copy_within.new.self c.args.words word c.copy_within.ensures.after before c.requires
