use Rattle.std.proofs.Common.{◌∙◌, ap}
use Rattle.nq_model.specs.protocol.Profile.{same_bytes}
use Rattle.nq_directory.proofs.Called.{tested}
use Rattle.nq_directory.proofs.prefix.Prefix.is.Goals as goal

pub returns-clause-test : goal.returns-clause-test
returns-clause-test c =
    tested c.has.result c.args.self.now c.as_bytes.result.now c.has.ensures ∙ ap (same_bytes c.args.self.now) c.as_bytes.ensures.bytes
