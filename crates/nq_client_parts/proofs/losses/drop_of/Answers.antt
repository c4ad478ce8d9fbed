use Rattle.std.proofs.Common.{◌==◌, not, rules}
use Rattle.std.proofs.lemmas.Fn.{filter_same}
use Rattle.nq_client_parts.proofs.losses.drop_of.Goals as goal

pub returns : goal.returns
returns c = filter_same _ (λ l. not (l.file == c.args.file)) _ (λ x b q h. search rules) _ _ c.retain.ensures.filtered
