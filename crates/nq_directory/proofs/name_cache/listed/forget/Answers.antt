use Rattle.std.proofs.Common.{not, rules}
use Rattle.std.proofs.lemmas.Fn.{filter_same}
use Rattle.nq_model.specs.protocol.Profile.{same_bytes}
use Rattle.nq_directory.proofs.name_cache.listed.forget.Goals as goal

pub returns : goal.returns
returns c =
    filter_same _ (λ l. not (same_bytes l.prefix c.args.prefix.now)) _ (λ x b q h. search rules) _ _ c.retain.ensures.filtered
