use Rattle.std.proofs.lemmas.Slice.Eq.{strip_prefix_is}
use Rattle.std.proofs.lemmas.Bool.Decides.{Decides-eqb}
use Rattle.nq_script.proofs.Cuts.{after-stripped}
use Rattle.nq_script.proofs.fields.rest_after.Goals as goal

pub returns : goal.returns
returns c =
    after-stripped c.args.bytes.now c.args.prefix.now c.strip_prefix.result
    (strip_prefix_is Decides-eqb c.args.bytes.now c.args.prefix.now c.strip_prefix.result c.strip_prefix.ensures.cases)
