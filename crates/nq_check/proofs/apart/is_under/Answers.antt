use Rattle.std.proofs.Common.{sym, ◌∙◌}
use Rattle.std.proofs.lemmas.Bool.{leb-true}
use Rattle.nq_check.proofs.Ranging.{below_is}
use Rattle.nq_check.proofs.apart.is_under.Goals as goal

pub returns-in-Some : goal.returns-in-Some
returns-in-Some c =
    let low = c.args.low.now in
    let high = c.in-Some.higher.now in
    λ t. record {
      high = high;
      at_high = c.in-Some.ensures;
      upright = leb-true low.0.1 low.1.0 (sym c.is_upright.ensures ∙ c.if-not-is_upright.false);
      below = below_is low high (sym c.is_below.ensures ∙ t);
    }
