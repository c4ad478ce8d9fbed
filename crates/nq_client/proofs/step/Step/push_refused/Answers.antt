use Rattle.std.proofs.Common.{ℕ, ◌<◌, ◌+◌, ◌^◌, sym, subst, ◌∙◌}
use Rattle.nq_client.proofs.step.Step.push_refused.Goals as goal

pub follows_loss-requires-clause-silent : goal.follows_loss-requires-clause-silent
follows_loss-requires-clause-silent c =
    let lost = c.loses-named.ensures.quiet in
    record {
      asks = lost.asks ∙ c.requires.silent;
      first = lost.vacated ∙ c.requires.first;
      xid = subst (λ (n : ℕ). n + 1 < 2 ^ 32) (sym lost.xid) c.requires.xid;
    }
