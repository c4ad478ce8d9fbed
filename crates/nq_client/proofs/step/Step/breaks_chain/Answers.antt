use Rattle.std.proofs.Common.{ℕ, ◌<◌, ◌+◌, ◌^◌, sym, subst, ◌∙◌}
use Rattle.nq_client.proofs.step.Step.breaks_chain.Goals as goal

pub follows_loss-requires-clause-silent : goal.follows_loss-requires-clause-silent
follows_loss-requires-clause-silent c =
    let quiet = c.loses-named.ensures.quiet in
    let prepared = c.requires.prepared in
    record {
      asks = quiet.asks ∙ prepared.silent;
      first = quiet.vacated ∙ prepared.first;
      xid = subst (λ (n : ℕ). n + 1 < 2 ^ 32) (sym quiet.xid) prepared.xid;
    }
