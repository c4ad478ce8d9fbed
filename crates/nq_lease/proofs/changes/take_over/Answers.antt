use Rattle.std.proofs.Common.{length, ap, ◌∙◌, rules, arith}
use Rattle.std.specs.Prelude.{not}
use Rattle.nq_model.specs.protocol.ServerStep.{is_over}
use Rattle.std.proofs.lemmas.Fn.{filter_same}
use Rattle.nq_lease.proofs.Keeping.{kept-filtered}
use Rattle.nq_lease.proofs.changes.take_over.Goals as goal

pub returns-clause-rows : goal.returns-clause-rows
returns-clause-rows c = filter_same _ (λ r. not (is_over c.args.now r)) _ (λ x b q h. search rules) _ _ c.retain.ensures.filtered

pub returns-clause-kept : goal.returns-clause-kept
returns-clause-kept c =
    let same = filter_same _ (λ r. not (is_over c.args.now r)) _ (λ x b q h. search rules) _ _ c.retain.ensures.filtered in
    kept-filtered (λ r. not (is_over c.args.now r)) _ _ _ _ _ _ _ _ c.requires same (rw (← c.as_slice.ensures.value) c.fill.ensures.ends)
    (c.fill.ensures.all ∙ ap length c.as_slice.ensures.value) (omega (arith, c.retain.ensures.capacity)) c.fill.ensures.capacity
