use Rattle.std.proofs.Common.{sym, ◌∙◌}
use Rattle.nq_rules.specs.Sought.{passes}
use Rattle.nq_rules.proofs.Places.{near_first, near_then}
use Rattle.nq_rules.proofs.sought.is_near.Goals as goal

pub returns-then-is_among : goal.returns-then-is_among
returns-then-is_among c =
    c.if-is_among.true ∙ near_first (passes c.args.sought) c.args.entries.now c.split_at.result.0.now c.split_at.result.1.now c.min.result
    c.split_at.ensures.front c.split_at.ensures.back (sym c.is_among.ensures ∙ c.if-is_among.true)

pub returns-else-is_among : goal.returns-else-is_among
returns-else-is_among c =
    c.is_among-else-is_among.ensures
    ∙ near_then (passes c.args.sought) c.args.entries.now c.split_at.result.0.now c.split_at.result.1.now c.min.result c.split_at.ensures.front
    c.split_at.ensures.back (sym c.is_among.ensures ∙ c.if-is_among.false)
