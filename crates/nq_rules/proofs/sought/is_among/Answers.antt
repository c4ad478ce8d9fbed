use Rattle.std.proofs.Common.{length, refl, sym, ◌∙◌}
use Rattle.std.proofs.lemmas.Option.{slice_get_read}
use Rattle.nq_rules.specs.Sought.{passes}
use Rattle.nq_rules.proofs.Places.{exists_there}
use Rattle.nq_rules.proofs.sought.is_among.Goals as goal

pub returns-then-passes : goal.returns-then-passes
returns-then-passes c =
    let there = slice_get_read c.args.entries.now (length c.args.entries.now) c.loop-entry.entry-index c.entry-item.result refl c.loop-entry-test.true
    c.entry-item.is in
    sym (exists_there (passes c.args.sought) c.args.entries.now c.loop-entry.entry-index c.entry-item.result there
    (sym c.passes.ensures ∙ c.if-passes.true))
