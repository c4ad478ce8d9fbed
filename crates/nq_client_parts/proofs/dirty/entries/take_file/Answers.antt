use Rattle.std.proofs.Common.{rules, ◌∙◌, ap}
use Rattle.indexmap.proofs.CallerLemmas.{filter-RetainsPairs}
use Rattle.nq_client_parts.specs.DirtyEntries.{delayed, is_of_other}
use Rattle.nq_client_parts.proofs.OfEntries.{other_dirty-entries}
use Rattle.nq_client_parts.proofs.dirty.entries.take_file.Goals as goal

pub returns-clause-others : goal.returns-clause-others
returns-clause-others c =
    ap delayed (filter-RetainsPairs _ (is_of_other c.args.file) _ (λ k v b w g call. search rules) _ _ c.retain.ensures.filtered)
    ∙ other_dirty-entries c.args.file c.args.entries.now.entries
