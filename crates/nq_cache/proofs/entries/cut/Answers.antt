use Rattle.std.proofs.Common.{◌≡◌, ◌≤◌, ◌-◌, length, take, sym, ◌∙◌, ap, arith}
use Rattle.std.proofs.lemmas.List.{take_all}
use Rattle.nq_cache.specs.Entries.{clean_blocks}
use Rattle.nq_cache.proofs.Kept.{at_most-entries}
use Rattle.nq_cache.proofs.entries.cut.Goals as goal

pub returns-then-len-gt-MOST-clause-cut : goal.returns-then-len-gt-MOST-clause-cut
returns-then-len-gt-MOST-clause-cut c =
    let few : length c.args.entries.now.entries ≤ c.args.entries.now.cap = c.len.ensures.valid.1 in
    let n : length c.args.entries.now.entries - 1 ≡ 512 = omega arith in
    ap clean_blocks c.evict.ensures.evicted
    ∙ ap (λ m. clean_blocks (take m c.args.entries.now.entries)) n
    ∙ at_most-entries 512 c.args.entries.now.entries

pub returns-else-len-gt-MOST-clause-cut : goal.returns-else-len-gt-MOST-clause-cut
returns-else-len-gt-MOST-clause-cut c =
    let few : length c.args.entries.now.entries ≤ 512 = omega arith in
    ap clean_blocks (sym (take_all 512 c.args.entries.now.entries few)) ∙ at_most-entries 512 c.args.entries.now.entries
