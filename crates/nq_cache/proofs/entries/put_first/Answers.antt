use Rattle.std.proofs.Common.{◌≤◌, ◌-◌, length, ◌∙◌, ap, sym, arith}
use Rattle.nq_cache.specs.Entries.{clean_blocks}
use Rattle.nq_cache.proofs.Kept.{put-entries, is_there}
use Rattle.nq_cache.proofs.KeyLaws.{key_laws}
use Rattle.nq_cache.proofs.entries.put_first.Goals as goal

pub returns-clause-put : goal.returns-clause-put
returns-clause-put c =
    let few : length c.args.entries.now.entries ≤ c.args.entries.now.cap - 1 = omega arith in
    ap (λ x. clean_blocks x.entries) c.in_ok-put.ensures.entries
    ∙ put-entries _ key_laws c.args.key.now c.args.entries.now c.args.body c.len-distinct.ensures.valid.0 few

pub returns-in_err-put-clause-succeeds : goal.returns-in_err-put-clause-succeeds
returns-in_err-put-clause-succeeds c = λ there.
    let h = c.in_err-put.ensures.succeeds (sym (is_there _ key_laws c.args.key.now c.args.entries.now.entries) ∙ there) in
    absurd cc
