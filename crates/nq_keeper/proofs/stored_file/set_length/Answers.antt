use Rattle.std.proofs.Common.{◌≡◌, ◌≤◌, ◌-◌, ◌++◌, length, ap, ◌∙◌, arith}
use Rattle.std.specs.Prelude.{replicate}
use Rattle.nq_base.specs.Block.{zeros}
use Rattle.nq_keeper.proofs.Edits.{longer}
use Rattle.nq_keeper.proofs.stored_file.set_length.Goals as goal

pub returns-clause-ok : goal.returns-clause-ok
returns-clause-ok c =
    let len : c.len-len.result ≡ length c.args.blocks.now.items = c.len-len.ensures ∙ c.args.blocks.now.ok.0 in
    let le : length c.args.blocks.now.items ≤ c.args.count = let more = c.if-count-len.false in omega arith in
    c.add_zeros.ensures.items
    ∙ ap (λ xs. xs ++ replicate (c.args.count - c.len-len.result) zeros) c.reserve.ensures.items
    ∙ ap (λ n. c.args.blocks.now.items ++ replicate (c.args.count - n) zeros) len
    ∙ longer c.args.count c.args.blocks.now.items le
