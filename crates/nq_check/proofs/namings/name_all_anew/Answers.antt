use Rattle.std.proofs.Common.{rules, ◌≡◌, true, ◌≤◌, ◌+◌, length, reverse, take, arith}
use Rattle.nq_check.proofs.NamingLosses.{up_to_all, up_to_next, up_to_none}
use Rattle.nq_check.proofs.namings.name_all_anew.Goals as goal

pub loop-index-init : goal.loop-index-init
loop-index-init c =
    up_to_none (reverse c.args.whole.now) (reverse (take c.args.place c.args.whole.now)) c.args.by.now c.args.call.now c.args.spans.now.items
    c.args.names.now.named.entries

pub loop-index-preserved : goal.loop-index-preserved
loop-index-preserved c =
    let yes : c.in_ok-name_anew.field-0 ≡ true = search rules in
    up_to_next (reverse c.args.whole.now) (reverse (take c.args.place c.args.whole.now)) c.args.by.now c.args.call.now c.args.spans.now.items
    c.loop-index.index (c.args.place + 1) c.span_at-span.result c.args.names.now.named.entries c.loop-index.names.named.entries
    c.name_anew.new.names.named.entries (omega arith) c.span_at-span.ensures c.loop-index.invariant (c.in_ok-name_anew.ensures yes)

pub returns : goal.returns
returns c =
    let spans = c.args.spans.now.items in
    let end : c.len-index-end.result ≡ length spans = c.len-index-end.ensures in
    let past : c.len-index-end.result ≤ c.loop-index.index = c.loop-index-test.false in
    λ t. up_to_all (reverse c.args.whole.now) (reverse (take c.args.place c.args.whole.now)) c.args.by.now c.args.call.now spans c.loop-index.index
    c.args.names.now.named.entries c.loop-index.names.named.entries (omega arith) c.loop-index.invariant
