use Rattle.std.proofs.Common.{◌≤◌, arith}
use Rattle.nq_check.proofs.Passing.{all_below}
use Rattle.nq_check.proofs.reported_front.reported_front.Goals as goal

pub returns : goal.returns
returns c =
    let named = c.args.names.now.front in
    let told = c.in_ok-reported.reported in
    let ended = c.in_ok-ended.ended in
    let front = c.lower-2.result in
    let a : c.lower.result ≤ told = c.lower.ensures.0 in
    let b : c.lower.result ≤ ended = c.lower.ensures.1 in
    let d : front ≤ named = c.lower-2.ensures.0 in
    let e : front ≤ c.lower.result = c.lower-2.ensures.1 in
    all_below c.args.whole.now named told ended front c.requires.names c.in_ok-reported.ensures c.in_ok-ended.ensures (omega arith) (omega arith)
    (omega arith)
