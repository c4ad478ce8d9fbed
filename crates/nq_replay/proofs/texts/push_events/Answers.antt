use Rattle.std.proofs.Common.{refl, arith}
use Rattle.nq_replay.proofs.Spelling.{all-stand, each-at, more-stand, none-stand}
use Rattle.nq_replay.specs.Texts.{IsTellable}
use Rattle.nq_replay.proofs.texts.push_events.Goals as goal

pub loop-place-init : goal.loop-place-init
loop-place-init c = none-stand c.args.head.now c.args.text.now.items c.args.text.now.items c.args.ran.now refl

pub append_line-requires-clause-has : goal.append_line-requires-clause-has
append_line-requires-clause-has c = λ event here. (each-at (IsTellable c.args.head.now) c.args.ran.now c.loop-place.place event c.requires here).1

pub loop-place-preserved : goal.loop-place-preserved
loop-place-preserved c =
    let line = c.in_ok-append_line.ensures in
    more-stand c.args.head.now _ _ _ c.args.ran.now c.loop-place.place line.0 line.1 c.loop-place.invariant line.2
    (each-at (IsTellable c.args.head.now) c.args.ran.now c.loop-place.place line.0 c.requires line.2).0 line.3 line.4

pub returns : goal.returns
returns c = all-stand c.args.head.now _ _ c.args.ran.now c.loop-place.place (omega arith) c.loop-place.invariant
