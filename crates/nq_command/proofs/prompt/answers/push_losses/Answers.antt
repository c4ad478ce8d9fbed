use Rattle.std.proofs.Common.{◌≡◌, ◌<◌, ◌++◌, length, codes, subst, add-one, arith}
use Rattle.std.specs.Option.{IfSome}
use Rattle.nq_command.specs.Answers.{loss_words}
use Rattle.nq_command.proofs.Rounds.{one_more, there}
use Rattle.nq_command.proofs.prompt.answers.push_losses.Goals as goal

pub loop-place-preserved : goal.loop-place-preserved
loop-place-preserved c =
    let all = c.args.losses.now.items in
    let place = c.loop-place.place in
    let below : place < length all = omega (arith, c.loop-place-test.true) in
    let t = there all place below in
    let now = c.loop-place.out.items in
    let new = c.push_loss.new.out.items in
    let more : new ≡ now ++ loss_words t.element = subst (λ o. IfSome o (λ loss. new ≡ now ++ loss_words loss)) t.is c.in_ok-push_loss.ensures in
    rw add-one (
    one_more loss_words all place t.element c.args.out.now.items (codes "lost: delayed writes came too late, of block") now new t.is
    c.loop-place.invariant more)
