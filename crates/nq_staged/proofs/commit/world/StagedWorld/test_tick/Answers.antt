use Rattle.std.proofs.Common.{ap, length, reverse, subst, sym}
use Rattle.std.proofs.lemmas.Bool.{iff_false}
use Rattle.nq_staged.proofs.Agreeing.{tick-lawful, tick-unlawful}
use Rattle.nq_staged.specs.Worlds.{StagedOver}
use Rattle.nq_world.proofs.Going.{runs-are-lawful}
use Rattle.nq_world.specs.Playing.{Plays, seen_of}
use Rattle.nq_staged.proofs.commit.world.StagedWorld.test_tick.Goals as goal

pub returns-then-lawful_server_tick-clause-tests : goal.returns-then-lawful_server_tick-clause-tests
returns-then-lawful_server_tick-clause-tests g c = λ head events kept r.
    let w = c.args.self.now in
    let plays = subst (λ i. Plays head (reverse w.ran) i kept) (sym (ap (λ (v : StagedOver _). v.inner) c.self.view_is)) r.inner in
    let lawful = runs-are-lawful head (reverse w.ran) (seen_of w.inner) w.inner.skew r.inner.shown in
    tick-lawful head.hosts head.longest (length w.around.sent) (reverse w.ran) c.test_room.result lawful.2
    ((c.lawful_server_tick.ensures head (reverse w.ran) kept plays).0 c.if-lawful_server_tick.true) c.test_room.ensures.tests

pub returns-else-lawful_server_tick-clause-tests : goal.returns-else-lawful_server_tick-clause-tests
returns-else-lawful_server_tick-clause-tests g c = λ head events kept r.
    let w = c.args.self.now in
    let plays = subst (λ i. Plays head (reverse w.ran) i kept) (sym (ap (λ (v : StagedOver _). v.inner) c.self.view_is)) r.inner in
    let lawful = runs-are-lawful head (reverse w.ran) (seen_of w.inner) w.inner.skew r.inner.shown in
    tick-unlawful head.hosts head.longest (length w.around.sent) (reverse w.ran) lawful.2
    (iff_false (c.lawful_server_tick.ensures head (reverse w.ran) kept plays) c.if-lawful_server_tick.false)
