use Rattle.std.proofs.Common.{◌≤◌, ◌<◌, ap, length, arith}
use Rattle.nq_names.proofs.Hearing.{heard_nowhere, heard_on}
use Rattle.nq_names.specs.Playing.{NamesOver}
use Rattle.nq_names.proofs.world.NameWorld.hear.Goals as goal

pub returns-then-host-self-clause-hears : goal.returns-then-host-self-clause-hears
returns-then-host-self-clause-hears g c =
    let many = c.self.invariant in
    let is = ap (λ (w : NamesOver _). length w.inner.clients) c.self.view_is in
    let same = c.host.view_is in
    let test = c.if-host-self.true in
    let less : c.args.host < length c.args.self.now.inner.clients = omega arith in
    heard_on c.hear_there.result c.args.self.now.inner.clients c.args.self.now.around c.hear_there.new.self.around c.args.host c.args.datagram.now
    less c.hear_there.ensures.hears

pub returns-else-host-self-clause-hears : goal.returns-else-host-self-clause-hears
returns-else-host-self-clause-hears g c = λ w ran are.
    let many = c.self.invariant in
    let is = ap (λ (w : NamesOver _). length w.inner.clients) c.self.view_is in
    let same = c.host.view_is in
    let test = c.if-host-self.false in
    let past : length c.args.self.now.inner.clients ≤ c.args.host = omega arith in
    heard_nowhere w ran c.args.self.now.inner.clients c.args.self.now.around c.args.host c.args.datagram.now c.requires are past
