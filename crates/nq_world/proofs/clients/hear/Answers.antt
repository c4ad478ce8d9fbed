use Rattle.std.proofs.Common.{◌<◌, ◌≤◌, length, refl, sym, subst, arith}
use Rattle.std.specs.Prelude.{slice_set}
use Rattle.nq_datagrams.specs.Incoming.{hears_in}
use Rattle.nq_world.proofs.Acted.{received-acts, client-at, nobody-acts}
use Rattle.nq_world.specs.Moving.{ActsAt, heeded}
use Rattle.nq_world.proofs.clients.hear.Goals as goal

pub returns-clause-acts : goal.returns-clause-acts
returns-clause-acts c =
    let clients = c.args.clients.now.items in
    let place = c.host.inside.0 in
    let host = c.args.host in
    let here = c.index_mut-client.result.now in
    let number = c.args.number in
    let bytes = c.args.datagram.now in
    let below : host < length clients = omega (arith, c.host.view_is, c.args.clients.now.ok.0, c.len.ensures, c.if-place-len.false) in
    let made =
    received-acts host (λ k. hears_in k number bytes) (hears_in here.client number bytes) clients here c.receive.new.self c.receive.result
    c.args.out.now c.receive.new.out c.args.log.now c.receive.new.log
    (client-at host place clients here c.host.view_is below c.index_mut-client.ensures.value) c.requires.empty refl c.receive.ensures.spent.0
    c.receive.ensures.received in
    subst (λ r. ActsAt host (λ k. hears_in k number bytes) r clients (slice_set clients place c.receive.new.self) c.receive.new.out.datagrams
    c.args.log.now.entries c.receive.new.log.entries) (sym c.heeded.ensures)
    (subst (λ p. ActsAt host (λ k. hears_in k number bytes) (heeded c.receive.result) clients (slice_set clients p c.receive.new.self)
    c.receive.new.out.datagrams c.args.log.now.entries c.receive.new.log.entries) (sym c.host.view_is) made)

pub returns-then-place-len-clause-acts : goal.returns-then-place-len-clause-acts
returns-then-place-len-clause-acts c =
    let clients = c.args.clients.now.items in
    let host = c.args.host in
    let past : length clients ≤ host = omega (arith, c.host.view_is, c.args.clients.now.ok.0, c.len.ensures, c.if-place-len.true) in
    nobody-acts host (λ k. hears_in k c.args.number c.args.datagram.now) clients c.args.out.now.datagrams c.args.log.now.entries past c.requires.empty
