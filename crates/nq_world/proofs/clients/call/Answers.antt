use Rattle.std.proofs.Common.{Some, refl, sym, subst}
use Rattle.std.specs.Prelude.{slice_set}
use Rattle.nq_model.specs.protocol.ClientStep.{client_call}
use Rattle.nq_world.proofs.Acted.{called-acts, client-at}
use Rattle.nq_world.specs.Moving.{ActsAt, called}
use Rattle.nq_world.proofs.clients.call.Goals as goal

pub returns-clause-acts : goal.returns-clause-acts
returns-clause-acts c =
    let clients = c.args.clients.now.items in
    let place = c.host.inside.0 in
    let host = c.args.host in
    let here = c.index_mut-client.result.now in
    let op = c.args.op.now in
    let made =
    called-acts host (λ k. Some (client_call k op)) (client_call here.client op) clients here c.call.new.self c.call.result c.args.out.now
    c.call.new.out c.args.log.now c.call.new.log
    (client-at host place clients here c.host.view_is c.requires.there c.index_mut-client.ensures.value) c.requires.empty refl c.call.ensures.spent.0
    c.call.ensures.called in
    subst (λ r. ActsAt host (λ k. Some (client_call k op)) r clients (slice_set clients place c.call.new.self) c.call.new.out.datagrams
    c.args.log.now.entries c.call.new.log.entries) (sym c.called.ensures)
    (subst (λ p. ActsAt host (λ k. Some (client_call k op)) (called c.call.result) clients (slice_set clients p c.call.new.self)
    c.call.new.out.datagrams c.args.log.now.entries c.call.new.log.entries) (sym c.host.view_is) made)
