use Rattle.std.proofs.Common.{◌≡◌, ◌+◌, Some, refl, sym, subst, ap, ◌∙◌, inl, inr}
use Rattle.std.specs.Prelude.{slice_set}
use Rattle.nq_model.specs.protocol.ClientStep.{client_tick}
use Rattle.nq_world.proofs.Acted.{heeded-acts, client-at, put-same, spent-at}
use Rattle.nq_world.specs.Counting.{IsLastTime}
use Rattle.nq_world.specs.Moving.{ActsAt, heeded}
use Rattle.nq_world.proofs.clients.tick.Goals as goal

pub returns-in_default-clause-acts : goal.returns-in_default-clause-acts
returns-in_default-clause-acts c =
    let clients = c.args.clients.now.items in
    let place = c.host.inside.0 in
    let host = c.args.host in
    let here = c.index_mut-client.result.now in
    let at = client-at host place clients here c.host.view_is c.requires.there c.index_mut-client.ensures.value in
    let late : IsLastTime here.client.now = subst IsLastTime c.time.ensures (c.in_default.ensures.late refl) in
    (put-same clients place here c.index_mut-client.ensures.value, refl, spent-at host clients here at (inr (inl late)))

pub returns-in-Ok-clause-acts : goal.returns-in-Ok-clause-acts
returns-in-Ok-clause-acts c =
    let clients = c.args.clients.now.items in
    let place = c.host.inside.0 in
    let host = c.args.host in
    let here = c.index_mut-client.result.now in
    let time = c.in-Some.time in
    let later : time ≡ here.client.now + 1 = c.in-Some.ensures.next ∙ ap (λ n. n + 1) c.time.ensures in
    let made =
    heeded-acts host (λ k. Some (client_tick k (k.now + 1))) (client_tick here.client time) clients here c.tick.new.self c.tick.result c.args.out.now
    c.tick.new.out c.args.log.now c.tick.new.log
    (client-at host place clients here c.host.view_is c.requires.there c.index_mut-client.ensures.value) c.requires.empty
    (ap (λ n. Some (client_tick here.client n)) (sym later)) c.tick.ensures.spent.0 c.tick.ensures.heeded in
    subst (λ r. ActsAt host (λ k. Some (client_tick k (k.now + 1))) r clients (slice_set clients place c.tick.new.self) c.tick.new.out.datagrams
    c.args.log.now.entries c.tick.new.log.entries) (sym c.in-Ok.ensures)
    (subst (λ p. ActsAt host (λ k. Some (client_tick k (k.now + 1))) (heeded c.tick.result) clients (slice_set clients p c.tick.new.self)
    c.tick.new.out.datagrams c.args.log.now.entries c.tick.new.log.entries) (sym c.host.view_is) made)

pub returns-clause-acts : goal.returns-clause-acts
returns-clause-acts c =
    let clients = c.args.clients.now.items in
    let place = c.host.inside.0 in
    let host = c.args.host in
    let here = c.index_mut-client.result.now in
    let time = c.in-Some.time in
    let later : time ≡ here.client.now + 1 = c.in-Some.ensures.next ∙ ap (λ n. n + 1) c.time.ensures in
    let made =
    heeded-acts host (λ k. Some (client_tick k (k.now + 1))) (client_tick here.client time) clients here c.tick.new.self c.tick.result c.args.out.now
    c.tick.new.out c.args.log.now c.tick.new.log
    (client-at host place clients here c.host.view_is c.requires.there c.index_mut-client.ensures.value) c.requires.empty
    (ap (λ n. Some (client_tick here.client n)) (sym later)) c.tick.ensures.spent.0 c.tick.ensures.heeded in
    subst (λ r. ActsAt host (λ k. Some (client_tick k (k.now + 1))) r clients (slice_set clients place c.tick.new.self) c.tick.new.out.datagrams
    c.args.log.now.entries c.tick.new.log.entries) (sym c.in-Err.ensures)
    (subst (λ p. ActsAt host (λ k. Some (client_tick k (k.now + 1))) (heeded c.tick.result) clients (slice_set clients p c.tick.new.self)
    c.tick.new.out.datagrams c.args.log.now.entries c.tick.new.log.entries) (sym c.host.view_is) made)
