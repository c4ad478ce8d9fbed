use Rattle.std.proofs.Common.{◌≡◌, ◌≤◌, ◌+◌, ◌^◌, [], ◌∷◌, ◌++◌, Some, refl, sym, subst, ap, ◌∙◌, inl, inr, arith}
use Rattle.std.specs.Prelude.{slice_get, slice_set}
use Rattle.nq_base.specs.declared.Entry.{Entry}
use Rattle.nq_model.specs.protocol.ClientStep.{next_incarnation, restart}
use Rattle.nq_world.proofs.Acted.{restart-acts, client-at, put-same, spent-at}
use Rattle.nq_world.specs.Counting.{IsLastTime}
use Rattle.nq_world.specs.Moving.{Moves, step_at}
use Rattle.nq_world.proofs.clients.restart.Goals as goal

pub returns-in_default-clause-acts : goal.returns-in_default-clause-acts
returns-in_default-clause-acts c =
    let clients = c.args.clients.now.items in
    let place = c.host.inside.0 in
    let host = c.args.host in
    let here = c.index_mut-client.result.now in
    let at = client-at host place clients here c.host.view_is c.requires.there c.index_mut-client.ensures.value in
    let late : 2 ^ 62 ≤ c.time.result = c.in_default.ensures.late refl in
    let last : IsLastTime here.client.now = omega (arith, late, c.time.ensures) in
    (put-same clients place here c.index_mut-client.ensures.value, c.in_ok-reserve.ensures.entries, spent-at host clients here at (inr (inl last)))

pub returns-in_default-next_incarnation-clause-acts : goal.returns-in_default-next_incarnation-clause-acts
returns-in_default-next_incarnation-clause-acts c =
    let clients = c.args.clients.now.items in
    let place = c.host.inside.0 in
    let host = c.args.host in
    let here = c.index_mut-client.result.now in
    let at = client-at host place clients here c.host.view_is c.requires.there c.index_mut-client.ensures.value in
    let last : 2 ^ 32 ≤ here.client.who.inc + 1 = subst (λ w. 2 ^ 32 ≤ w.inc + 1) c.who.ensures (c.in_default-next_incarnation.ensures.none refl) in
    (put-same clients place here c.index_mut-client.ensures.value, c.in_ok-reserve.ensures.entries, spent-at host clients here at (inr (inr last)))

pub returns-in-Ok-clause-acts : goal.returns-in-Ok-clause-acts
returns-in-Ok-clause-acts c =
    let clients = c.args.clients.now.items in
    let place = c.host.inside.0 in
    let host = c.args.host in
    let here = c.index_mut-client.result.now in
    let who = c.in-Some-next_incarnation.who in
    let told : c.push.new.self.entries ≡ c.reserve.new.self.entries ++ Entry.B who ∷ [] = rw c.unwrap.ensures at c.push.ensures.ok in
    let made =
    restart-acts host clients here c.replace.new.dest who c.term.result c.in-Some.time c.args.out.now c.start.new.out c.args.log.now c.push.new.self
    (client-at host place clients here c.host.view_is c.requires.there c.index_mut-client.ensures.value) c.requires.empty
    (c.in-Some-next_incarnation.ensures.some ∙ ap next_incarnation c.who.ensures) c.term.ensures (c.in-Some.ensures.same ∙ c.time.ensures)
    (ap (λ x. x.client) c.replace.ensures.after ∙ c.in-Ok.ensures.client) (ap (λ x. x.taken) c.replace.ensures.after ∙ c.in-Ok.ensures.taken)
    c.in-Ok.ensures.first c.in-Ok.ensures.sent c.in-Ok.ensures.fit
    (told ∙ ap (λ es. es ++ Entry.B who ∷ []) c.in_ok-reserve.ensures.entries) in
    subst (λ p. Moves host (step_at (λ k. Some (restart k)) (slice_get clients host)) clients (slice_set clients p c.replace.new.dest)
    c.start.new.out.datagrams c.args.log.now.entries c.push.new.self.entries) (sym c.host.view_is) made
