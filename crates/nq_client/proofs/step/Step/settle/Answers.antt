use Rattle.std.proofs.Common.{◌≡◌, ℕ, false, List, Some, refl, sym, ap, ◌∙◌}
use Rattle.std.specs.Option.{option_map}
use Rattle.nq_base.specs.declared.Call.{Call}
use Rattle.nq_client.proofs.InPlace.{called-body, put-in-place, settled-as, settled-own, settled-read, write-in-place}
use Rattle.nq_client.specs.Settling.{settles_put, settles_write}
use Rattle.nq_client.specs.State.{under_way}
use Rattle.nq_client.specs.Step.{step_of}
use Rattle.nq_model.specs.protocol.Client.{lease_on}
use Rattle.nq_client.proofs.step.Step.settle.Goals as goal

pub returns-then-is_for_call : goal.returns-then-is_for_call
returns-then-is_for_call c = settled-own (step_of c.args.self.now) (sym c.is_for_call.ensures ∙ c.if-is_for_call.true)

pub returns-in-Read : goal.returns-in-Read
returns-in-Read c =
    c.settle_read.ensures
    ∙ settled-read (step_of c.args.self.now) c.args.self.now.state.call c.in-Some.u c.in-Read.file c.in-Read.block refl c.in-Some.is c.in-Read.is
    (sym c.is_for_call.ensures ∙ c.if-is_for_call.false)

pub returns-in-Write : goal.returns-in-Write
returns-in-Write c =
    let t = step_of c.args.self.now in
    let u = under_way c.in-Some.u in
    let e : t.client.call ≡ Some u = ap (option_map under_way) c.in-Some.is in
    c.settle_write.ensures
    ∙ ap (λ (b : List ℕ). settles_write t u.q u.through false c.in-Write.file c.in-Write.block b (lease_on c.in-Write.file t.client.leases))
    (called-body t u (Call.Write c.in-Write.file c.in-Write.block c.in-Write.body) e c.in-Write.is)
    ∙ write-in-place t u false c.in-Write.file c.in-Write.block c.in-Write.body (lease_on c.in-Write.file t.client.leases) e
    ∙ settled-as t c.args.self.now.state.call c.in-Some.u (Call.Write c.in-Write.file c.in-Write.block c.in-Write.body) refl c.in-Some.is
    c.in-Write.is (sym c.is_for_call.ensures ∙ c.if-is_for_call.false)

pub returns-in-Put : goal.returns-in-Put
returns-in-Put c =
    let t = step_of c.args.self.now in
    let u = under_way c.in-Some.u in
    let e : t.client.call ≡ Some u = ap (option_map under_way) c.in-Some.is in
    c.settle_put.ensures
    ∙ ap (λ (b : List ℕ). settles_put t u.q u.written u.through c.in-Put.file c.in-Put.block b)
    (called-body t u (Call.Put c.in-Put.file c.in-Put.block c.in-Put.body) e c.in-Put.is)
    ∙ put-in-place t u c.in-Put.file c.in-Put.block c.in-Put.body e
    ∙ settled-as t c.args.self.now.state.call c.in-Some.u (Call.Put c.in-Put.file c.in-Put.block c.in-Put.body) refl
    c.in-Some.is c.in-Put.is (sym c.is_for_call.ensures ∙ c.if-is_for_call.false)
