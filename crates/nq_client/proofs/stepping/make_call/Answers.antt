use Rattle.std.proofs.Common.{◌≡◌, ◌≤◌, length, sym, ap, subst, arith}
use Rattle.nq_client.proofs.Calls.{called}
use Rattle.nq_client.proofs.Outcomes.{begins}
use Rattle.nq_client.specs.State.{client_of}
use Rattle.nq_model.specs.protocol.Client.{ClientStep}
use Rattle.nq_model.specs.protocol.ClientStep.{client_call}
use Rattle.nq_client.proofs.stepping.make_call.Goals as goal

pub call-requires-clause-begun : goal.call-requires-clause-begun
call-requires-clause-begun c = begins c.args.step.now c.requires.begun

pub finish-requires-clause-room : goal.finish-requires-clause-room
finish-requires-clause-room c =
    let x = called (client_of c.args.step.now.state) c.args.call in
    let few : length (client_call (client_of c.args.step.now.state) c.args.call).entries ≤ 3 = x.few in
    let e : c.call.new.self.entries.items ≡ (client_call (client_of c.args.step.now.state) c.args.call).entries = ap (λ (r : ClientStep). r.entries)
    c.call.ensures in
    let room : 3 ≤ c.args.log.now.spare = c.requires.supplied.room.entries_told in
    subst (λ es. length es ≤ c.args.log.now.spare) (sym e) (omega arith)
