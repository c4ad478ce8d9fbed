use Rattle.std.proofs.Common.{◌≡◌, ◌≤◌, length, sym, ap, subst, arith}
use Rattle.nq_client.proofs.Calls.{ticked}
use Rattle.nq_client.proofs.Outcomes.{begins}
use Rattle.nq_client.specs.State.{client_of}
use Rattle.nq_model.specs.protocol.Client.{ClientStep}
use Rattle.nq_model.specs.protocol.ClientStep.{client_tick}
use Rattle.nq_client.proofs.stepping.make_tick.Goals as goal

pub tick-requires-clause-begun : goal.tick-requires-clause-begun
tick-requires-clause-begun c = begins c.args.step.now c.requires.begun

pub finish-requires-clause-room : goal.finish-requires-clause-room
finish-requires-clause-room c =
    let x = ticked (client_of c.args.step.now.state) c.args.now in
    let few : length (client_tick (client_of c.args.step.now.state) c.args.now).entries ≤ 2 = x.few in
    let e : c.tick.new.self.entries.items ≡ (client_tick (client_of c.args.step.now.state) c.args.now).entries = ap (λ (r : ClientStep). r.entries)
    c.tick.ensures in
    let room : 2 ≤ c.args.log.now.spare = c.requires.supplied.room.entries_told in
    subst (λ es. length es ≤ c.args.log.now.spare) (sym e) (omega arith)
