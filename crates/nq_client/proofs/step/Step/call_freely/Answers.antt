use Rattle.std.proofs.Common.{Some, false}
use Rattle.nq_client.proofs.Between.{none, numbers}
use Rattle.nq_client.specs.declared.step.Step.{Step}
use Rattle.nq_client.proofs.step.Step.call_freely.Goals as goal

pub send_next-requires-clause-none : goal.send_next-requires-clause-none
send_next-requires-clause-none c =
    let s = c.args.self.now in
    let called : Step = record s {
      state = record s.state {
        call = Some (record {
          q = s.state.calls;
          call = c.args.call;
          through = false;
          written =
              false;
        });
      };
    } in
    none c.settle.new.self called c.settle.ensures c.requires.tied

pub send_next-requires-clause-numbers : goal.send_next-requires-clause-numbers
send_next-requires-clause-numbers c =
    let s = c.args.self.now in
    let called : Step = record s {
      state = record s.state {
        call = Some (record {
          q = s.state.calls;
          call = c.args.call;
          through = false;
          written =
              false;
        });
      };
    } in
    let left = c.requires.numbers in
    numbers c.settle.new.self called c.settle.ensures (record { time = left.time; seq = left.seq; number = left.number; xid = left.xid })
