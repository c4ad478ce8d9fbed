use Rattle.std.proofs.Common.{◌≡◌, length, ap, subst, ◌∙◌, arith}
use Rattle.nq_model.specs.protocol.Decided.{later_aside}
use Rattle.nq_server.proofs.DecidedSteps.{sends-grow, sends-through, taken-back}
use Rattle.nq_server.proofs.LeasedSteps.{some-kept}
use Rattle.nq_server.specs.State.{beside_of, phase_of, server_of}
use Rattle.nq_server.specs.Stepping.{Sends}
use Rattle.nq_server.proofs.deciding.prepare.Goals as goal

pub cut-requires : goal.cut-requires
cut-requires c =
    let grown = sends-grow _ c.args.out.now c.warn.new.out (c.in_ok-warn.ensures.told some-kept) in
    let same : length c.make_room.new.out.datagrams ≡ length c.warn.new.out.datagrams = ap length c.in-Err.ensures.refused.datagrams in
    let own = c.len-len.ensures in
    omega arith

pub returns-in-Ok-clause-ready : goal.returns-in-Ok-clause-ready
returns-in-Ok-clause-ready c =
    let grown = sends-grow _ c.args.out.now c.warn.new.out (c.in_ok-warn.ensures.told some-kept) in
    let same : length c.make_room.new.out.datagrams ≡ length c.warn.new.out.datagrams = ap length c.in-Ok.ensures.room.nothing.datagrams in
    let own = c.len-len.ensures in
    record {
      before = c.len-len.ensures;
      within = omega arith;
      number = c.in-Ok.ensures.begun.0;
      room = c.in-Ok.ensures.begun.1;
      datagram = c.in-Ok.ensures.room.datagram;
      line = c.in-Ok.ensures.room.lines;
      entries = c.in-Ok.ensures.room.nothing.entries;
    }

pub returns-in-Ok-clause-warns : goal.returns-in-Ok-clause-warns
returns-in-Ok-clause-warns c =
    λ kept.
    let aside = later_aside (server_of (beside_of c.args.state.now) kept) (phase_of c.args.state.now.phase) c.args.caller.who in
    record {
      told = subst
          (λ file. Sends (aside file).sends c.args.out.now c.make_room.new.out)
          c.file_to_change-file.ensures
          (sends-through (aside c.file_to_change-file.result).sends c.args.out.now c.warn.new.out c.make_room.new.out c.args.log.now
          c.make_room.new.log (c.in_ok-warn.ensures.told kept) c.in-Ok.ensures.room.nothing);
      counted = c.in_ok-warn.ensures.counted kept ∙ ap (λ file. (aside file).notice) c.file_to_change-file.ensures;
    }

pub returns-in-Err-clause-refused : goal.returns-in-Err-clause-refused
returns-in-Err-clause-refused c =
    taken-back _ c.args.out.now c.warn.new.out c.make_room.new.out c.cut.new.self c.len-len.result c.args.log.now c.args.log.now c.make_room.new.log
    c.len-len.ensures (c.in_ok-warn.ensures.told some-kept) c.in-Err.ensures.refused c.cut.ensures.first c.cut.ensures.kept
