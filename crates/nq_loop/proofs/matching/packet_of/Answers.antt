use Rattle.std.proofs.Common.{◌∙◌, arith, sym}
use Rattle.nq_loop.proofs.Finding.{found-more, is-found, is-fresh, none-more}
use Rattle.nq_link.specs.Packets.{Datagram}
use Rattle.nq_loop.proofs.matching.packet_of.Goals as goal

pub loop-number-init : goal.loop-number-init
loop-number-init c = record { none = λ events marks other below fresh. absurd (omega arith); found = λ other below equals. absurd (omega arith) }

pub loop-number-preserved : goal.loop-number-preserved
loop-number-preserved c =
    let d : Datagram = (record { sender = c.args.letter.now.sender; to = c.args.letter.now.to; bytes = c.args.letter.now.bytes.now }) in
    let off = sym c.is_fresh.ensures ∙ c.if-is_fresh.false in
    record {
      none = λ events marks. none-more c.args.packets.now.datagrams events d c.loop-number.number c.in_ok-same.same c.has-delivered.result off
          c.in_ok-same.ensures (c.has-delivered.ensures events marks) (c.loop-number.invariant.none events marks);
      found = rw c.least_with-least.ensures (found-more c.args.packets.now.datagrams d c.loop-number.number c.in_ok-same.same c.loop-number.least
          c.in_ok-same.ensures c.loop-number.invariant.found);
    }

pub returns-then-is_fresh : goal.returns-then-is_fresh
returns-then-is_fresh c = λ events marks.
    let d : Datagram = (record { sender = c.args.letter.now.sender; to = c.args.letter.now.to; bytes = c.args.letter.now.bytes.now }) in
    let on = sym c.is_fresh.ensures ∙ c.if-is_fresh.true in
    is-fresh c.args.packets.now.datagrams events d c.loop-number.number c.in_ok-same.same c.has-delivered.result on c.in_ok-same.ensures
    (c.has-delivered.ensures events marks) (c.loop-number.invariant.none events marks)

pub returns : goal.returns
returns c = λ events marks. is-found c.args.packets.now.datagrams events _ c.loop-number.number c.loop-number.least
    (omega (arith, c.loop-number-test.false, c.len-number-end.ensures)) (c.loop-number.invariant.none events marks) c.loop-number.invariant.found
