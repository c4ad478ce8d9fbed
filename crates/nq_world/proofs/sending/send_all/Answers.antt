use Rattle.std.proofs.Common.{◌≡◌, ◌≤◌, ◌<◌, ◌+◌, ◌∷◌, [], ◌++◌, suc, length, drop, sym, subst, add-one, arith}
use Rattle.std.specs.Option.{IfSome}
use Rattle.nq_world.specs.Sending.{bytes_together}
use Rattle.nq_world.specs.Shown.{sent_from}
use Rattle.nq_world.proofs.Outboxes.{there, appended-more, sum-drop-more}
use Rattle.nq_world.proofs.sending.send_all.Goals as goal

pub send_one-requires-clause-room_bytes : goal.send_one-requires-clause-room_bytes
send_one-requires-clause-room_bytes c =
    let all = c.args.out.now.datagrams in
    let place = c.loop-place.place in
    let below : place < length all = omega (arith, c.loop-place-test.true, c.len-place-end.ensures) in
    let t = there all place below in
    let rest : bytes_together (drop place all) ≡ length t.element.1 + bytes_together (drop (suc place) all) = sum-drop-more _ all place t.element t.is in
    let room : bytes_together (drop place all) ≤ c.loop-place.packets.spare_bytes = c.loop-place.invariant.2 in
    subst (λ o. IfSome o (λ d. length d.1 ≤ c.loop-place.packets.spare_bytes)) (sym t.is) (omega arith)

pub loop-place-preserved : goal.loop-place-preserved
loop-place-preserved c =
    let all = c.args.out.now.datagrams in
    let place = c.loop-place.place in
    let below : place < length all = omega (arith, c.loop-place-test.true, c.len-place-end.ensures) in
    let t = there all place below in
    let one : c.send_one.new.packets.datagrams ≡ c.loop-place.packets.datagrams ++ sent_from c.args.sender t.element ∷ [] =
    subst (λ o. IfSome o (λ d. c.send_one.new.packets.datagrams ≡ c.loop-place.packets.datagrams ++ sent_from c.args.sender d ∷ [])) t.is
    c.send_one.ensures.sent in
    let less : c.loop-place.packets.spare_bytes ≤ c.send_one.new.packets.spare_bytes + length t.element.1 =
    subst (λ o. IfSome o (λ d. c.loop-place.packets.spare_bytes ≤ c.send_one.new.packets.spare_bytes + length d.1)) t.is c.send_one.ensures.spare_bytes in
    let rest : bytes_together (drop place all) ≡ length t.element.1 + bytes_together (drop (suc place) all) = sum-drop-more _ all place t.element t.is in
    let room : bytes_together (drop place all) ≤ c.loop-place.packets.spare_bytes = c.loop-place.invariant.2 in
    let few : length all ≤ c.loop-place.packets.spare + place = c.loop-place.invariant.1 in
    let spare = c.send_one.ensures.spare in
    rw add-one (
      appended-more (sent_from c.args.sender) all place t.element c.args.packets.now.datagrams c.loop-place.packets.datagrams
          c.send_one.new.packets.datagrams t.is c.loop-place.invariant.0 one,
      omega arith,
      omega arith,
    )
