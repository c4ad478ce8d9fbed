use Rattle.std.proofs.Common.{◌≡◌, ◌+◌, ◌*◌, ◌++◌, ◌<◌, ℕ, List, length, take, drop, ◌∙◌, ap, arith}
use Rattle.std.proofs.lemmas.List.{length-take-le, length-drop, take_rest}
use Rattle.nq_link.proofs.Marks.{datagrams_pushed, Added}
use Rattle.nq_link.specs.declared.net.packets.Mark.{Mark}
use Rattle.nq_link.proofs.net.packets.Packets.push.Goals as goal

pub returns-clause-pushed : goal.returns-clause-pushed
returns-clause-pushed c =
    let run = c.in_bytes-run.result in
    let base : List ℕ = c.self.inside.bytes.items in
    let bytes : List ℕ = c.args.bytes.now in
    let front = take run.at bytes in
    let back = drop (run.at + 4 * run.times) bytes in
    let one : c.extend_from_slice.new.self.items ≡ base ++ front = rw c.unwrap.ensures at c.extend_from_slice.ensures.items in
    let added = rw c.unwrap-2.ensures at c.extend_from_slice-2.ensures.items in
    let two : c.extend_from_slice-2.new.self.items ≡ c.extend_from_slice.new.self.items ++ back = added ∙ ap (λ b. c.extend_from_slice.new.self.items
    ++ b) (take_rest bytes (run.at + 4 * run.times)) in
    let all : c.extend_from_slice-2.new.self.items ≡ (base ++ front) ++ back = two ∙ ap (λ b. b ++ back) one in
    let start : c.len-start.result ≡ length base = omega (arith, c.self.inside.bytes.ok.0, c.len-start.ensures) in
    let middle : c.len-middle.result ≡ length c.extend_from_slice.new.self.items = omega (arith, c.extend_from_slice.new.self.ok.0, c.len-middle.ensures) in
    let end : c.len-end.result ≡ length c.extend_from_slice-2.new.self.items = omega (arith, c.extend_from_slice-2.new.self.ok.0, c.len-end.ensures) in
    let mark : Mark = record {
      sender = c.args.sender;
      to = c.args.to;
      start = c.len-start.result;
      middle = c.len-middle.result;
      end = c.len-end.result;
      word = run.word;
      times = run.times;
    } in
    let within = c.in_bytes-run.ensures.within in
    let long-front = length-take-le run.at bytes (omega (arith, within)) in
    let long-back = length-drop (run.at + 4 * run.times) bytes in
    let size : length c.args.bytes.now < 9223372036854775808 = search arith in
    let is : Added base front back mark = record {
      four = c.in_bytes-run.ensures.four;
      start = start;
      middle = middle ∙ ap length one;
      end = end ∙ ap length all;
      short = omega (arith, long-front, long-back, within, size);
    } in
    rw (c.push.ensures.items, c.unwrap-3.ensures, all, ← c.reserve.ensures.datagrams, ← c.self.view_is) (datagrams_pushed base front back bytes
    c.self.inside.marks.items mark c.self.invariant is c.in_bytes-run.ensures.parts)
