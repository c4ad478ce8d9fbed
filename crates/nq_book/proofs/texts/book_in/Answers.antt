use Rattle.std.proofs.Common.{arith}
use Rattle.nq_book.proofs.More.{ends_here, goes_on, shorter, stops_here, stops_last, stops_on}
use Rattle.nq_book.proofs.texts.book_in.Goals as goal

pub returns-in-Err : goal.returns-in-Err
returns-in-Err c =
    let known = c.loop-line.invariant in
    known.stops _ (stops_here c.loop-line.book c.take_line.new.book c.loop-line.number c.loop-line.rest.now c.in-Some.line.now c.in-Some.after.now
    c.in-Err.why c.in-Some.ensures known.bound c.in-Err.ensures)

pub loop-line-smaller : goal.loop-line-smaller
loop-line-smaller c = shorter c.loop-line.rest.now c.in-Some.line.now c.in-Some.after.now c.in-Some.ensures

pub loop-line-preserved : goal.loop-line-preserved
loop-line-preserved c =
    let known = c.loop-line.invariant in
    let counts = c.saturating_add-number.ensures in
    record {
      reads =
          λ end on. known.reads end
          (goes_on c.loop-line.book c.take_line.new.book c.loop-line.rest.now c.in-Some.line.now c.in-Some.after.now c.in-Some.ensures
          c.in_default-take_line.ensures end on);
      stops =
          λ bad on. known.stops bad
          (stops_on c.loop-line.book c.take_line.new.book c.loop-line.number _ c.loop-line.rest.now c.in-Some.line.now c.in-Some.after.now
          c.in-Some.ensures c.in_default-take_line.ensures (omega (arith, counts)) bad on);
      bound = omega (arith, counts);
    }

pub returns-in-Ok : goal.returns-in-Ok
returns-in-Ok c =
    c.loop-line.invariant.reads _ (ends_here c.loop-line.book c.take_line-2.new.book c.loop-line.rest.now c.in_default.ensures c.in-Ok.ensures)

pub returns-in-Err-take_line : goal.returns-in-Err-take_line
returns-in-Err-take_line c =
    let known = c.loop-line.invariant in
    known.stops _ (stops_last c.loop-line.book c.take_line-2.new.book c.loop-line.number c.loop-line.rest.now c.in-Err-take_line.why
    c.in_default.ensures known.bound c.in-Err-take_line.ensures)
