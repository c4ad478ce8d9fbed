use Rattle.std.proofs.Common.{◌-◌, ◌∙◌, Some, ap, refl, sym, arith}
use Rattle.nq_base.specs.declared.Event.{Event}
use Rattle.nq_storm.proofs.MenuPlaces.{delivery-at, tick-at, restart-at, crash-at, call-at}
use Rattle.nq_storm.proofs.fates.menus.event_at.Goals as goal

pub returns-then-place-offer : goal.returns-then-place-offer
returns-then-place-offer c =
    let ticks = c.args.offer.now.ticks_behind in
    record {
      here = delivery-at c.args.offer.now c.args.number c.args.place (omega arith) ∙ ap (λ k. Some (Event.Deliver k)) (sym c.from.ensures);
      stormy = tt;
    }

pub returns-then-place-offer-2 : goal.returns-then-place-offer-2
returns-then-place-offer-2 c =
    let ticks = c.args.offer.now.ticks_behind in
    let restarts = c.args.offer.now.restarts_behind in
    record {
      here = tick-at c.args.offer.now c.args.number (c.args.place - c.args.offer.now.ticks_at) c.args.place c.tick_at.result (omega arith) (omega arith)
          c.tick_at.ensures.here;
      stormy = c.tick_at.ensures.stormy;
    }

pub returns-then-place-offer-3 : goal.returns-then-place-offer-3
returns-then-place-offer-3 c =
    let ticks = c.args.offer.now.ticks_behind in
    let restarts = c.args.offer.now.restarts_behind in
    let crash = c.args.offer.now.crash_behind in
    record {
      here = restart-at c.args.offer.now c.args.number (c.args.place - c.args.offer.now.restarts_at) c.args.place (omega arith) (omega arith);
      stormy = omega arith;
    }

pub returns-then-place-offer-4 : goal.returns-then-place-offer-4
returns-then-place-offer-4 c =
    let ticks = c.args.offer.now.ticks_behind in
    let restarts = c.args.offer.now.restarts_behind in
    let crash = c.args.offer.now.crash_behind in
    let calls = c.args.offer.now.calls_behind in
    record {
      here = crash-at c.args.offer.now c.args.number c.args.place (omega arith);
      stormy = refl;
    }

pub returns : goal.returns
returns c =
    let ticks = c.args.offer.now.ticks_behind in
    let restarts = c.args.offer.now.restarts_behind in
    let crash = c.args.offer.now.crash_behind in
    let calls = c.args.offer.now.calls_behind in
    let whole = c.args.offer.now.whole in
    record {
      here = call-at c.args.offer.now c.args.number (c.args.place - c.args.offer.now.calls_at) c.args.place (omega arith) (omega arith)
          ∙ ap Some (sym c.host_call.ensures.here);
      stormy = c.host_call.ensures.stormy;
    }
