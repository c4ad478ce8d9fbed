use Rattle.std.proofs.Common.{arith}
use Rattle.nq_storm.proofs.MenuPlaces.{menu-size}
use Rattle.nq_storm.proofs.fates.menus.menu_is_offered.Goals as goal

pub returns : goal.returns
returns c = λ offer number.
    let size = menu-size offer number in
    let whole = offer.whole in
    let calls = offer.calls_behind in
    let crash = offer.crash_behind in
    let restarts = offer.restarts_behind in
    let ticks = offer.ticks_behind in omega arith
