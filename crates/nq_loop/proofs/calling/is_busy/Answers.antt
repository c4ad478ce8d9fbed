use Rattle.std.proofs.Common.{◌∙◌, ap, sym}
use Rattle.std.specs.Option.{option_copied}
use Rattle.std.specs.Prelude.{is_some}
use Rattle.nq_loop.proofs.Calls.{busy-at}
use Rattle.nq_model.specs.protocol.World.{run}
use Rattle.nq_loop.proofs.calling.is_busy.Goals as goal

pub returns-in-Some : goal.returns-in-Some
returns-in-Some g c = λ head events plays.
    ap (λ o. is_some (option_copied o)) (sym c.in-Some.is) ∙ busy-at c.args.world.now.clients (run head events).clients c.args.host _
    plays.shown.shows.clients c.requires c.under_way.ensures

pub returns-in-None : goal.returns-in-None
returns-in-None g c = λ head events plays.
    ap (λ o. is_some (option_copied o)) (sym c.in-None.is) ∙ busy-at c.args.world.now.clients (run head events).clients c.args.host _
    plays.shown.shows.clients c.requires c.under_way.ensures
