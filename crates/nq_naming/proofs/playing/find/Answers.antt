use Rattle.std.proofs.Common.{◌≡◌, ◌∙◌, ap, length, sym}
use Rattle.std.proofs.lemmas.List.{length-reverse}
use Rattle.std.proofs.lemmas.Result.{on_ok_weaker}
use Rattle.nq_name_server.specs.Outside.{outside_run}
use Rattle.nq_naming.proofs.Moments.{find-moment}
use Rattle.nq_naming.proofs.playing.find.Goals as goal

pub returns : goal.returns
returns g c =
    on_ok_weaker c.push_find.result
    (λ put head m told is.
    let ran = c.ran.ensures head m.events told is.plays in
    let many : c.len-events.result ≡ length (outside_run head m.events).ran = c.len-events.ensures ∙ sym (length-reverse c.ran.result.now) ∙ ap length ran in
    find-moment head m c.args.world.now told c.args.found.now.items c.push_find.new.text.items c.args.host c.args.name.now c.len-events.result
    c.find-known.result is (c.find-known.ensures.found head m.events told is.plays) many put)
    c.push_find.ensures
