use Rattle.std.proofs.Common.{◌∙◌, Some, ap}
use Rattle.std.specs.Prelude.{slice_get}
use Rattle.nq_staged.proofs.TakenIn.{offer-none, offer-put}
use Rattle.nq_staged.specs.Around.{AroundOver, offers_at, once_sent}
use Rattle.nq_staged.proofs.commit.around.Around.offer.Goals as goal

pub returns-in-Some-clause-offers : goal.returns-in-Some-clause-offers
returns-in-Some-clause-offers c = λ w ran c' d p.
    offer-put w ran c.args.self.now c.put_packet.new.self c.args.host c' c.args.dirty.now.dirty c.args.dirty.now.push c.in_ok-stage.stage c.in-Some.stage
    c.offer_at.new.sides.items c.stage_from.result c.requires d p
    (c.in_ok-stage.ensures.offers ∙ ap (λ (a : AroundOver). offers_at a.sides c.args.host c.args.dirty.now.dirty c.args.dirty.now.push
    (slice_get a.sides c.args.host)) c.self.view_is)
    c.in-Some.is c.stage_from.ensures
    (c.put_packet.ensures ∙ ap (λ (a : AroundOver). record a { sides = c.offer_at.new.sides.items; due = Some c.stage_from.result }) c.self.view_is)

pub returns-in-None-clause-offers : goal.returns-in-None-clause-offers
returns-in-None-clause-offers c = λ w ran c' d p.
    ap (λ (a : AroundOver). once_sent w ran (record a { sides = c.offer_at.new.sides.items })) c.self.view_is
    ∙ offer-none w ran c.args.self.now c.args.host c' c.args.dirty.now.dirty c.args.dirty.now.push c.in_ok-stage.stage c.offer_at.new.sides.items
    c.requires d p
    (c.in_ok-stage.ensures.offers ∙ ap (λ (a : AroundOver). offers_at a.sides c.args.host c.args.dirty.now.dirty c.args.dirty.now.push
    (slice_get a.sides c.args.host)) c.self.view_is)
    c.in-None.is
