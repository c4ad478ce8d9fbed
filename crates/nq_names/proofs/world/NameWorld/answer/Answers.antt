use Rattle.std.proofs.Common.{◌≡◌, ◌∙◌, ap, refl, sym}
use Rattle.std.proofs.lemmas.Bool.{iff_false}
use Rattle.nq_model.specs.protocol.Server.{serving}
use Rattle.nq_names.proofs.Taking.{answered-page, put-off}
use Rattle.nq_names.specs.Playing.{NamesOver}
use Rattle.nq_names.proofs.world.NameWorld.answer.Goals as goal

pub returns-in_ok-give_page-clause-takes : goal.returns-in_ok-give_page-clause-takes
returns-in_ok-give_page-clause-takes g c = λ head plays.
    let reads = c.in_ok-leaf.ensures.reads in
    let gives = c.in_ok-give_page.ensures.gives in
    let phase : c.args.self.now.inner.server.beside.phase ≡ serving = ap (λ (w : NamesOver _). w.inner.server.beside.phase) (sym c.self.view_is)
    ∙ c.serving.ensures.0 c.if-serving.true in
    answered-page head c.args.self.now c.leaf.new.self c.give_page.new.self (g.K.Keeper.content c.args.self.now.inner.server.keeper)
    (g.K.Keeper.content c.give_page.new.self.inner.server.keeper) c.args.request.now _ plays phase reads.0
    (ap (λ (w : NamesOver _). g.K.Keeper.content w.inner.server.keeper) gives ∙ reads.1.0)
    c.in_ok-leaf.ensures.told gives

pub returns-in_ok-put_off-clause-takes : goal.returns-in_ok-put_off-clause-takes
returns-in_ok-put_off-clause-takes g c = λ head plays.
    let plays' = rw (← c.self.view_is) at plays in
    let i = c.self.inside in
    let old : NamesOver _ = record { inner = i.world; around = i.around; ran = i.ran; events = i.events } in
    rw (← c.self.view_is) (put-off head old (record old { around = c.put_off.new.self }) _ c.args.request.now plays' (iff_false c.serving.ensures
    c.if-serving.false) refl refl c.in_ok-put_off.ensures.puts)
