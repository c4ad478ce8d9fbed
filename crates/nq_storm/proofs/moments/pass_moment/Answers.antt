use Rattle.std.proofs.Common.{◌≡◌, ◌≤◌, ◌∙◌, ◌∷◌, [], ap, arith, length, length-append, refl, subst, sym}
use Rattle.std.proofs.lemmas.List.{length-reverse}
use Rattle.std.specs.Prelude.{reverse}
use Rattle.nq_replay.proofs.Limits.{reached_at}
use Rattle.nq_replay.proofs.Steps.{as-many}
use Rattle.nq_replay.specs.Going.{IsAt}
use Rattle.nq_storm.proofs.Choosing.{is_chosen}
use Rattle.nq_storm.proofs.Passing.{all_behind, gives_not, passed}
use Rattle.nq_storm.specs.Ending.{Gives}
use Rattle.nq_storm.proofs.moments.pass_moment.Goals as goal

pub returns-clause-passes : goal.returns-clause-passes
returns-clause-passes g c = λ done head start first word here.
    let before = c.args.ran.now in
    let count = length-reverse before ∙ c.requires.many in
    let at : IsAt head (reverse before) c.args.world.now (g.K.Keeper.content c.args.world.now.server.keeper) c.reach.new.self =
    record { plays = here.at.plays; marks = c.reach.ensures.same (reverse before) here.at.marks } in
    let sent : c.len-sent.result ≡ length c.args.world.now.datagrams = c.len-sent.ensures ∙ ap length c.packets.ensures in
    let flagged : c.len-sent.result ≤ length c.reach.new.self = c.in-Ok.ensures.reached in
    let room : length c.args.world.now.datagrams ≤ length c.reach.new.self = omega arith in
    let chosen = is_chosen head start (reverse before) c.args.earlier c.args.word c.offer_of-offer.result _ _ c.choose_event-event.result word count
    (c.offer_of-offer.ensures.offers head (reverse before) at) c.choose_event-event.ensures.chosen in
    let gives = c.give.ensures.gives head (reverse before) (rw c.offer_of-offer.ensures.same at) (rw c.offer_of-offer.ensures.same room) in
    passed head start first before c.give.new.ran c.choose_event-event.result _ _ c.args.world.now c.give.new.world _ _ _ _ here chosen
    (subst (λ ended. Gives ended head (reverse before) c.choose_event-event.result c.give.new.world
    (g.K.Keeper.content c.give.new.world.server.keeper) c.give.new.delivered) done gives) (c.give.ensures.kept done)

pub returns-clause-halts : goal.returns-clause-halts
returns-clause-halts g c = λ other head events count at.
    let here : IsAt head events c.args.world.now (g.K.Keeper.content c.args.world.now.server.keeper) c.reach.new.self = record {
      plays = at.plays;
      marks = c.reach.ensures.same events at.marks;
    } in
    let sent : c.len-sent.result ≡ length c.args.world.now.datagrams = c.len-sent.ensures ∙ ap length c.packets.ensures in
    let flagged : c.len-sent.result ≤ length c.reach.new.self = c.in-Ok.ensures.reached in
    let room : length c.args.world.now.datagrams ≤ length c.reach.new.self = omega arith in
    gives_not c.give.result head events c.choose_event-event.result c.give.new.world _ _ other
    (c.give.ensures.gives head events (rw c.offer_of-offer.ensures.same here) (rw c.offer_of-offer.ensures.same room))

pub returns-clause-more : goal.returns-clause-more
returns-clause-more g c = λ done.
    let one = length-append c.args.ran.now (c.choose_event-event.result ∷ []) in
    let many = ap length (c.give.ensures.kept done) in
    let before = c.requires.many in
    omega arith

pub returns-clause-stormy : goal.returns-clause-stormy
returns-clause-stormy g c = λ all.
    all_behind c.give.result c.args.ran.now c.give.new.ran c.choose_event-event.result c.give.ensures.kept c.give.ensures.same
    c.choose_event-event.ensures.stormy all

pub returns-in-Some-clause-halts : goal.returns-in-Some-clause-halts
returns-in-Some-clause-halts g c = λ other head events count at.
    let sent = c.len-sent.ensures ∙ ap length c.packets.ensures ∙ as-many head events c.args.world.now _ at.plays in
    (reached_at c.in-Some.limit c.args.earlier c.len-sent.result (length events) _ (sym count) sent c.in-Some.ensures.some, at.plays)

pub returns-in-Some-clause-keeps : goal.returns-in-Some-clause-keeps
returns-in-Some-clause-keeps g c = record {
  counts = refl;
  keeper = g.met.K.Keeper.follows_itself c.args.world.now.server.keeper;
  settings =
      c.requires.settings;
}

pub returns-in_default-reach-clause-keeps : goal.returns-in_default-reach-clause-keeps
returns-in_default-reach-clause-keeps g c = record {
  counts = refl;
  keeper = g.met.K.Keeper.follows_itself c.args.world.now.server.keeper;
  settings =
      c.requires.settings;
}
