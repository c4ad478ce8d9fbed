use Rattle.std.proofs.Common.{◌≡◌, refl, sym, subst}
use Rattle.std.specs.Prelude.{IfNone, IfSome}
use Rattle.nq_base.specs.declared.Request.{Request}
use Rattle.nq_model.specs.protocol.Decided.{change_of, change_with, decided, effect_of, if_fresh, sequence_decided}
use Rattle.nq_model.specs.protocol.Kept.{host_row}
use Rattle.nq_keeper.specs.Deciding.{Gives, IsOfSequence, LeavesGiven}
use Rattle.nq_keeper.proofs.Concluding.{gives-as, leaves-as}
use Rattle.nq_keeper.proofs.Sequences.{changes-of}
use Rattle.nq_keeper.proofs.requests.deciding.decide.Goals as goal

pub returns-in-None-clause-gives : goal.returns-in-None-clause-gives
returns-in-None-clause-gives g c =
    let is : c.args.request ≡ Request.Attach c.asked_by-who.result.0 = subst (λ o. IfNone o (c.args.request ≡ Request.Attach c.asked_by-who.result.0))
    c.in-None.is c.asked_by-who.ensures.attach in
    subst (λ r. Gives (λ kept. decided kept c.args.gate r) (λ kept. change_of kept c.args.gate r) c.attach.result
    (g.K.Keeper.content c.args.keeper.now) (g.K.Keeper.content c.attach.new.keeper) (g.K.Keeper.faults c.args.keeper.now)
    (g.K.Keeper.faults c.attach.new.keeper)) (sym is) c.attach.ensures.gives

pub returns-in-None-clause-leaves : goal.returns-in-None-clause-leaves
returns-in-None-clause-leaves g c =
    let is : c.args.request ≡ Request.Attach c.asked_by-who.result.0 = subst (λ o. IfNone o (c.args.request ≡ Request.Attach c.asked_by-who.result.0))
    c.in-None.is c.asked_by-who.ensures.attach in
    subst (λ r. LeavesGiven (λ kept. change_of kept c.args.gate r) (g.K.Keeper.content c.args.keeper.now) (g.K.Keeper.leaves c.args.keeper.now
    c.attach.new.keeper)) (sym is) c.attach.ensures.leaves

pub returns-in-Some-clause-gives : goal.returns-in-Some-clause-gives
returns-in-Some-clause-gives g c =
    let who = c.asked_by-who.result.0 in
    let asked : IsOfSequence who c.in-Some.seq c.args.request = subst (λ o. IfSome o (λ seq. IsOfSequence who seq c.args.request)) c.in-Some.is
    c.asked_by-who.ensures.sequence in
    gives-as (λ kept. sequence_decided who c.in-Some.seq (host_row kept who.host) (effect_of kept c.args.gate c.args.request))
    (λ kept. decided kept c.args.gate c.args.request) (λ kept. if_fresh (sequence_decided who c.in-Some.seq (host_row kept who.host)
    (effect_of kept c.args.gate c.args.request)) (change_with who c.in-Some.seq (effect_of kept c.args.gate c.args.request)))
    (λ kept. change_of kept c.args.gate c.args.request) c.decide_sequence.result (g.K.Keeper.content c.args.keeper.now)
    (g.K.Keeper.content c.args.keeper.now) (g.K.Keeper.content c.decide_sequence.new.keeper) (g.K.Keeper.faults c.args.keeper.now)
    (g.K.Keeper.faults c.args.keeper.now) (g.K.Keeper.faults c.decide_sequence.new.keeper) refl refl
    (λ kept e. sym (asked.decides kept c.args.gate))
    (λ kept e. sym (changes-of kept c.args.gate c.args.request who c.in-Some.seq asked))
    c.decide_sequence.ensures.gives

pub returns-in-Some-clause-leaves : goal.returns-in-Some-clause-leaves
returns-in-Some-clause-leaves g c =
    λ kept e found left.
    let who = c.asked_by-who.result.0 in
    let asked : IsOfSequence who c.in-Some.seq c.args.request = subst (λ o. IfSome o (λ seq. IsOfSequence who seq c.args.request)) c.in-Some.is
    c.asked_by-who.ensures.sequence in
    leaves-as kept found (if_fresh (sequence_decided who c.in-Some.seq (host_row kept who.host) (effect_of kept c.args.gate c.args.request))
    (change_with who c.in-Some.seq (effect_of kept c.args.gate c.args.request))) (change_of kept c.args.gate c.args.request)
    (sym (changes-of kept c.args.gate c.args.request who c.in-Some.seq asked))
    (c.decide_sequence.ensures.leaves kept e found left)
