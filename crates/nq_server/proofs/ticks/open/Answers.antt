use Rattle.std.proofs.Common.{◌≡◌, ◌∙◌, ap}
use Rattle.nq_keeper.specs.Booting.{ended_at}
use Rattle.nq_keeper.proofs.Leaving.{two-of}
use Rattle.nq_server.proofs.Ticked.{or-as}
use Rattle.nq_server.proofs.ticks.open.Goals as goal

pub returns-in-Opened-clause-leaves : goal.returns-in-Opened-clause-leaves
returns-in-Opened-clause-leaves g c =
    λ r is kept told found left.
    let taken = c.take.ensures.value in
    let held = c.unwrap-held.ensures in
    let same : c.unwrap-held.result ≡ r = cc in
    two-of found kept (ended_at r c.args.now kept) _ _ (g.met.K.Keeper.parts _ c.heads.new.self _ found c.heads.ensures.follows
    c.finish.ensures.follows left) (c.heads.ensures.leaves kept told found)
    (λ stopped. or-as found kept _ _ (ap (λ x. ended_at x c.args.now kept) same) (c.finish.ensures.leaves kept (c.in_ok-heads.ensures.reads.0 ∙ told)
    found stopped))

pub returns-in-Wait-clause-leaves : goal.returns-in-Wait-clause-leaves
returns-in-Wait-clause-leaves g c =
    λ r is kept told found left.
    let taken = c.take.ensures.value in
    let held = c.unwrap-held.ensures in
    let same : c.unwrap-held.result ≡ r = cc in
    two-of found kept (ended_at r c.args.now kept) _ _ (g.met.K.Keeper.parts _ c.heads.new.self _ found c.heads.ensures.follows
    c.finish.ensures.follows left) (c.heads.ensures.leaves kept told found)
    (λ stopped. or-as found kept _ _ (ap (λ x. ended_at x c.args.now kept) same) (c.finish.ensures.leaves kept (c.in_ok-heads.ensures.reads.0 ∙ told)
    found stopped))

pub returns-in-Fault-clause-leaves : goal.returns-in-Fault-clause-leaves
returns-in-Fault-clause-leaves g c =
    λ r is kept told found left.
    let taken = c.take.ensures.value in
    let held = c.unwrap-held.ensures in
    let same : c.unwrap-held.result ≡ r = cc in
    two-of found kept (ended_at r c.args.now kept) _ _ (g.met.K.Keeper.parts _ c.heads.new.self _ found c.heads.ensures.follows
    c.finish.ensures.follows left) (c.heads.ensures.leaves kept told found)
    (λ stopped. or-as found kept _ _ (ap (λ x. ended_at x c.args.now kept) same) (c.finish.ensures.leaves kept (c.in_ok-heads.ensures.reads.0 ∙ told)
    found stopped))

pub returns-in-Memory-clause-leaves : goal.returns-in-Memory-clause-leaves
returns-in-Memory-clause-leaves g c =
    λ r is kept told found left.
    let taken = c.take.ensures.value in
    let held = c.unwrap-held.ensures in
    let same : c.unwrap-held.result ≡ r = cc in
    two-of found kept (ended_at r c.args.now kept) _ _ (g.met.K.Keeper.parts _ c.heads.new.self _ found c.heads.ensures.follows
    c.finish.ensures.follows left) (c.heads.ensures.leaves kept told found)
    (λ stopped. or-as found kept _ _ (ap (λ x. ended_at x c.args.now kept) same) (c.finish.ensures.leaves kept (c.in_ok-heads.ensures.reads.0 ∙ told)
    found stopped))

pub returns-in-Opened-clause-follows : goal.returns-in-Opened-clause-follows
returns-in-Opened-clause-follows g c = g.met.K.Keeper.follows_on _ c.heads.new.self _ c.heads.ensures.follows c.finish.ensures.follows

pub returns-in-Wait-clause-follows : goal.returns-in-Wait-clause-follows
returns-in-Wait-clause-follows g c = g.met.K.Keeper.follows_on _ c.heads.new.self _ c.heads.ensures.follows c.finish.ensures.follows

pub returns-in-Fault-clause-follows : goal.returns-in-Fault-clause-follows
returns-in-Fault-clause-follows g c = g.met.K.Keeper.follows_on _ c.heads.new.self _ c.heads.ensures.follows c.finish.ensures.follows

pub returns-in-Memory-clause-follows : goal.returns-in-Memory-clause-follows
returns-in-Memory-clause-follows g c = g.met.K.Keeper.follows_on _ c.heads.new.self _ c.heads.ensures.follows c.finish.ensures.follows
