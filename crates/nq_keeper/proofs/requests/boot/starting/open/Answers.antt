use Rattle.std.proofs.Common.{sym, ◌∙◌, inl}
use Rattle.nq_keeper.proofs.Leaving.{two-of}
use Rattle.nq_model.specs.protocol.Change.{applied, change_of_heads}
use Rattle.nq_keeper.specs.Booting.{opened_by}
use Rattle.nq_keeper.proofs.HeadsChange.{heads_opened, opened-heads-within, kept-opened, opens-heads, leaves-booted}
use Rattle.nq_keeper.proofs.requests.boot.starting.open.Goals as goal

pub keep_heads-requires : goal.keep_heads-requires
keep_heads-requires g c =
    λ kept told.
    opened-heads-within kept c.args.longest c.in_ok-heads.heads (g.met.K.Keeper.within c.heads.new.self kept told) c.requires
    (c.in_ok-heads.ensures.told kept (sym c.in_ok-heads.ensures.reads.0 ∙ told))

pub returns-clause-opens : goal.returns-clause-opens
returns-clause-opens g c =
    opens-heads c.args.longest c.in_ok-heads.heads c.keep_heads.result (g.K.Keeper.content c.args.keeper.now) (g.K.Keeper.content c.heads.new.self)
    (g.K.Keeper.content c.keep_heads.new.keeper) _ _ _ c.in_ok-heads.ensures.reads.0 c.in_ok-heads.ensures.reads.1 c.in_ok-heads.ensures.told
    c.keep_heads.ensures.commits

pub returns-clause-leaves : goal.returns-clause-leaves
returns-clause-leaves g c =
    λ kept told found left.
    leaves-booted kept (applied kept (change_of_heads (heads_opened c.in_ok-heads.heads c.args.longest))) (opened_by kept c.args.longest) found
    (kept-opened kept c.args.longest c.in_ok-heads.heads (c.in_ok-heads.ensures.told kept told))
    (two-of found kept (applied kept (change_of_heads (heads_opened c.in_ok-heads.heads c.args.longest))) _ _ (g.met.K.Keeper.parts _ c.heads.new.self
    _ found c.heads.ensures.follows c.keep_heads.ensures.follows left)
    (c.heads.ensures.leaves kept told found)
    (c.keep_heads.ensures.leaves kept (c.in_ok-heads.ensures.reads.0 ∙ told) found))

pub returns-clause-follows : goal.returns-clause-follows
returns-clause-follows g c = g.met.K.Keeper.follows_on _ c.heads.new.self _ c.heads.ensures.follows c.keep_heads.ensures.follows

pub returns-in_err-heads-clause-leaves : goal.returns-in_err-heads-clause-leaves
returns-in_err-heads-clause-leaves g c = λ kept told found left. inl (c.heads.ensures.leaves kept told found left)
