use Rattle.std.proofs.Common.{◌+◌, ◌∙◌, arith}
use Rattle.nq_keeper.proofs.HeadsChange.{is-last}
use Rattle.nq_keeper.proofs.Leaving.{two-of}
use Rattle.nq_model.specs.protocol.ServerStep.{booted}
use Rattle.nq_server.proofs.Booted.{own-boot}
use Rattle.nq_server.proofs.booting.begin.Goals as goal

pub returns-then-heads-ge-LAST_BOOT-clause-begins : goal.returns-then-heads-ge-LAST_BOOT-clause-begins
returns-then-heads-ge-LAST_BOOT-clause-begins g c = (
  λ kept told. is-last kept c.in-Ok.heads (g.met.K.Keeper.within c.args.keeper.now kept told) (c.in-Ok.ensures.told kept told) (omega arith),
  c.in-Ok.ensures.reads.0,
  c.in-Ok.ensures.reads.1,
)

pub returns-in_err-started-clause-leaves : goal.returns-in_err-started-clause-leaves
returns-in_err-started-clause-leaves g c =
    λ kept told found left.
    two-of found kept (booted kept c.args.longest) _ _ (g.met.K.Keeper.parts _ c.heads.new.self _ found c.heads.ensures.follows
    c.start.ensures.follows left) (c.heads.ensures.leaves kept told found) (c.start.ensures.leaves kept (c.in-Ok.ensures.reads.0 ∙ told) found)

pub returns-clause-fit : goal.returns-clause-fit
returns-clause-fit g c = record {
  long = c.requires.long;
  short = c.requires.short;
  early = c.requires.now;
  term = c.in_ok-started.ensures.term;
  empty = own-boot c.in-Ok-new.table (c.in-Ok.heads.boot + 1) c.in-Ok-new.ensures;
}

pub returns-clause-leaves : goal.returns-clause-leaves
returns-clause-leaves g c =
    λ kept told found left.
    two-of found kept (booted kept c.args.longest) _ _ (g.met.K.Keeper.parts _ c.heads.new.self _ found c.heads.ensures.follows
    c.start.ensures.follows left) (c.heads.ensures.leaves kept told found) (c.start.ensures.leaves kept (c.in-Ok.ensures.reads.0 ∙ told) found)

pub returns-in_err-started-clause-follows : goal.returns-in_err-started-clause-follows
returns-in_err-started-clause-follows g c = g.met.K.Keeper.follows_on _ c.heads.new.self _ c.heads.ensures.follows c.start.ensures.follows

pub returns-clause-follows : goal.returns-clause-follows
returns-clause-follows g c = g.met.K.Keeper.follows_on _ c.heads.new.self _ c.heads.ensures.follows c.start.ensures.follows
