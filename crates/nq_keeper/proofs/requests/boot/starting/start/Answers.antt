use Rattle.std.proofs.Common.{◌≡◌, ◌<◌, Some, sym, ap, ◌∙◌, subst, arith, inl}
use Rattle.nq_keeper.specs.Keeping.{told_after}
use Rattle.nq_keeper.proofs.Leaving.{two-of}
use Rattle.nq_model.specs.protocol.Change.{applied, change_of_heads, heads_of}
use Rattle.nq_model.specs.protocol.ServerStep.{booted}
use Rattle.nq_keeper.specs.Booting.{last_boot}
use Rattle.nq_keeper.proofs.HeadsChange.{after-boot-within, is-last, kept-booted, leaves-booted}
use Rattle.nq_keeper.proofs.requests.boot.starting.start.Goals as goal

pub returns-then-heads-ge-LAST_BOOT-clause-starts : goal.returns-then-heads-ge-LAST_BOOT-clause-starts
returns-then-heads-ge-LAST_BOOT-clause-starts g c = (
  λ kept told. is-last kept c.in-Ok.heads (g.met.K.Keeper.within c.args.keeper.now kept told) (c.in-Ok.ensures.told kept told) (omega arith),
  c.in-Ok.ensures.reads.0,
  c.in-Ok.ensures.reads.1,
)

pub keep_heads-requires : goal.keep_heads-requires
keep_heads-requires g c =
    λ kept told.
    after-boot-within kept c.args.longest c.in-Ok.heads c.after_boot.result (g.met.K.Keeper.within c.heads.new.self kept told)
    (record { long = c.requires.long; short = c.requires.short }) (c.in-Ok.ensures.told kept (sym c.in-Ok.ensures.reads.0 ∙ told))
    c.after_boot.ensures (omega arith)

pub returns-in-Ok-keep_heads-clause-starts : goal.returns-in-Ok-keep_heads-clause-starts
returns-in-Ok-keep_heads-clause-starts g c = (
  λ kept told.
      let is : c.in-Ok.heads ≡ heads_of kept = c.in-Ok.ensures.told kept told in
      let below : c.in-Ok.heads.boot < last_boot = omega arith in (
        subst (λ h. h.boot < last_boot) is below,
        c.begun.ensures.begun kept is,
        c.in-Ok-keep_heads.ensures.commits.0 ∙ ap (told_after (change_of_heads c.after_boot.result)) (c.in-Ok.ensures.reads.0 ∙ told)
            ∙ ap (λ k. Some k) (kept-booted kept c.args.longest c.in-Ok.heads c.after_boot.result is c.after_boot.ensures),
      ),
  c.in-Ok-keep_heads.ensures.commits.1 ∙ c.in-Ok.ensures.reads.1,
)

pub returns-in-Ok-keep_heads-clause-leaves : goal.returns-in-Ok-keep_heads-clause-leaves
returns-in-Ok-keep_heads-clause-leaves g c =
    λ kept told found left.
    leaves-booted kept (applied kept (change_of_heads c.after_boot.result)) (booted kept c.args.longest) found (kept-booted kept c.args.longest
    c.in-Ok.heads c.after_boot.result (c.in-Ok.ensures.told kept told) c.after_boot.ensures)
    (two-of found kept (applied kept (change_of_heads c.after_boot.result)) _ _ (g.met.K.Keeper.parts _ c.heads.new.self _ found
    c.heads.ensures.follows c.keep_heads.ensures.follows left)
    (c.heads.ensures.leaves kept told found)
    (c.keep_heads.ensures.leaves kept (c.in-Ok.ensures.reads.0 ∙ told) found))

pub returns-in-Err-keep_heads-clause-leaves : goal.returns-in-Err-keep_heads-clause-leaves
returns-in-Err-keep_heads-clause-leaves g c =
    λ kept told found left.
    leaves-booted kept (applied kept (change_of_heads c.after_boot.result)) (booted kept c.args.longest) found (kept-booted kept c.args.longest
    c.in-Ok.heads c.after_boot.result (c.in-Ok.ensures.told kept told) c.after_boot.ensures)
    (two-of found kept (applied kept (change_of_heads c.after_boot.result)) _ _ (g.met.K.Keeper.parts _ c.heads.new.self _ found
    c.heads.ensures.follows c.keep_heads.ensures.follows left)
    (c.heads.ensures.leaves kept told found)
    (c.keep_heads.ensures.leaves kept (c.in-Ok.ensures.reads.0 ∙ told) found))

pub returns-in-Ok-keep_heads-clause-follows : goal.returns-in-Ok-keep_heads-clause-follows
returns-in-Ok-keep_heads-clause-follows g c = g.met.K.Keeper.follows_on _ c.heads.new.self _ c.heads.ensures.follows c.keep_heads.ensures.follows

pub returns-in-Err-keep_heads-clause-follows : goal.returns-in-Err-keep_heads-clause-follows
returns-in-Err-keep_heads-clause-follows g c = g.met.K.Keeper.follows_on _ c.heads.new.self _ c.heads.ensures.follows c.keep_heads.ensures.follows

pub returns-in-Err-clause-leaves : goal.returns-in-Err-clause-leaves
returns-in-Err-clause-leaves g c = λ kept told found left. inl (c.heads.ensures.leaves kept told found left)

pub returns-then-heads-ge-LAST_BOOT-clause-leaves : goal.returns-then-heads-ge-LAST_BOOT-clause-leaves
returns-then-heads-ge-LAST_BOOT-clause-leaves g c = λ kept told found left. inl (c.heads.ensures.leaves kept told found left)
