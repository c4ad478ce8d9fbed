use Rattle.std.proofs.Common.{◌≡◌, ◌<◌, ◌+◌, suc, sym, subst, ap, ◌∙◌, arith}
use Rattle.nq_keeper.specs.Keeping.{told_after}
use Rattle.nq_model.specs.protocol.Change.{IsChangeWithin}
use Rattle.nq_world.proofs.Firsts.{host-applied, host-within, told-next, told-told, told-on}
use Rattle.nq_world.specs.First.{host_change, kept_first, told_as}
use Rattle.nq_world.proofs.first.keep_hosts.Goals as goal

pub commit-requires-clause-within : goal.commit-requires-clause-within
commit-requires-clause-within g c = λ kept told. subst (IsChangeWithin kept) (sym c.host_change-change.ensures) (host-within kept c.loop-host.host)

pub loop-host-preserved : goal.loop-host-preserved
loop-host-preserved g c =
    let host = c.loop-host.host in
    let first = g.K.Keeper.content c.args.keeper.now in
    let told = g.K.Keeper.content c.loop-host.keeper in
    let tells = g.K.Keeper.content c.commit.new.self in
    let below : host < 64 = let inside = c.loop-host-test.true in let few = c.requires in omega arith in
    let next : suc host ≡ host + 1 = omega arith in
    let kept : tells ≡ told_after (host_change host) told = c.in_ok-commit.ensures.commits.0 ∙ ap (λ change. told_after change told)
    c.host_change-change.ensures in (
      λ longest files begins.
          let before : told ≡ told_as (kept_first longest files host) first = c.loop-host.invariant.0 longest files begins in
          told-on first told tells (kept_first longest files host) (kept_first longest files (host + 1)) before
          (kept ∙ told-next told (kept_first longest files host) (kept_first longest files (host + 1)) (host_change host)
          (told-told first told (kept_first longest files host) before)
          (host-applied longest files host below ∙ ap (kept_first longest files) next)),
      c.in_ok-commit.ensures.commits.1 ∙ c.loop-host.invariant.1,
      g.met.K.Keeper.follows_on _ _ _ c.loop-host.invariant.2 c.in_ok-commit.ensures.follows,
    )
