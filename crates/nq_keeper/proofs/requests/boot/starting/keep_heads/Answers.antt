use Rattle.std.proofs.Common.{sym, subst}
use Rattle.nq_keeper.specs.Keeping.{LeavesTwo}
use Rattle.nq_model.specs.protocol.Change.{Fits}
use Rattle.nq_model.proofs.FreshFits.{heads-fit}
use Rattle.nq_keeper.proofs.HeadsChange.{heads-within, names-none}
use Rattle.nq_keeper.proofs.requests.boot.starting.keep_heads.Goals as goal

pub commit-requires-clause-host : goal.commit-requires-clause-host
commit-requires-clause-host g c = λ h named. names-none c.args.heads c.change_to-change.result h c.change_to-change.ensures named

pub commit-requires-clause-fits : goal.commit-requires-clause-fits
commit-requires-clause-fits g c =
    λ kept told. subst (Fits kept) (sym c.change_to-change.ensures) (heads-fit kept c.args.heads (c.requires kept told).ids)

pub commit-requires-clause-within : goal.commit-requires-clause-within
commit-requires-clause-within g c = λ kept told. heads-within kept c.args.heads c.change_to-change.result c.change_to-change.ensures (c.requires kept told)

pub returns-clause-leaves : goal.returns-clause-leaves
returns-clause-leaves g c =
    subst (λ change. LeavesTwo change (g.K.Keeper.content c.args.keeper.now) (g.K.Keeper.leaves c.args.keeper.now c.commit.new.self))
    c.change_to-change.ensures c.commit.ensures.leaves
