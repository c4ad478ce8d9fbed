use Rattle.nq_keeper.specs.StoredKeeper.{empty_kept}
use Rattle.nq_world.specs.Beginning.{beginning}
use Rattle.nq_world.proofs.Begun.{begun-counts, begun-plays, begun-settings, files-first}
use Rattle.nq_world.proofs.starting.begin.Goals as goal

pub new-requires-clause-fine : goal.new-requires-clause-fine
new-requires-clause-fine g c = files-first c.args.head.now.files c.requires.fits.files

pub returns : goal.returns
returns g c = record {
  plays = begun-plays (beginning c.args.head.now) empty_kept c.new.result g.K.Keeper.content _ _ _ c.new.ensures.begins c.requires.empty;
  settings = begun-settings (beginning c.args.head.now) empty_kept c.new.result _ _ _ _ c.new.ensures.begins;
  faults = begun-counts (beginning c.args.head.now) empty_kept c.new.result _ _ _ _ c.new.ensures.begins;
  follows = c.new.ensures.follows;
}
