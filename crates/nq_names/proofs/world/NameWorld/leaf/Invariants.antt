use Rattle.std.specs.Option.{ForSome}
use Rattle.nq_directory.specs.Files.{IsUpTo}
use Rattle.nq_name_server.specs.Served.{is_in}
use Rattle.nq_names.proofs.Keeping.{StillReads}
use Rattle.nq_names.proofs.world.NameWorld.leaf.Given as goal

-- the world is as before, but for its keeper, and the page was read so far
abbrev pub invariant-files : goal.invariant-files
invariant-files g l = record {
  still : StillReads g.K.Keeper.content g.K.Keeper.faults g.K.Keeper.follows l.fn.self l.self;
  far : ForSome (g.K.Keeper.content l.fn.self.inner.server.keeper) (λ kept. IsUpTo kept.files (is_in l.prefix) l.fn.after l.leaf);
}
