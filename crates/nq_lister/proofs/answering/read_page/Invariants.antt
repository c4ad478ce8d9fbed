use Rattle.std.proofs.Common.{Ok}
use Rattle.std.specs.Option.{ForSome}
use Rattle.nq_directory.specs.Files.{IsUpTo}
use Rattle.nq_lister.specs.Listing.{begins_with}
use Rattle.nq_serving.specs.Extending.{ReadsOnly}
use Rattle.nq_lister.proofs.answering.read_page.Given as goal

-- the server was only read, and the page was read so far
abbrev pub invariant-files : goal.invariant-files
invariant-files g l = record {
  still : ReadsOnly {A = Unit} g.K.Keeper.content g.K.Keeper.faults g.K.Keeper.follows g.K.Keeper.leaves (Ok tt) l.fn.server l.server;
  far : ForSome (g.K.Keeper.content l.fn.server.keeper) (λ kept. IsUpTo kept.files (begins_with l.request.prefix) l.request.after l.page);
}
