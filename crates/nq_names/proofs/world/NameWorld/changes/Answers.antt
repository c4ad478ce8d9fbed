use Rattle.std.proofs.Common.{◌∙◌, ap, subst, sym}
use Rattle.nq_directory.specs.Files.{IsNext}
use Rattle.nq_name_server.specs.Changing.{changed_by}
use Rattle.nq_names.proofs.world.NameWorld.changes.Goals as goal

pub returns-in-Nothing-clause-told : goal.returns-in-Nothing-clause-told
returns-in-Nothing-clause-told g c = λ kept is.
    ap (changed_by kept) (sym c.in-Nothing.is) ∙ c.in_ok-change.ensures kept (g.met.K.Keeper.within c.args.self.now.inner.server.keeper kept is)

pub returns-in-Directory-clause-told : goal.returns-in-Directory-clause-told
returns-in-Directory-clause-told g c = λ kept is.
    ap (changed_by kept) (sym c.in-Directory.is) ∙ c.in_ok-change.ensures kept (g.met.K.Keeper.within c.args.self.now.inner.server.keeper kept is)

pub returns-in_ok-found-in-OfFile-clause-told : goal.returns-in_ok-found-in-OfFile-clause-told
returns-in_ok-found-in-OfFile-clause-told g c = λ kept is.
    let within = g.met.K.Keeper.within c.args.self.now.inner.server.keeper kept is in
    let read = c.in_ok-found-in-OfFile in
    let next = subst (λ a. IsNext kept a read.found) c.below.ensures (read.ensures.told kept is) in
    c.removed.ensures kept within next ∙ ap (changed_by kept) (sym c.in-OfFile.is) ∙ c.in_ok-change.ensures kept within
