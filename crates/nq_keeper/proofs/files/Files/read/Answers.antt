use Rattle.std.proofs.Common.{sym, subst, ap, ◌∙◌}
use Rattle.nq_keeper.proofs.Edits.{found-there, if-ok}
use Rattle.nq_keeper.specs.Keeping.{body_at}
use Rattle.nq_model.specs.protocol.Change.{HasBlock}
use Rattle.nq_model.specs.protocol.Kept.{find_file}
use Rattle.nq_keeper.proofs.files.Files.read.Goals as goal

pub unreachable-unreachable : goal.unreachable-unreachable
unreachable-unreachable c =
    subst (HasBlock c.args.block) (ap (find_file c.args.id) (sym c.self.view_is ∙ sym c.as_slice.ensures.value) ∙ c.in_default.ensures.none) c.requires

pub read-requires : goal.read-requires
read-requires c =
    let there = found-there c.self.inside.stored.items c.as_slice.result.now c.in-Some.place c.args.id c.index.result.now c.as_slice.ensures.value
    c.in-Some.ensures.found c.in-Some.ensures.within c.index.ensures in
    subst (HasBlock c.args.block) (ap (find_file c.args.id) (sym c.self.view_is) ∙ there) c.requires

pub returns : goal.returns
returns c =
    let there = found-there c.self.inside.stored.items c.as_slice.result.now c.in-Some.place c.args.id c.index.result.now c.as_slice.ensures.value
    c.in-Some.ensures.found c.in-Some.ensures.within c.index.ensures in
    if-ok c.read.result _ _ (λ body is. sym (ap (body_at c.args.block) (ap (find_file c.args.id) (sym c.self.view_is) ∙ there) ∙ is)) c.read.ensures
