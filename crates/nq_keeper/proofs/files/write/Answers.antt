use Rattle.std.proofs.Common.{◌≡◌, ◌<◌, length, subst}
use Rattle.std.specs.Prelude.{slice_get}
use Rattle.nq_keeper.proofs.Edits.{writes-block}
use Rattle.nq_model.specs.protocol.Kept.{find_file}
use Rattle.nq_keeper.proofs.files.write.Goals as goal

pub returns : goal.returns
returns c =
    let here = c.as_slice.ensures.value in
    writes-block c.args.files.now.items c.write_at.new.files.items c.in-Some.place c.args.change c.requires.apart
    (subst (λ xs. find_file c.args.change.file xs ≡ slice_get xs c.in-Some.place) here c.in-Some.ensures.found)
    (subst (λ xs. c.in-Some.place < length xs) here c.in-Some.ensures.within)
    c.write_at.ensures
