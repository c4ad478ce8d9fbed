use Rattle.std.proofs.Common.{◌≡◌, ◌<◌, length, sym, subst, ap, ◌∙◌}
use Rattle.std.specs.Prelude.{None, slice_get}
use Rattle.nq_keeper.proofs.Edits.{drops-file, drops-none, get-index}
use Rattle.nq_keeper.proofs.Naming.{named-without}
use Rattle.nq_model.specs.protocol.Kept.{find_file}
use Rattle.nq_keeper.proofs.files.take_file.Goals as goal

pub returns-in-Some-clause-files : goal.returns-in-Some-clause-files
returns-in-Some-clause-files c =
    let here = c.as_slice.ensures.value in
    c.remove.ensures.items
    ∙ drops-file c.args.files.now.items c.in-Some.place c.args.id c.requires.apart
    (subst (λ xs. find_file c.args.id xs ≡ slice_get xs c.in-Some.place) here c.in-Some.ensures.found)
    (subst (λ xs. c.in-Some.place < length xs) here c.in-Some.ensures.within)

pub returns-in-None-clause-files : goal.returns-in-None-clause-files
returns-in-None-clause-files c =
    sym (drops-none c.args.id c.args.files.now.items (subst (λ xs. find_file c.args.id xs ≡ None) c.as_slice.ensures.value c.in-None.ensures.none))

pub returns-in-Some-clause-named : goal.returns-in-Some-clause-named
returns-in-Some-clause-named c =
    let here = c.as_slice.ensures.value in
    let found : find_file c.args.id c.args.files.now.items ≡ slice_get c.args.files.now.items c.in-Some.place = subst (λ xs. find_file c.args.id xs
    ≡ slice_get xs c.in-Some.place) here c.in-Some.ensures.found in
    let within : c.in-Some.place < length c.args.files.now.items = subst (λ xs. c.in-Some.place < length xs) here c.in-Some.ensures.within in
    named-without c.args.names.now.entries c.take_name.new.names.entries c.args.files.now.items c.remove.new.self.items c.in-Some.place c.args.id
    c.row-row.result c.requires.apart c.requires.named found within
    (λ f at. ap (λ r. r.name) c.row-row.ensures ∙ ap (λ g. g.name) (c.remove.ensures.value ∙ get-index c.args.files.now.items c.in-Some.place f _ at))
    c.take_name.ensures
    (c.remove.ensures.items ∙ drops-file c.args.files.now.items c.in-Some.place c.args.id c.requires.apart found within)
