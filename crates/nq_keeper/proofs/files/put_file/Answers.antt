use Rattle.std.proofs.Common.{◌≡◌, ◌<◌, length, subst, ap, ◌∙◌, arith}
use Rattle.std.specs.Prelude.{None, slice_get}
use Rattle.nq_keeper.proofs.Edits.{blocks-added, counts-row, follows-row, get-index, id-at}
use Rattle.nq_keeper.proofs.Naming.{named-at-end, named-in-place}
use Rattle.nq_model.specs.protocol.Change.{row_of, with_file}
use Rattle.nq_model.specs.protocol.Kept.{blocks_in_all, find_file}
use Rattle.nq_keeper.proofs.files.put_file.Goals as goal

pub returns-in_default-clause-count : goal.returns-in_default-clause-count
returns-in_default-clause-count c =
    let sum = ap blocks_in_all c.in_ok-add.ensures.ok ∙ blocks-added c.args.files.now.items c.args.row.now in
    omega arith

pub follow_at-requires-clause-id : goal.follow_at-requires-clause-id
follow_at-requires-clause-id c =
    id-at c.args.files.now.items c.in-Some.place c.args.row.now
    (subst (λ xs. find_file c.args.row.now.id xs ≡ slice_get xs c.in-Some.place) c.as_slice.ensures.value c.in-Some.ensures.found)

found-here : (c : goal.In_ok-follow_at) → find_file c.args.row.now.id c.args.files.now.items ≡ slice_get c.args.files.now.items c.in-Some.place
found-here c = subst (λ xs. find_file c.args.row.now.id xs ≡ slice_get xs c.in-Some.place) c.as_slice.ensures.value c.in-Some.ensures.found

within-here : (c : goal.In_ok-follow_at) → c.in-Some.place < length c.args.files.now.items
within-here c = subst (λ xs. c.in-Some.place < length xs) c.as_slice.ensures.value c.in-Some.ensures.within

is-followed : (c : goal.In_ok-follow_at) → c.follow_at.new.files.items ≡ with_file c.args.row.now c.args.files.now.items
is-followed c = follows-row c.args.files.now.items c.follow_at.new.files.items c.in-Some.place c.args.row.now c.requires.apart (found-here c)
    (within-here c) c.in_ok-follow_at.ensures.ok

pub returns-clause-ok : goal.returns-clause-ok
returns-clause-ok c = is-followed c

pub returns-clause-count : goal.returns-clause-count
returns-clause-count c =
    counts-row c.args.files.now.items c.follow_at.new.files.items c.in-Some.place c.args.row.now c.row-had.result c.requires.apart (found-here c)
    (within-here c) (is-followed c)
    (λ f at. c.row-had.ensures ∙ ap row_of (c.index.ensures ∙ get-index c.args.files.now.items c.in-Some.place f _ at))

pub returns-in_default-clause-named : goal.returns-in_default-clause-named
returns-in_default-clause-named c =
    named-at-end c.args.names.now.entries c.add.new.names.entries c.args.files.now.items c.add.new.files.items c.args.row.now c.requires.named c.requires.among
    (subst (λ xs. find_file c.args.row.now.id xs ≡ None) c.as_slice.ensures.value c.in_default.ensures.none)
    c.in_ok-add.ensures.named c.in_ok-add.ensures.ok

pub returns-clause-named : goal.returns-clause-named
returns-clause-named c =
    named-in-place c.args.names.now.entries c.args.files.now.items c.follow_at.new.files.items c.in-Some.place c.args.row.now c.requires.apart
    c.requires.named c.requires.among (found-here c) (within-here c) (is-followed c)
