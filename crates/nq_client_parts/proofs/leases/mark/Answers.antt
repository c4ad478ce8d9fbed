use Rattle.std.proofs.Common.{◌≡◌, Some, None, sym, subst, ◌∙◌, ap, map}
use Rattle.std.specs.List.{slice_get}
use Rattle.nq_client_parts.specs.ByFile.{Ascends, IsPlace, of_file}
use Rattle.nq_client_parts.specs.Leases.{lease_in, file_of_row}
use Rattle.nq_client_parts.proofs.Marks.{marks_own, marked}
use Rattle.nq_client_parts.proofs.Places.{changed, none_changed, of_file-some, of_file-none}
use Rattle.nq_model.specs.protocol.Client.{file_of_lease, marked_used}
use Rattle.nq_client_parts.proofs.leases.mark.Goals as goal

pub returns-in-Some-clause-marked : goal.returns-in-Some-clause-marked
returns-in-Some-clause-marked c =
    let rows = c.args.rows.now.items in
    let place : IsPlace file_of_row c.args.file c.args.rows.now.items c.place_of-place.result = subst (λ ks. IsPlace file_of_row c.args.file ks
    c.place_of-place.result) c.deref.ensures.value c.place_of-place.ensures in
    let at : Some c.in-Some.row ≡ of_file file_of_row c.args.file (slice_get c.args.rows.now.items c.place_of-place.result) = c.in-Some.ensures
    ∙ ap (λ ks. of_file file_of_row c.args.file (slice_get ks c.place_of-place.result)) c.deref-2.ensures.value in
    let there = of_file-some file_of_lease lease_in c.args.file (slice_get rows c.place_of-place.result) c.in-Some.row (sym at) in
    let used = marked c.args.file (lease_in c.in-Some.row) there.1 in
    let done = changed file_of_lease lease_in c.args.file (marked_used c.args.file) rows c.place_of-place.result c.in-Some.row c.used.result
    (marks_own c.args.file) there.0 c.requires place there.1 (ap file_of_row c.used.ensures ∙ there.1) (ap lease_in c.used.ensures ∙ used) in
    ap (map lease_in) c.replace.ensures.items ∙ done.0

pub returns-in-Some-clause-ascends : goal.returns-in-Some-clause-ascends
returns-in-Some-clause-ascends c =
    let rows = c.args.rows.now.items in
    let place : IsPlace file_of_row c.args.file c.args.rows.now.items c.place_of-place.result = subst (λ ks. IsPlace file_of_row c.args.file ks
    c.place_of-place.result) c.deref.ensures.value c.place_of-place.ensures in
    let at : Some c.in-Some.row ≡ of_file file_of_row c.args.file (slice_get c.args.rows.now.items c.place_of-place.result) = c.in-Some.ensures
    ∙ ap (λ ks. of_file file_of_row c.args.file (slice_get ks c.place_of-place.result)) c.deref-2.ensures.value in
    let there = of_file-some file_of_lease lease_in c.args.file (slice_get rows c.place_of-place.result) c.in-Some.row (sym at) in
    let used = marked c.args.file (lease_in c.in-Some.row) there.1 in
    let done = changed file_of_lease lease_in c.args.file (marked_used c.args.file) rows c.place_of-place.result c.in-Some.row c.used.result
    (marks_own c.args.file) there.0 c.requires place there.1 (ap file_of_row c.used.ensures ∙ there.1) (ap lease_in c.used.ensures ∙ used) in
    subst (Ascends file_of_row) (sym c.replace.ensures.items) done.1

pub returns-in-None-clause-marked : goal.returns-in-None-clause-marked
returns-in-None-clause-marked c =
    let rows = c.args.rows.now.items in
    let place : IsPlace file_of_row c.args.file c.args.rows.now.items c.place_of-place.result = subst (λ ks. IsPlace file_of_row c.args.file ks
    c.place_of-place.result) c.deref.ensures.value c.place_of-place.ensures in
    let at : None ≡ of_file file_of_row c.args.file (slice_get c.args.rows.now.items c.place_of-place.result) = c.in-None.ensures
    ∙ ap (λ ks. of_file file_of_row c.args.file (slice_get ks c.place_of-place.result)) c.deref-2.ensures.value in
    let absent = of_file-none file_of_lease lease_in c.args.file (slice_get rows c.place_of-place.result) (sym at) in
    sym (none_changed file_of_lease lease_in c.args.file (marked_used c.args.file) rows c.place_of-place.result (marks_own c.args.file) c.requires
    place absent)
