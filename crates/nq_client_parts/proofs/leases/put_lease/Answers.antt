use Rattle.std.proofs.Common.{◌≡◌, ◌<◌, ℕ, List, Option, Some, None, IsSome, length, sym, subst, ◌∙◌, ap, map, arith}
use Rattle.std.specs.List.{slice_get, slice_set, insert}
use Rattle.std.proofs.lemmas.Bool.{false≢true}
use Rattle.nq_client_parts.specs.ByFile.{Ascends, IsPlace, of_file}
use Rattle.nq_client_parts.specs.Leases.{lease_in, file_of_row}
use Rattle.nq_client_parts.specs.declared.leases.HeldLease.{HeldLease}
use Rattle.nq_client_parts.proofs.Places.{IsPut, found, replaced, inserted, none_found, there_at, absent_at}
use Rattle.nq_model.specs.protocol.Client.{file_of_lease}
use Rattle.nq_client_parts.proofs.leases.put_lease.Goals as goal

-- what was read of the rows is read of them as they came
module _ (rows read again : List HeldLease) (new : HeldLease) (place : ℕ) (first : read ≡ rows) (second : again ≡ rows) (ascends : Ascends file_of_row rows)
    (placed : IsPlace file_of_row new.lease.file read place) where
  at : IsPlace file_of_row new.lease.file rows place
  at = subst (λ ks. IsPlace file_of_row new.lease.file ks place) first placed

  same : (o : Option HeldLease) → o ≡ of_file file_of_row new.lease.file (slice_get again place)
      → of_file file_of_row new.lease.file (slice_get rows place) ≡ o
  same o is = sym (is ∙ ap (λ ks. of_file file_of_row new.lease.file (slice_get ks place)) second)

  put-there : (held : HeldLease) → Some held ≡ of_file file_of_row new.lease.file (slice_get again place)
      → IsPut file_of_lease lease_in new rows (slice_set rows place new) × (place < length rows)
  put-there held is =
      let there = there_at file_of_lease lease_in new.lease.file rows place held (same (Some held) is) in
      (replaced file_of_lease lease_in new rows place ascends at there.0, there.1)

  put-absent : None ≡ of_file file_of_row new.lease.file (slice_get again place) → (roomy after : List HeldLease) → roomy ≡ rows
      → after ≡ insert roomy place new → IsPut file_of_lease lease_in new rows after
  put-absent is roomy after kept made =
      subst (IsPut file_of_lease lease_in new rows) (sym (made ∙ ap (λ ks. insert ks place new) kept))
      (inserted file_of_lease lease_in new rows place ascends at (absent_at file_of_lease lease_in new.lease.file rows place (same None is)))

  not-there : None ≡ of_file file_of_row new.lease.file (slice_get again place)
      → IsSome (found file_of_lease lease_in new.lease.file (map lease_in rows)) → ⊥
  not-there is some =
      false≢true (subst IsSome (none_found file_of_lease lease_in new.lease.file rows place ascends at
      (absent_at file_of_lease lease_in new.lease.file rows place (same None is))) some)

pub replace-requires : goal.replace-requires
replace-requires c =
    let put = put-there c.args.rows.now.items _ _ c.args.row.now c.place_of-place.result c.deref.ensures.value c.deref-2.ensures.value c.requires
    c.place_of-place.ensures c.in-Some.field-0 c.in-Some.ensures in
    omega (arith, put.1)

pub returns-in-Some-clause-put : goal.returns-in-Some-clause-put
returns-in-Some-clause-put c =
    let put = put-there c.args.rows.now.items _ _ c.args.row.now c.place_of-place.result c.deref.ensures.value c.deref-2.ensures.value c.requires
    c.place_of-place.ensures c.in-Some.field-0 c.in-Some.ensures in
    ap (map lease_in) c.replace.ensures.items ∙ put.0.0

pub returns-in-Some-clause-ascends : goal.returns-in-Some-clause-ascends
returns-in-Some-clause-ascends c =
    let put = put-there c.args.rows.now.items _ _ c.args.row.now c.place_of-place.result c.deref.ensures.value c.deref-2.ensures.value c.requires
    c.place_of-place.ensures c.in-Some.field-0 c.in-Some.ensures in
    subst (Ascends file_of_row) (sym c.replace.ensures.items) put.0.1

pub returns-in_ok-try_reserve-in-None-clause-put : goal.returns-in_ok-try_reserve-in-None-clause-put
returns-in_ok-try_reserve-in-None-clause-put c =
    (put-absent c.args.rows.now.items _ _ c.args.row.now c.place_of-place.result c.deref.ensures.value c.deref-2.ensures.value c.requires
    c.place_of-place.ensures c.in-None.ensures _ c.insert.new.rows.items c.in_ok-try_reserve-in-None.ensures.items c.insert.ensures.items).0

pub returns-in_ok-try_reserve-in-None-clause-ascends : goal.returns-in_ok-try_reserve-in-None-clause-ascends
returns-in_ok-try_reserve-in-None-clause-ascends c =
    (put-absent c.args.rows.now.items _ _ c.args.row.now c.place_of-place.result c.deref.ensures.value c.deref-2.ensures.value c.requires
    c.place_of-place.ensures c.in-None.ensures _ c.insert.new.rows.items c.in_ok-try_reserve-in-None.ensures.items c.insert.ensures.items).1

pub returns-in_ok-try_reserve-in-None-clause-kept : goal.returns-in_ok-try_reserve-in-None-clause-kept
returns-in_ok-try_reserve-in-None-clause-kept c = λ some.
    absurd (not-there c.args.rows.now.items _ _ c.args.row.now c.place_of-place.result c.deref.ensures.value c.deref-2.ensures.value c.requires
    c.place_of-place.ensures c.in-None.ensures some)

pub returns-in_err-try_reserve-in-None-clause-there : goal.returns-in_err-try_reserve-in-None-clause-there
returns-in_err-try_reserve-in-None-clause-there c = λ some.
    absurd (not-there c.args.rows.now.items _ _ c.args.row.now c.place_of-place.result c.deref.ensures.value c.deref-2.ensures.value c.requires
    c.place_of-place.ensures c.in-None.ensures some)
