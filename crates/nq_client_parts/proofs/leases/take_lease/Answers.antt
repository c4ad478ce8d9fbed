use Rattle.std.proofs.Common.{◌≡◌, ◌<◌, ℕ, List, Option, Some, None, length, sym, subst, ◌∙◌, ap, map, arith}
use Rattle.std.specs.List.{slice_get, remove}
use Rattle.nq_client_parts.specs.ByFile.{Ascends, IsPlace, of_file}
use Rattle.nq_client_parts.specs.Leases.{lease_in, file_of_row}
use Rattle.nq_client_parts.specs.declared.leases.HeldLease.{HeldLease}
use Rattle.nq_client_parts.proofs.Places.{IsTaken, without, taken, none_taken, there_at, absent_at}
use Rattle.nq_model.specs.protocol.Client.{file_of_lease}
use Rattle.nq_client_parts.proofs.leases.take_lease.Goals as goal

-- what was read of the rows is read of them as they came
module _ (rows read again : List HeldLease) (file place : ℕ) (first : read ≡ rows) (second : again ≡ rows) (ascends : Ascends file_of_row rows)
    (placed : IsPlace file_of_row file read place) where
  at : IsPlace file_of_row file rows place
  at = subst (λ ks. IsPlace file_of_row file ks place) first placed

  same : (o : Option HeldLease) → o ≡ of_file file_of_row file (slice_get again place) → of_file file_of_row file (slice_get rows place) ≡ o
  same o is = sym (is ∙ ap (λ ks. of_file file_of_row file (slice_get ks place)) second)

  taken-there : (held : HeldLease) → Some held ≡ of_file file_of_row file (slice_get again place)
      → IsTaken file_of_lease lease_in file rows (remove rows place) × (place < length rows)
  taken-there held is =
      let there = there_at file_of_lease lease_in file rows place held (same (Some held) is) in
      (taken file_of_lease lease_in file rows place ascends at there.0, there.1)

  none-there : None ≡ of_file file_of_row file (slice_get again place) → without file_of_lease lease_in file (map lease_in rows) ≡ map lease_in rows
  none-there is =
      none_taken file_of_lease lease_in file rows place ascends at (absent_at file_of_lease lease_in file rows place (same None is))

pub take_at-requires : goal.take_at-requires
take_at-requires c =
    let out = taken-there c.args.rows.now.items _ _ c.args.file c.place_of-place.result c.deref.ensures.value c.deref-2.ensures.value c.requires
    c.place_of-place.ensures c.in-Some.field-0 c.in-Some.ensures in
    omega (arith, out.1)

pub returns-in-Some-clause-taken : goal.returns-in-Some-clause-taken
returns-in-Some-clause-taken c =
    let out = taken-there c.args.rows.now.items _ _ c.args.file c.place_of-place.result c.deref.ensures.value c.deref-2.ensures.value c.requires
    c.place_of-place.ensures c.in-Some.field-0 c.in-Some.ensures in
    ap (map lease_in) c.take_at.ensures.items ∙ out.0.0

pub returns-in-Some-clause-ascends : goal.returns-in-Some-clause-ascends
returns-in-Some-clause-ascends c =
    let out = taken-there c.args.rows.now.items _ _ c.args.file c.place_of-place.result c.deref.ensures.value c.deref-2.ensures.value c.requires
    c.place_of-place.ensures c.in-Some.field-0 c.in-Some.ensures in
    subst (Ascends file_of_row) (sym c.take_at.ensures.items) out.0.1

pub returns-in-None-clause-taken : goal.returns-in-None-clause-taken
returns-in-None-clause-taken c =
    sym (none-there c.args.rows.now.items _ _ c.args.file c.place_of-place.result c.deref.ensures.value c.deref-2.ensures.value c.requires
    c.place_of-place.ensures c.in-None.ensures)
