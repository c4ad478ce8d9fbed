use Rattle.std.proofs.Common.{ℕ, Bool, List, Ok, Err, sym, ap, subst, ◌∙◌}
use Rattle.std.proofs.lemmas.Result.{err_from_is_err_and}
use Rattle.nq_xdr.specs.Fault.{IsBooleanFault}
use Rattle.nq_xdr.specs.Reading.{boolean_at}
use Rattle.nq_xdr.proofs.Steps.{same_parts, no_value, one_fault}
use Rattle.nq_xdr.proofs.Opaque.{boolean_only}
use Rattle.nq_xdr.proofs.reader.Reader.boolean.Goals as goal

pub returns-in_err-value-clause-only : goal.returns-in_err-value-clause-only
returns-in_err-value-clause-only c =
    λ b rest e.
    let bytes = c.self.inside.bytes.now in
    absurd (no_value (boolean_at bytes) (b, rest) c.in_err-value.field-0.0 (boolean_only bytes (Ok (b, rest)) (tt, c.self.view_is ∙ e))
    c.in_err-value.ensures.step)

pub returns-in_err-value-clause-only_fault : goal.returns-in_err-value-clause-only_fault
returns-in_err-value-clause-only_fault c =
    λ e says.
    let bytes = c.self.inside.bytes.now in
    let IsFault : List ℕ → Type 0 = λ b. IsBooleanFault b e in
    let p = err_from_is_err_and c.from_residual.result c.from_residual.ensures.1 in
    rw (p.1, p.2) (one_fault (boolean_at bytes) c.in_err-value.field-0.0 e c.in_err-value.ensures.step (boolean_only bytes (Err e)
    (subst IsFault (sym c.self.view_is) says)))

pub returns-clause-only : goal.returns-clause-only
returns-clause-only c =
    λ b rest e.
    let bytes = c.self.inside.bytes.now in
    let same = same_parts (boolean_at bytes) c.in_ok-value.value b c.in_ok-value.rest.now rest c.in_ok-value.ensures.step
    (boolean_only bytes (Ok (b, rest)) (tt, c.self.view_is ∙ e)) in
    (ap (λ (x : Bool). Ok x) same.0, same.1)

pub returns-clause-only_fault : goal.returns-clause-only_fault
returns-clause-only_fault c =
    λ e says.
    let bytes = c.self.inside.bytes.now in
    let IsFault : List ℕ → Type 0 = λ b. IsBooleanFault b e in
    absurd (no_value (boolean_at bytes) (c.in_ok-value.value, c.in_ok-value.rest.now) e c.in_ok-value.ensures.step (boolean_only bytes (Err e)
    (subst IsFault (sym c.self.view_is) says)))
