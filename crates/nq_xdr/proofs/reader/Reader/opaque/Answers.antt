use Rattle.std.proofs.Common.{ℕ, List, Ok, Err, sym, subst, ◌∙◌}
use Rattle.std.proofs.lemmas.Result.{err_from_is_err_and}
use Rattle.nq_xdr.specs.Fault.{IsOpaqueFault}
use Rattle.nq_xdr.specs.Reading.{opaque_at}
use Rattle.nq_xdr.proofs.Steps.{same_parts, no_value, one_fault}
use Rattle.nq_xdr.proofs.Opaque.{opaque_only}
use Rattle.nq_xdr.proofs.reader.Reader.opaque.Goals as goal

pub returns-in_err-body-clause-only : goal.returns-in_err-body-clause-only
returns-in_err-body-clause-only c =
    λ body rest le e.
    let bytes = c.self.inside.bytes.now in
    absurd (no_value (opaque_at c.args.max bytes) (body, rest) c.in_err-body.field-0.0 (opaque_only c.args.max bytes (Ok (body, rest))
    (c.ranges.max.fits) (le, c.self.view_is ∙ e)) c.in_err-body.ensures.step)

pub returns-in_err-body-clause-only_fault : goal.returns-in_err-body-clause-only_fault
returns-in_err-body-clause-only_fault c =
    λ e says.
    let bytes = c.self.inside.bytes.now in
    let IsFault : List ℕ → Type 0 = λ b. IsOpaqueFault c.args.max b e in
    let p = err_from_is_err_and c.from_residual.result c.from_residual.ensures.1 in
    rw (p.1, p.2) (one_fault (opaque_at c.args.max bytes) c.in_err-body.field-0.0 e c.in_err-body.ensures.step (opaque_only c.args.max bytes (Err e)
    (c.ranges.max.fits) (subst IsFault (sym c.self.view_is) says)))

pub returns-clause-only : goal.returns-clause-only
returns-clause-only c =
    λ body rest le e.
    let bytes = c.self.inside.bytes.now in
    let same = same_parts (opaque_at c.args.max bytes) c.in_ok-body.body.now body c.in_ok-body.rest.now rest c.in_ok-body.ensures.step
    (opaque_only c.args.max bytes (Ok (body, rest)) (c.ranges.max.fits) (le, c.self.view_is ∙ e)) in
    same

pub returns-clause-only_fault : goal.returns-clause-only_fault
returns-clause-only_fault c =
    λ e says.
    let bytes = c.self.inside.bytes.now in
    let IsFault : List ℕ → Type 0 = λ b. IsOpaqueFault c.args.max b e in
    absurd (no_value (opaque_at c.args.max bytes) (c.in_ok-body.body.now, c.in_ok-body.rest.now) e c.in_ok-body.ensures.step
    (opaque_only c.args.max bytes (Err e) (c.ranges.max.fits) (subst IsFault (sym c.self.view_is) says)))
