use Rattle.std.proofs.Common.{List, ℕ, ◌≤◌, length, Result, sym, subst, arith}
use Rattle.nq_xdr.specs.declared.fault.XdrFault.{XdrFault}
use Rattle.nq_xdr.specs.Item.{opaque}
use Rattle.nq_xdr.specs.Fault.{IsOpaqueFault}
use Rattle.nq_xdr.specs.Reading.{Gives, opaque_at}
use Rattle.nq_xdr.proofs.Steps.{says_found, says_fault}
use Rattle.nq_xdr.proofs.Opaque.{opaque_says, opaque_at-body}
use Rattle.nq_xdr.proofs.reader.opaque.Goals as goal

pub returns-clause-found : goal.returns-clause-found
returns-clause-found c =
    let bytes = c.args.bytes.now in
    let max = c.args.max in
    let whole = opaque_at-body max c.in_ok-length.length bytes c.in_ok-length.rest.now c.in_ok-length.ensures.step (omega arith) in
    let P : Result (List ℕ × List ℕ) XdrFault → Type 0 = λ read. Gives (λ x. (x.0.now, x.1.now)) c.body.result read in
    says_found opaque (λ body. length body ≤ max) (IsOpaqueFault max bytes) bytes (λ x. (x.0.now, x.1.now)) c.body.result (opaque_at max bytes)
    (opaque_says max bytes (λ i. omega (arith, c.type_inv.bytes i))) (subst P (sym whole) c.body.ensures)

pub returns-clause-fault : goal.returns-clause-fault
returns-clause-fault c =
    let bytes = c.args.bytes.now in
    let max = c.args.max in
    let whole = opaque_at-body max c.in_ok-length.length bytes c.in_ok-length.rest.now c.in_ok-length.ensures.step (omega arith) in
    let P : Result (List ℕ × List ℕ) XdrFault → Type 0 = λ read. Gives (λ x. (x.0.now, x.1.now)) c.body.result read in
    says_fault opaque (λ body. length body ≤ max) (IsOpaqueFault max bytes) bytes (λ x. (x.0.now, x.1.now)) c.body.result (opaque_at max bytes)
    (opaque_says max bytes (λ i. omega (arith, c.type_inv.bytes i))) (subst P (sym whole) c.body.ensures)
