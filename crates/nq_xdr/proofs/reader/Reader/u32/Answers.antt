use Rattle.std.proofs.Common.{ℕ, List, Ok, Err, sym, ap, subst, ◌∙◌}
use Rattle.nq_xdr.specs.Fault.{IsShort}
use Rattle.nq_xdr.specs.Reading.{word_at}
use Rattle.nq_xdr.proofs.Steps.{same_parts, no_value}
use Rattle.nq_xdr.proofs.Numbers.{word_only}
use Rattle.nq_xdr.proofs.reader.Reader.u32.Goals as goal

pub returns-in_err-number-clause-only : goal.returns-in_err-number-clause-only
returns-in_err-number-clause-only c =
    λ n rest fits e.
    let bytes = c.self.inside.bytes.now in
    absurd (no_value (word_at bytes) (n, rest) c.in_err-number.field-0.0 (word_only bytes (Ok (n, rest)) (fits, c.self.view_is ∙ e))
    c.in_err-number.ensures.step)

pub returns-clause-only : goal.returns-clause-only
returns-clause-only c =
    λ n rest fits e.
    let bytes = c.self.inside.bytes.now in
    let same = same_parts (word_at bytes) c.in_ok-number.number n c.in_ok-number.rest.now rest c.in_ok-number.ensures.step
    (word_only bytes (Ok (n, rest)) (fits, c.self.view_is ∙ e)) in
    (ap (λ (x : ℕ). Ok x) same.0, same.1)

pub returns-clause-only_fault : goal.returns-clause-only_fault
returns-clause-only_fault c =
    λ e says.
    let bytes = c.self.inside.bytes.now in
    let IsFault : List ℕ → Type 0 = λ b. IsShort 4 b e in
    absurd (no_value (word_at bytes) (c.in_ok-number.number, c.in_ok-number.rest.now) e c.in_ok-number.ensures.step
    (word_only bytes (Err e) (subst IsFault (sym c.self.view_is) says)))
