use Rattle.std.proofs.Common.{rules, ◌≡◌, ℕ, Result, Vec, Global, Err, sym, subst, arith}
use Rattle.nq_image.specs.Layout.{piece}
use Rattle.nq_store.specs.Loading.{Gives}
use Rattle.nq_store.specs.declared.fault.Fault.{Fault}
use Rattle.nq_store.proofs.Told.{gives-on, head-long}
use Rattle.nq_store.proofs.opening.read_head.Goals as goal

pub returns-in_err-head-clause-told : goal.returns-in_err-head-clause-told
returns-in_err-head-clause-told g c = λ bytes is long.
    let from : c.from_residual.result ≡ Err c.in_err-head.field-0.0 = search rules in
    subst (λ (r : Result (Vec ℕ Global) Fault). Gives r (λ head. head.items ≡ piece 0 28672 bytes)) (sym from)
    (gives-on c.in_err-head.field-0.0 _ (λ (head : Vec ℕ Global). head.items ≡ piece 0 28672 bytes) (c.in_err-head.ensures.told bytes is))

pub returns-then-len-ne-ROWS_SIZE-clause-told : goal.returns-then-len-ne-ROWS_SIZE-clause-told
returns-then-len-ne-ROWS_SIZE-clause-told g c = λ bytes is long.
    let size = head-long bytes c.in_ok-head.head.items (c.in_ok-head.ensures.told bytes is) long in
    let other = c.if-len-ne-ROWS_SIZE.true in
    let len = c.len.ensures in
    let ok = c.in_ok-head.head.ok.0 in
    omega (arith, size, other, len, ok)
