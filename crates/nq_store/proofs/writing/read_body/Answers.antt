use Rattle.std.proofs.Common.{◌≡◌, ℕ, List, Option, length, refl, subst, ◌∙◌}
use Rattle.std.specs.Prelude.{◌↔◌, IfSome, IsSome}
use Rattle.nq_disk.specs.Calling.{ReadsFront}
use Rattle.nq_store.proofs.Zeroing.{read-whole}
use Rattle.nq_store.proofs.writing.read_body.Goals as goal

pub returns-in-Ok-Some-clause-body : goal.returns-in-Ok-Some-clause-body
returns-in-Ok-Some-clause-body g c = λ bytes told whole.
    let buffer = c.read-read.new.into in
    let front = subst (λ (p : ℕ). ReadsFront c.in_default.field-0 p bytes buffer) c.block_place.ensures (c.in_default.ensures.told bytes told) in
    subst (λ (o : Option (List ℕ)). IfSome o (λ b. b ≡ buffer)) c.in-Ok-Some.field-0-is c.in-Ok-Some.ensures.block ∙ read-whole c.in_default.field-0
    c.args.block bytes buffer front ((subst (λ (o : Option (List ℕ)). IsSome o ↔ (length buffer ≡ 4096)) c.in-Ok-Some.field-0-is
    c.in-Ok-Some.ensures.size).0 refl) whole
