use Rattle.std.proofs.Common.{◌≡◌, ◌==◌, Bool, true, false, Some, None, if◌then◌else◌, refl, sym, ap, ◌∙◌}
use Rattle.std.specs.Prelude.{is_some}
use Rattle.nq_keeper.proofs.Edits.{got-at}
use Rattle.nq_keeper.specs.InOrder.{of_id}
use Rattle.nq_model.specs.protocol.Kept.{File}
use Rattle.nq_keeper.proofs.files.has_id.Goals as goal

tested : (f : File) (b : Bool) → b ≡ is_some (if b then Some f else None)
tested f true = refl
tested f false = refl

pub returns-in-Some : goal.returns-in-Some
returns-in-Some c =
    c.eq.ensures
    ∙ ap (λ i. i == c.args.id) c.id.ensures
    ∙ tested c.in-Some.file.now (c.in-Some.file.now.id == c.args.id)
    ∙ sym (ap (λ o. is_some (of_id c.args.id o)) (got-at c.args.files.now c.args.place c.in-Some.file.now c.in-Some.ensures.lookup.3.0
    c.in-Some.ensures.lookup.1))
