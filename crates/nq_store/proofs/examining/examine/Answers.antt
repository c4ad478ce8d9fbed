use Rattle.std.proofs.Common.{◌≡◌, ℕ, List, Result, Ok, Err, length, sym, ap, subst, ◌∙◌, rules}
use Rattle.std.specs.List.{sum_by}
use Rattle.nq_image.specs.Image.{◌>>=◌, image_one, reached}
use Rattle.nq_image.specs.Rows.{blocks_of}
use Rattle.nq_image.specs.declared.ImageOne.{ImageOne}
use Rattle.nq_store.specs.Head.{head_one, if_reached}
use Rattle.nq_store.specs.Migrated.{blocks_in}
use Rattle.nq_store.proofs.Saying.{as-head}
use Rattle.nq_store.specs.Examining.{Examines, Tests}
use Rattle.nq_store.specs.Telling.{fault_of}
use Rattle.nq_store.specs.declared.fault.Fault.{Fault}
use Rattle.nq_store.proofs.Migrated.{both-right, head-wrong, reach-wrong}
use Rattle.nq_store.proofs.Asked.{asked-none}
use Rattle.nq_store.proofs.examining.examine.Goals as goal

pub returns-in_err-image-clause-told : goal.returns-in_err-image-clause-told
returns-in_err-image-clause-told g c = λ bytes told same.
    let is : c.from_residual.result ≡ Err (fault_of c.in_err-image.field-0.0) = search rules in
    let whole = as-head bytes ∙ ap (λ (h : List ℕ). head_one h >>= if_reached (length bytes)) (sym same) in
    subst (λ (r : Result ImageOne Fault). Examines r (image_one bytes)) (sym is) (head-wrong c.in_err-image.field-0.0 (head_one c.args.head.now)
    (image_one bytes) (length bytes) c.in_err-image.ensures.told whole)

pub returns-in_err-check_reach-clause-told : goal.returns-in_err-check_reach-clause-told
returns-in_err-check_reach-clause-told g c = λ bytes told same.
    let is : c.from_residual-in_err-check_reach.result ≡ Err c.in_err-check_reach.field-0.0 = search rules in
    let whole = as-head bytes ∙ ap (λ (h : List ℕ). head_one h >>= if_reached (length bytes)) (sym same) in
    let blocks : c.blocks_in.result ≡ blocks_in c.in_ok-image.image.rows.slots.items = c.blocks_in.ensures ∙ ap (λ s. sum_by blocks_of s)
    c.deref.ensures.value in
    let test = subst (λ (n : ℕ). Tests (Err c.in_err-check_reach.field-0.0) (reached (length bytes) n)) blocks (c.in_err-check_reach.ensures.told
    bytes told) in
    subst (λ (r : Result ImageOne Fault). Examines r (image_one bytes)) (sym is) (reach-wrong c.in_err-check_reach.field-0.0 c.in_ok-image.image
    (head_one c.args.head.now) (image_one bytes) (length bytes) c.in_ok-image.ensures.told test whole)

pub returns-clause-told : goal.returns-clause-told
returns-clause-told g c = λ bytes told same.
    let whole = as-head bytes ∙ ap (λ (h : List ℕ). head_one h >>= if_reached (length bytes)) (sym same) in
    let blocks : c.blocks_in.result ≡ blocks_in c.in_ok-image.image.rows.slots.items = c.blocks_in.ensures ∙ ap (λ s. sum_by blocks_of s)
    c.deref.ensures.value in
    let test = subst (λ (n : ℕ). reached (length bytes) n ≡ Ok tt) blocks (c.in_ok-check_reach.ensures.told bytes told) in
    both-right c.in_ok-image.image (head_one c.args.head.now) (image_one bytes) (length bytes) c.in_ok-image.ensures.told test whole

pub returns-in_err-image-clause-asked : goal.returns-in_err-image-clause-asked
returns-in_err-image-clause-asked g c =
    asked-none g.D.Disk.told g.D.Disk.follows g.D.Disk.may_leave g.D.Disk.leaves g.met.D.Disk.follows_itself g.met.D.Disk.leaves_now c.args.disk.now
