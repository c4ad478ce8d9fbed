use Rattle.std.proofs.Common.{◌≡◌, ◌+◌, ◌++◌, [], ◌∷◌, List, take, Some, sym, ap, ◌∙◌, append_assoc}
use Rattle.std.specs.List.{slice_get}
use Rattle.nq_base.specs.declared.Loss.{Loss}
use Rattle.nq_client_parts.proofs.Found.{taken_more}
use Rattle.nq_client_parts.proofs.losses.copy_all.Goals as goal

pub loop-place-preserved : goal.loop-place-preserved
loop-place-preserved c =
    let all = c.args.losses.now.items in
    let into = c.args.into.now.items in
    let x = c.unwrap-loss.result in
    let place = c.loop-place.place in
    let got : slice_get all place ≡ Some x = sym c.get.ensures ∙ c.unwrap-loss.ensures in
    let pushed : c.push.new.losses.items ≡ (into ++ take place all) ++ x ∷ [] = c.in_ok-push.ensures ∙ ap (λ (xs : List Loss). xs ++ x ∷ [])
    c.loop-place.invariant in
    let grown : (into ++ take place all) ++ x ∷ [] ≡ into ++ take (place + 1) all = rw append_assoc (ap (λ (xs : List Loss). into ++ xs)
    (sym (taken_more all place x got))) in
    pushed ∙ grown
