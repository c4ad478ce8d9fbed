-- Losses that are found one after the other.
use Rattle.std.proofs.Common.{◌≡◌, ◌<◌, ℕ, List, [], ◌∷◌, ◌++◌, ◌+◌, length, map, reverse, take, Some, refl, ap, ◌∙◌, add-one}
use Rattle.std.proofs.Math.Seq.{take-suc}
use Rattle.std.proofs.lemmas.List.{map-append, reverse-append}
use Rattle.std.proofs.lemmas.Option.{get_or_from_slice_get, slice_get_within}
use Rattle.std.specs.List.{slice_get}
use Rattle.nq_base.specs.declared.Loss.{Loss}
use Rattle.nq_base.specs.declared.Push.{Push}
use Rattle.nq_base.specs.declared.Who.{Who}
use Rattle.nq_client_parts.specs.Lost.{lost_entry}
use Rattle.nq_model.specs.protocol.Hear.{loss_entry, loss_of}

-- one more loss was copied
pub taken_more : (xs : List Loss) (i : ℕ) (x : Loss) → slice_get xs i ≡ Some x → take (i + 1) xs ≡ take i xs ++ x ∷ []
taken_more xs i x h =
    let below : i < length xs = slice_get_within xs i x h in
    rw add-one (take-suc xs i x below ∙ ap (λ y. take i xs ++ y ∷ []) (get_or_from_slice_get xs i x x h))

-- one more loss was noted
pub noted_more : (who : Who) (xs : List Loss) (i : ℕ) (x : Loss) → slice_get xs i ≡ Some x → reverse (map (lost_entry who) (take (i + 1) xs))
    ≡ lost_entry who x ∷ reverse (map (lost_entry who) (take i xs))
noted_more who xs i x h =
    ap (λ ys. reverse (map (lost_entry who) ys)) (taken_more xs i x h)
    ∙ ap reverse (map-append (lost_entry who) (take i xs) (x ∷ []))
    ∙ reverse-append (map (lost_entry who) (take i xs)) (lost_entry who x ∷ [])

-- losses are told as the delayed writes are that were lost
pub told_all : (who : Who) (ps : List Push) → map (lost_entry who) (map loss_of ps) ≡ map (loss_entry who) ps
told_all who [] = refl
told_all who (p ∷ ps) = ap (λ es. loss_entry who p ∷ es) (told_all who ps)
