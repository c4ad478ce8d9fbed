-- What each element of a list has, it has after each change of the list.
use Rattle.std.proofs.Common.{◌≡◌, ℕ, zero, suc, ◌-◌, ◌==◌, Bool, true, false, List, [], ◌∷◌, Some, if◌then◌else◌, take, replicate, map, subst, inl, inr}
use Rattle.std.specs.List.{find, filter}
use Rattle.std.specs.Prelude.{slice_get, slice_set}
use Rattle.nq_model.specs.laws.Journal.{Each}
use Rattle.nq_model.specs.protocol.Profile.{at_most}
use Rattle.walk_steps.proofs.Members.{each-in, in-filtered, find-in}
use Rattle.walk_steps.proofs.Packets.{In, in-get}

module _ {X : Type 0} (F : X → Type 0) where
  pub each-at : (xs : List X) (x : X) → In xs x → Each F xs → F x
  each-at [] x i h = absurd i
  each-at (y ∷ xs) x (inl same) h = subst F same h.0
  each-at (y ∷ xs) x (inr i) h = each-at xs x i h.1

  pub each-get : (xs : List X) (n : ℕ) (x : X) → slice_get xs n ≡ Some x → Each F xs → F x
  each-get xs n x there h = each-at xs x (in-get xs n x there) h

  pub each-find : (test : X → Bool) (xs : List X) (x : X) → find test xs ≡ Some x → Each F xs → F x
  each-find test xs x found h = each-at xs x (find-in test xs x found) h

  pub each-filter : (test : X → Bool) (xs : List X) → Each F xs → Each F (filter test xs)
  each-filter test xs h = each-in F (filter test xs) (λ x i. each-at xs x (in-filtered test xs x i) h)

  pub each-through : (f : X → X) (xs : List X) → ((x : X) → F x → F (f x)) → Each F xs → Each F (map f xs)
  each-through f [] keeps h = tt
  each-through f (x ∷ xs) keeps h = (keeps x h.0, each-through f xs keeps h.1)

  pub each-set : (xs : List X) (i : ℕ) (x : X) → F x → Each F xs → Each F (slice_set xs i x)
  each-set [] i x new h = tt
  each-set (y ∷ xs) zero x new h = (new, h.1)
  each-set (y ∷ xs) (suc i) x new h = (h.0, each-set xs i x new h.1)

  pub each-take : (n : ℕ) (xs : List X) → Each F xs → Each F (take n xs)
  each-take zero xs h = tt
  each-take (suc n) [] h = tt
  each-take (suc n) (x ∷ xs) h = (h.0, each-take n xs h.1)

  pub each-replicate : (n : ℕ) (x : X) → F x → Each F (replicate n x)
  each-replicate zero x h = tt
  each-replicate (suc n) x h = (h, each-replicate n x h)

  pub each-most : (n : ℕ) (xs : List X) → Each F xs → Each F (at_most n xs)
  each-most n [] h = tt
  each-most n (x ∷ xs) h = step (n == 0) (each-most (n - 1) xs h.1)
    where
      step : (b : Bool) → Each F (at_most (n - 1) xs) → Each F (if b then [] else x ∷ at_most (n - 1) xs)
      step true rest = tt
      step false rest = (h.0, rest)
