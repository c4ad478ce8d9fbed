-- A file whose delayed writes were lost, and the call that is told of it.
use Rattle.std.proofs.Common.{◌≡◌, ℕ, Bool, true, false, not, List, [], ◌∷◌, filter, Option, Some, None, IsTrue, if◌then◌else◌, refl, ap}
use Rattle.std.specs.List.{list_any}
use Rattle.nq_base.specs.declared.Push.{Push}
use Rattle.nq_client_parts.specs.Lost.{waiting}
use Rattle.nq_model.specs.protocol.Client.{ClientStep, UnderWay, is_clean_in, is_push_of, other_dirty, push_passes}
use Rattle.nq_model.specs.protocol.Hear.{other_push, reports_to, waits_for}
use Rattle.nq_model.specs.protocol.Settle.{names_losses}

-- a call that waits is told
pub told : (t : ClientStep) (file q : ℕ) (o : Option UnderWay) → Some q ≡ waiting file o → names_losses t q file ≡ reports_to t file o
told t file q None h = absurd cc
told t file q (Some u) h = by (waits_for file u.written u.call) h
  where
    by : (b : Bool) → Some q ≡ (if b then Some u.q else None) → names_losses t q file ≡ (if b then names_losses t u.q file else t)
    by true h = let e : q ≡ u.q = cc in ap (λ n. names_losses t n file) e
    by false h = absurd cc

-- another one is not
pub untold : (t : ClientStep) (file : ℕ) (o : Option UnderWay) → None ≡ waiting file o → t ≡ reports_to t file o
untold t file None h = refl
untold t file (Some u) h = by (waits_for file u.written u.call) h
  where
    by : (b : Bool) → None ≡ (if b then Some u.q else None) → t ≡ (if b then names_losses t u.q file else t)
    by true h = absurd cc
    by false h = refl

none-step : (p : Push → Bool) (y : Push) (xs : List Push) (b : Bool) → list_any p xs ≡ false → p y ≡ b → list_any p (if not b then y ∷ xs else xs) ≡ false
none-step p y xs true rest e = rest
none-step p y xs false rest e = rw e rest

none-passes : (p : Push → Bool) (xs : List Push) → list_any p (filter (λ x. not (p x)) xs) ≡ false
none-passes p [] = refl
none-passes p (y ∷ xs) = none-step p y (filter (λ x. not (p x)) xs) (p y) (none-passes p xs) refl

none-under-way : (file : ℕ) (push : Option Push) → push_passes (is_push_of file) (other_push file push) ≡ false
none-under-way file None = refl
none-under-way file (Some p) = by (is_push_of file p) refl
  where
    by : (b : Bool) → is_push_of file p ≡ b → push_passes (is_push_of file) (if b then None else Some p) ≡ false
    by true e = refl
    by false e = e

-- a file whose delayed writes were lost is clean
pub clean_after : (file : ℕ) (dirty : List Push) (push : Option Push) → IsTrue (is_clean_in file (other_dirty file dirty) (other_push file push))
clean_after file dirty push = rw (none-passes (is_push_of file) dirty, none-under-way file push) refl
