-- How many delayed writes of a file there are, with the push under way.
use Rattle.std.proofs.Common.{◌≡◌, ◌≤◌, ℕ, ◌+◌, Bool, true, false, cond, List, [], ◌∷◌, length, filter, Option, Some, None, is_some, if◌then◌else◌}
use Rattle.std.proofs.Common.{refl, arith, length-append, add-one}
use Rattle.nq_base.specs.declared.Push.{Push}
use Rattle.nq_model.specs.protocol.Client.{is_push_of, push_passes}
use Rattle.nq_model.specs.protocol.Hear.{push_of, all_dirty_in}
use Rattle.nq_model.specs.protocol.Settle.{pending_in}

one-or-none : (b : Bool) (p : Push) → length (cond b (p ∷ []) []) ≡ (if b then 1 else 0)
one-or-none true p = refl
one-or-none false p = refl

pushed-count : (file : ℕ) (push : Option Push) → length (push_of file push) ≡ (if push_passes (is_push_of file) push then 1 else 0)
pushed-count file None = refl
pushed-count file (Some p) = one-or-none (is_push_of file p) p

-- those of the list and the push
pub count-all : (file : ℕ) (dirty : List Push) (push : Option Push) → length (all_dirty_in file dirty push) ≡ length (filter (is_push_of file) dirty)
    + (if push_passes (is_push_of file) push then 1 else 0)
count-all file dirty push = let n = length-append (push_of file push) (filter (is_push_of file) dirty) in omega (arith, n, pushed-count file push)

fewer-step : (b : Bool) (p : Push) (ps : List Push) (n : ℕ) → length ps ≤ n → length (cond b (p ∷ ps) ps) ≤ n + 1
fewer-step true p ps n h = omega arith
fewer-step false p ps n h = omega arith

fewer : (test : Push → Bool) (ps : List Push) → length (filter test ps) ≤ length ps
fewer test [] = omega arith
fewer test (p ∷ ps) = omega (arith, fewer-step (test p) p (filter test ps) (length ps) (fewer test ps), add-one (length ps))

passes-count : (file : ℕ) (push : Option Push) → (if push_passes (is_push_of file) push then 1 else 0) ≤ (if is_some push then 1 else 0)
passes-count file None = omega arith
passes-count file (Some p) = (elim (is_push_of file p) as (λ b. (if b then 1 else 0) ≤ 1) [ true ↦ omega arith | false ↦ omega arith ])

-- no more than there are of all files
pub all-few : (file : ℕ) (dirty : List Push) (push : Option Push) → length (all_dirty_in file dirty push) ≤ pending_in dirty push
all-few file dirty push = omega (arith, count-all file dirty push, fewer (is_push_of file) dirty, passes-count file push)

-- the push is of the file: there is one more than those of the list
pub count-with-push : (file : ℕ) (dirty : List Push) (push : Option Push) (listed : ℕ) → listed ≡ length (filter (is_push_of file) dirty)
    → push_passes (is_push_of file) push ≡ true → listed + 1 ≡ length (all_dirty_in file dirty push)
count-with-push file dirty push listed h on = let n = count-all file dirty push in let m = rw on at n in omega (arith, m, h)

-- it is not: there are those of the list
pub count-without-push : (file : ℕ) (dirty : List Push) (push : Option Push) (listed : ℕ) → listed ≡ length (filter (is_push_of file) dirty)
    → push_passes (is_push_of file) push ≡ false → listed ≡ length (all_dirty_in file dirty push)
count-without-push file dirty push listed h off = let n = count-all file dirty push in let m = rw off at n in omega (arith, m, h)
