-- Lists of delayed writes, entry by entry.
use Rattle.std.proofs.Common.{◌≡◌, ◌≢◌, ◌⊎◌, ℕ, ◌==◌, Bool, true, false, not, List, [], ◌∷◌, ◌++◌, Option, Some, None, if◌then◌else◌, map, refl, sym}
use Rattle.std.proofs.Common.{subst, ap, ◌∙◌, inl, inr}
use Rattle.std.specs.List.{filter, list_any}
use Rattle.std.proofs.lemmas.Bool.{and_parts, not-true, or_parts}
use Rattle.nq_base.specs.declared.Push.{Push}
use Rattle.walk_steps.proofs.ClientMoves.{some-same, none-some}
use Rattle.nq_model.specs.protocol.Client.{is_push_of, is_push_at, other_dirty, push_passes, is_clean_in}
use Rattle.nq_model.specs.protocol.Hear.{push_of, other_push}
use Rattle.nq_model.specs.protocol.Settle.{overwritten, overwritten_at, with_write}
use Rattle.walk_steps.proofs.Members.{in-filter, in-push-of}
use Rattle.walk_steps.proofs.Packets.{In, in-append, in-last}
use Rattle.walk_steps.proofs.Rows.{same-number, number-same}

-- delayed writes wait, in the list or under way
abbrev pub IsWaiting : List Push → Option Push → Push → Type 0
IsWaiting dirty push p = In dirty p ⊎ (push ≡ Some p)

any-in : (test : Push → Bool) (dirty : List Push) (p : Push) → list_any test dirty ≡ false → In dirty p → test p ≡ false
any-in test [] p none there = absurd there
any-in test (q ∷ dirty) p none (inl same) = subst (λ x. test x ≡ false) same (or_parts (test q) (list_any test dirty) none).0
any-in test (q ∷ dirty) p none (inr there) = any-in test dirty p (or_parts (test q) (list_any test dirty) none).1 there

-- a clean file has none that wait
pub none-waiting : (file : ℕ) (dirty : List Push) (push : Option Push) (p : Push) → is_clean_in file dirty push ≡ true → IsWaiting dirty push p
    → p.file ≡ file → ⊥
none-waiting file dirty push p clean waits on =
    let both = and_parts (not (list_any (is_push_of file) dirty)) (not (push_passes (is_push_of file) push)) clean in
    let yes : is_push_of file p ≡ true = number-same p.file file on in
    step waits yes (not-true _ both.0) (not-true _ both.1)
  where
    step : IsWaiting dirty push p → is_push_of file p ≡ true → list_any (is_push_of file) dirty ≡ false → push_passes (is_push_of file) push ≡ false → ⊥
    step (inl there) passes none under = let no : is_push_of file p ≡ false = any-in (is_push_of file) dirty p none there in absurd (cc)
    step (inr is) passes none under = let no : is_push_of file p ≡ false = subst (λ o. push_passes (is_push_of file) o ≡ false) is under in absurd (cc)

-- a waiting entry keeps its file from being clean
pub waiting-dirty : (file : ℕ) (dirty : List Push) (push : Option Push) (p : Push) → IsWaiting dirty push p → p.file ≡ file
    → is_clean_in file dirty push ≡ false
waiting-dirty file dirty push p waits on = step (is_clean_in file dirty push) refl
  where
    step : (b : Bool) → is_clean_in file dirty push ≡ b → is_clean_in file dirty push ≡ false
    step true e = absurd (none-waiting file dirty push p e waits on)
    step false e = e

-- ---- a write

-- an entry after a write: the write's own, or one that was there
abbrev pub IsWritten : (file block number : ℕ) → List Push → Push → Type 0
IsWritten file block number dirty p = ((p.file ≡ file) × (p.block ≡ block) × (p.last ≡ number)) ⊎ In dirty p

overwritten-is : (file block number : ℕ) (body : List ℕ) (q p : Push) → overwritten_at file block number body q ≡ p
    → ((p.file ≡ file) × (p.block ≡ block) × (p.last ≡ number)) ⊎ (q ≡ p)
overwritten-is file block number body q p = step (is_push_at file block q) refl
  where
    step : (b : Bool) → is_push_at file block q ≡ b → (if b then overwritten number body q else q) ≡ p
        → ((p.file ≡ file) × (p.block ≡ block) × (p.last ≡ number)) ⊎ (q ≡ p)
    step true e is =
        let key = and_parts (q.file == file) (q.block == block) e in
        inl (
          ap (λ z. z.file) (sym is) ∙ same-number q.file file key.0,
          ap (λ z. z.block) (sym is) ∙ same-number q.block block key.1,
          ap (λ z. z.last) (sym is),
        )
    step false e is = inr is

overwritten-in : (file block number : ℕ) (body : List ℕ) (dirty : List Push) (p : Push) → In (map (overwritten_at file block number body) dirty) p
    → IsWritten file block number dirty p
overwritten-in file block number body [] p there = absurd there
overwritten-in file block number body (q ∷ dirty) p (inl is) = case (overwritten-is file block number body q p is)
  where
    case : ((p.file ≡ file) × (p.block ≡ block) × (p.last ≡ number)) ⊎ (q ≡ p) → IsWritten file block number (q ∷ dirty) p
    case (inl new) = inl new
    case (inr same) = inr (inl same)
overwritten-in file block number body (q ∷ dirty) p (inr there) = case (overwritten-in file block number body dirty p there)
  where
    case : IsWritten file block number dirty p → IsWritten file block number (q ∷ dirty) p
    case (inl new) = inl new
    case (inr old) = inr (inr old)

pub in-written : (file block number : ℕ) (body : List ℕ) (dirty : List Push) (o : Option Push) (p : Push)
    → In (with_write file block number body dirty o) p → IsWritten file block number dirty p
in-written file block number body dirty (Some q) p there = overwritten-in file block number body dirty p there
in-written file block number body dirty None p there =
    case (in-last dirty (record { file = file; block = block; first = number; last = number; body = body }) p there)
  where
    case : In dirty p ⊎ (record { file = file; block = block; first = number; last = number; body = body } ≡ p) → IsWritten file block number dirty p
    case (inl old) = inr old
    case (inr is) = inl (ap (λ z. z.file) (sym is), ap (λ z. z.block) (sym is), ap (λ z. z.last) (sym is))

-- ---- losses

-- all that are lost waited, and are of the file
pub lost-waited : (file : ℕ) (dirty : List Push) (push : Option Push) (p : Push) → In (push_of file push ++ filter (is_push_of file) dirty) p
    → IsWaiting dirty push p × (p.file ≡ file)
lost-waited file dirty push p there = case (in-append (push_of file push) (filter (is_push_of file) dirty) p there)
  where
    case : In (push_of file push) p ⊎ In (filter (is_push_of file) dirty) p → IsWaiting dirty push p × (p.file ≡ file)
    case (inl under) = let k = in-push-of file push p under in (inr k.0, k.1)
    case (inr listed) = let k = in-filter (is_push_of file) dirty p listed in (inl k.0, same-number p.file file k.1)

-- what waits after a loss waited before, and is of another file
pub left-waiting : (file : ℕ) (dirty : List Push) (push : Option Push) (p : Push) → IsWaiting (other_dirty file dirty) (other_push file push) p
    → IsWaiting dirty push p × (p.file ≢ file)
left-waiting file dirty push p (inl there) =
    let k = in-filter (λ q. not (is_push_of file q)) dirty p there in (
      inl k.0,
      λ on. let yes : (p.file == file) ≡ true = number-same p.file file on in
          let no : (p.file == file) ≡ false = not-true (p.file == file) k.1 in absurd (cc),
    )
left-waiting file dirty None p (inr is) = none-some p is
left-waiting file dirty (Some q) p (inr is) = step (is_push_of file q) refl is
  where
    step : (b : Bool) → is_push_of file q ≡ b → (if b then None else Some q) ≡ Some p → IsWaiting dirty (Some q) p × (p.file ≢ file)
    step true e is = none-some p is
    step false e is =
        let same : q ≡ p = some-same q p is in
        (inr is, λ on. let yes : (q.file == file) ≡ true = number-same q.file file (ap (λ z. z.file) same ∙ on) in absurd (cc))
