-- Notices in order of files.
use Rattle.std.proofs.Common.{◌≡◌, ◌<◌, ◌==◌, ℕ, Bool, true, false, not, List, [], ◌∷◌, map, Option, Some, None, is_some, length, if◌then◌else◌, refl}
use Rattle.std.proofs.Common.{sym, ap, subst, ◌∙◌, arith}
use Rattle.std.specs.List.{slice_get, filter, insert, remove}
use Rattle.std.specs.Option.{option_map, IsSomeAnd}
use Rattle.std.proofs.lemmas.Bool.Decides.{nat_tests}
use Rattle.nq_client_parts.specs.ByFile.{Ascends, IsPlace, of_file}
use Rattle.nq_client_parts.proofs.Least.{least-of_all}
use Rattle.nq_client_parts.proofs.Places.{found-place, taken, none_taken, inserted, of_file-none, there_at}
use Rattle.nq_model.specs.protocol.ByFile.{insert_by}
use Rattle.nq_model.specs.protocol.Hear.{noticed_tag, with_notice}
use Rattle.nq_model.specs.protocol.Send.{least, noticed_in}
use Rattle.nq_model.specs.protocol.Client.{Notice, file_of_notice, notice_on, drop_notice, put_notice}

-- a list as it is
pub same_list : {X : Type 0} (xs : List X) → map (λ x. x) xs ≡ xs
same_list [] = refl
same_list (x ∷ xs) = ap (λ ys. x ∷ ys) (same_list xs)

same_option : {X : Type 0} (o : Option X) → option_map (λ x. x) o ≡ o
same_option None = refl
same_option (Some x) = refl

-- a filter that passed once passes again
pub filter-twice : {X : Type 0} (p : X → Bool) (xs : List X) → filter p (filter p xs) ≡ filter p xs
filter-twice p [] = refl
filter-twice p (x ∷ xs) = step p x xs (p x) refl (filter-twice p xs)
  where
    step : {X : Type 0} (p : X → Bool) (x : X) (xs : List X) (b : Bool) → p x ≡ b → filter p (filter p xs) ≡ filter p xs
        → filter p (if b then x ∷ filter p xs else filter p xs) ≡ (if b then x ∷ filter p xs else filter p xs)
    step p x xs true e h = rw e (ap (λ ys. x ∷ ys) h)
    step p x xs false e h = h

-- what stands at the place of a file is what is found of it
pub found : (file place : ℕ) (notices : List Notice) → Ascends file_of_notice notices → IsPlace file_of_notice file notices place
    → notice_on file notices ≡ of_file file_of_notice file (slice_get notices place)
found file place notices a at =
    ap (notice_on file) (sym (same_list notices))
    ∙ found-place file_of_notice (λ n. n) file notices place a at
    ∙ same_option (of_file file_of_notice file (slice_get notices place))

-- the list without what stands there
pub gone : (file place : ℕ) (notices : List Notice) → Ascends file_of_notice notices → IsPlace file_of_notice file notices place
    → IsSomeAnd (slice_get notices place) (λ n. n.file ≡ file) → (remove notices place ≡ drop_notice file notices) × Ascends file_of_notice
    (remove notices place)
gone file place notices a at there =
    let t = taken file_of_notice (λ n. n) file notices place a at there in
    (sym (same_list (remove notices place)) ∙ t.0 ∙ ap (drop_notice file) (same_list notices), t.1)

pub none_gone : (file place : ℕ) (notices : List Notice) → Ascends file_of_notice notices → IsPlace file_of_notice file notices place
    → (IsSomeAnd (slice_get notices place) (λ n. n.file ≡ file) → ⊥) → notices ≡ drop_notice file notices
none_gone file place notices a at none =
    sym (same_list notices)
    ∙ sym (none_taken file_of_notice (λ n. n) file notices place a at none)
    ∙ ap (drop_notice file) (same_list notices)

-- the list with another one
pub added : (notice : Notice) (place : ℕ) (notices : List Notice) → Ascends file_of_notice notices → IsPlace file_of_notice notice.file notices place
    → notice_on notice.file notices ≡ None → (insert notices place notice ≡ put_notice notice notices) × Ascends file_of_notice (insert notices place notice)
added notice place notices a at absent =
    let none = of_file-none file_of_notice (λ n. n) notice.file (slice_get notices place) (sym (found notice.file place notices a at) ∙ absent) in
    let put = inserted file_of_notice (λ n. n) notice notices place a at none in
    (sym (same_list (insert notices place notice)) ∙ put.0 ∙ ap (put_notice notice) (same_list notices), put.1)

-- where a notice is found it is of the file
pub of-file : (file : ℕ) (notices : List Notice) (n : Notice) → notice_on file notices ≡ Some n → n.file ≡ file
of-file file [] n h = absurd cc
of-file file (m ∷ ms) n h = step file m ms n (m.file == file) refl h (of-file file ms n)
  where
    step : (file : ℕ) (m : Notice) (ms : List Notice) (n : Notice) (b : Bool) → (m.file == file) ≡ b → (if b then Some m else notice_on file ms)
        ≡ Some n → (notice_on file ms ≡ Some n → n.file ≡ file) → n.file ≡ file
    step file m ms n true e h next = let same : m ≡ n = cc in subst (λ (x : Notice). x.file ≡ file) same (equal m.file file e)
      where
        equal : (i j : ℕ) → (i == j) ≡ true → i ≡ j
        equal i j e = grind (arith, nat_tests)
    step file m ms n false e h next = next h

-- the list without a file has nothing of it
pub absent : (file : ℕ) (notices : List Notice) → notice_on file (drop_notice file notices) ≡ None
absent file [] = refl
absent file (m ∷ ms) = step file m ms (m.file == file) refl (absent file ms)
  where
    step : (file : ℕ) (m : Notice) (ms : List Notice) (b : Bool) → (m.file == file) ≡ b → notice_on file (drop_notice file ms) ≡ None
        → notice_on file (if not b then m ∷ drop_notice file ms else drop_notice file ms) ≡ None
    step file m ms true e h = h
    step file m ms false e h = rw e h

-- what is found of a file stands at its place
pub there : (file place : ℕ) (notices : List Notice) → Ascends file_of_notice notices → IsPlace file_of_notice file notices place
    → is_some (notice_on file notices) ≡ true → IsSomeAnd (slice_get notices place) (λ n. n.file ≡ file) × (place < length notices)
there file place notices a at h = go (of_file file_of_notice file (slice_get notices place)) refl (ap is_some (sym (found file place notices a at)) ∙ h)
  where
    go : (o : Option Notice) → of_file file_of_notice file (slice_get notices place) ≡ o → is_some o ≡ true → IsSomeAnd (slice_get notices place)
        (λ n. n.file ≡ file) × (place < length notices)
    go None e some = absurd cc
    go (Some x) e some = there_at file_of_notice (λ n. n) file notices place x e

pub none-there : (file place : ℕ) (notices : List Notice) → Ascends file_of_notice notices → IsPlace file_of_notice file notices place
    → is_some (notice_on file notices) ≡ false → IsSomeAnd (slice_get notices place) (λ n. n.file ≡ file) → ⊥
none-there file place notices a at h = go (of_file file_of_notice file (slice_get notices place)) refl (ap is_some (sym (found file place notices a at)) ∙ h)
  where
    go : (o : Option Notice) → of_file file_of_notice file (slice_get notices place) ≡ o → is_some o ≡ false → IsSomeAnd (slice_get notices place)
        (λ n. n.file ≡ file) → ⊥
    go None e none = of_file-none file_of_notice (λ n. n) file (slice_get notices place) e
    go (Some x) e none = absurd cc

same-test : (i j : ℕ) → i ≡ j → (i == j) ≡ true
same-test i j e = grind (arith, nat_tests)

-- what stands at the place of a file, and is of it, is found
pub found-there : (file place : ℕ) (notices : List Notice) (n : Notice) → Ascends file_of_notice notices → IsPlace file_of_notice file notices place
    → slice_get notices place ≡ Some n → IsSomeAnd (slice_get notices place) (λ n. n.file ≡ file) → notice_on file notices ≡ Some n
found-there file place notices n a at got some =
    let e : n.file ≡ file = subst (λ (o : Option Notice). IsSomeAnd o (λ n. n.file ≡ file)) got some in
    found file place notices a at ∙ ap (of_file file_of_notice file) got ∙ rw (same-test n.file file e) refl

-- of two notices for a file the later tag is kept
pub kept : (notice joined : Notice) (waiting : Option Notice) (old mid new : List Notice) → waiting ≡ notice_on notice.file old → joined
    ≡ record { file = notice.file; tag = noticed_tag notice.tag waiting } → mid ≡ drop_notice notice.file old → new ≡ put_notice joined mid
    → new ≡ with_notice notice.file notice.tag old
kept notice joined waiting old mid new w j m n =
    let joins : Option Notice → Notice = λ o. record { file = notice.file; tag = noticed_tag notice.tag o } in
    n
    ∙ ap (λ x. put_notice x mid) (j ∙ ap joins w)
    ∙ ap (put_notice (joins (notice_on notice.file old))) m
    ∙ ap (insert_by file_of_notice (joins (notice_on notice.file old))) (filter-twice (λ (x : Notice). not (x.file == notice.file)) old)

-- the first notice is for the least file
pub first-least : (notices : List Notice) (n : Notice) → Ascends file_of_notice notices → slice_get notices 0 ≡ Some n → noticed_in notices ≡ Some n.file
first-least [] n a h = absurd cc
first-least (m ∷ ms) n a h =
    let same : m ≡ n = cc in
    ap (λ xs. least (map file_of_notice xs)) (sym (same_list (m ∷ ms)))
    ∙ least-of_all file_of_notice (λ x. x) m ms a
    ∙ ap (λ (x : Notice). Some x.file) same
