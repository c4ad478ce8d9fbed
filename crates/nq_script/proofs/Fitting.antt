-- Files that fit, one more behind, and a part of them.
use Rattle.std.proofs.Common.{ℕ, ◌+◌, ◌<◌, ◌≤◌, List, [], ◌∷◌, ◌++◌, length, sym, arith}
use Rattle.std.specs.List.{AllByRecursion}
use Rattle.std.proofs.lemmas.List.{length-append}
use Rattle.std.proofs.lemmas.List.Sums.{sum_by-append}
use Rattle.nq_base.specs.Name.{IsNew, AreDistinct}
use Rattle.nq_script.specs.Heads.{IsFile, FitFiles, blocks_of}

-- what holds of each of some and of others holds of each of them
pub each-append : {A : Type 0} (P : A → Type 0) (xs ys : List A) → AllByRecursion P xs → AllByRecursion P ys → AllByRecursion P (xs ++ ys)
each-append P [] ys each others = others
each-append P (x ∷ xs) ys each others = (each.0, each-append P xs ys each.1 others)

pub each-front : {A : Type 0} (P : A → Type 0) (xs ys : List A) → AllByRecursion P (xs ++ ys) → AllByRecursion P xs
each-front P [] ys each = tt
each-front P (x ∷ xs) ys each = (each.0, each-front P xs ys each.1)

pub each-back : {A : Type 0} (P : A → Type 0) (xs ys : List A) → AllByRecursion P (xs ++ ys) → AllByRecursion P ys
each-back P [] ys each = each
each-back P (x ∷ xs) ys each = each-back P xs ys each.1

new-append : (name : List ℕ) (xs ys : List (List ℕ × ℕ)) → IsNew name xs → IsNew name ys → IsNew name (xs ++ ys)
new-append name [] ys new others = others
new-append name (x ∷ xs) ys new others = (new.0, new-append name xs ys new.1 others)

new-front : (name : List ℕ) (xs ys : List (List ℕ × ℕ)) → IsNew name (xs ++ ys) → IsNew name xs
new-front name [] ys new = tt
new-front name (x ∷ xs) ys new = (new.0, new-front name xs ys new.1)

new-back : (name : List ℕ) (xs ys : List (List ℕ × ℕ)) → IsNew name (xs ++ ys) → IsNew name ys
new-back name [] ys new = new
new-back name (x ∷ xs) ys new = new-back name xs ys new.1

distinct-more : (xs : List (List ℕ × ℕ)) (f : List ℕ × ℕ) → AreDistinct xs → IsNew f.0 xs → AreDistinct (xs ++ f ∷ [])
distinct-more [] f apart new = (tt, tt)
distinct-more (x ∷ xs) f apart new =
    (new-append x.0 xs (f ∷ []) apart.0 (λ same. new.0 (sym same), tt), distinct-more xs f apart.1 new.1)

distinct-front : (xs ys : List (List ℕ × ℕ)) → AreDistinct (xs ++ ys) → AreDistinct xs
distinct-front [] ys apart = tt
distinct-front (x ∷ xs) ys apart = (new-front x.0 xs ys apart.0, distinct-front xs ys apart.1)

distinct-last : (xs : List (List ℕ × ℕ)) (f : List ℕ × ℕ) → AreDistinct (xs ++ f ∷ []) → IsNew f.0 xs
distinct-last [] f apart = tt
distinct-last (x ∷ xs) f apart =
    (λ same. (new-back x.0 xs (f ∷ []) apart.0).0 (sym same), distinct-last xs f apart.1)

-- one file more fits where there is room for it and its name is new
pub fit-more : (files : List (List ℕ × ℕ)) (f : List ℕ × ℕ) → FitFiles files → IsFile f → length files < 256
    → blocks_of files + f.1 ≤ 16384 → IsNew f.0 files → FitFiles (files ++ f ∷ [])
fit-more files f fit is few small new = record {
  each = each-append IsFile files (f ∷ []) fit.each (is, tt);
  few_files = let long = length-append files (f ∷ []) in omega arith;
  few_blocks = let sum = sum_by-append (λ g. g.1) files (f ∷ []) in omega arith;
  distinct = distinct-more files f fit.distinct new;
}

-- files of which some more fit behind them fit
pub fit-front : (files more : List (List ℕ × ℕ)) → FitFiles (files ++ more) → FitFiles files
fit-front files more fit = record {
  each = each-front IsFile files more fit.each;
  few_files = let long = length-append files more in let count = fit.few_files in omega arith;
  few_blocks = let sum = sum_by-append (λ g. g.1) files more in let blocks = fit.few_blocks in omega arith;
  distinct = distinct-front files more fit.distinct;
}

-- where one file more fits there was room, and its name is new
pub fit-last : (files : List (List ℕ × ℕ)) (f : List ℕ × ℕ) → FitFiles (files ++ f ∷ [])
    → IsFile f × (length files < 256) × (blocks_of files + f.1 ≤ 16384) × IsNew f.0 files
fit-last files f fit =
    let long = length-append files (f ∷ []) in
    let count = fit.few_files in
    let sum = sum_by-append (λ g. g.1) files (f ∷ []) in
    let blocks = fit.few_blocks in
    ((each-back IsFile files (f ∷ []) fit.each).0, omega arith, omega arith, distinct-last files f fit.distinct)

-- no file at all fits
pub fit-none : FitFiles []
fit-none = record { each = tt; few_files = omega arith; few_blocks = omega arith; distinct = tt }
