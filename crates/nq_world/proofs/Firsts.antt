-- The changes by which the files and the hosts of a head are kept.
use Rattle.std.proofs.Common.{◌≡◌, ◌≢◌, ◌≤◌, ◌<◌, ℕ, zero, suc, ◌+◌, ◌-◌, List, [], ◌∷◌, ◌++◌, Option, Some, None, length, take, refl, sym, subst, ap}
use Rattle.std.proofs.Common.{◌∙◌, arith, length-append}
use Rattle.std.proofs.lemmas.List.Elements.{All-nil, All-cons}
use Rattle.std.specs.List.{All, AllByRecursion}
use Rattle.std.specs.Prelude.{slice_get, slice_set, replicate, Result, Ok, Err, OnOk}
use Rattle.nq_base.specs.declared.Change.{Change}
use Rattle.nq_base.specs.declared.Heads.{Heads}
use Rattle.nq_base.specs.declared.FileRow.{FileRow}
use Rattle.nq_model.specs.protocol.Change.{Fits, IsChangeWithin, IsRowOf, file_of, with_file, with_file_at, kept_as, applied}
use Rattle.nq_model.specs.protocol.Kept.{File, Kept, blocks_in_all, find_file, new_file, fresh_row}
use Rattle.nq_model.specs.protocol.Profile.{most_hosts, shortest_term, longest_term}
use Rattle.nq_model.specs.protocol.World.{first_files, first_row}
use Rattle.nq_model.proofs.Files.{resized-none}
use Rattle.nq_model.proofs.FreshFits.{none-has}
use Rattle.nq_keeper.specs.Keeping.{Commits, told_after}
use Rattle.nq_keeper.specs.declared.keeper.KeepFault.{KeepFault}
use Rattle.nq_base.specs.Name.{AreDistinct, IsNew}
use Rattle.walk_steps.specs.Within.{IsFirstFile}
use Rattle.walk_steps.proofs.FirstNumbers.{first-unnamed, first-length, first-blocks}
use Rattle.nq_world.specs.First.{kept_first, heads_change, file_change, host_change, AreFirstFiles, Tells, told_as}
use Rattle.nq_world.proofs.Outboxes.{sum-take-below}

-- ---- the numbers of the server

pub heads-applied : (old longest : ℕ) (files : List (List ℕ × ℕ)) (hosts : ℕ) → applied (kept_first old files hosts)
    (heads_change longest (length files + 1)) ≡ kept_first longest files hosts
unfolding kept_as
heads-applied old longest files hosts = refl

pub heads-fit-first : (old longest : ℕ) (files : List (List ℕ × ℕ)) (hosts : ℕ) → Fits (kept_first old files hosts) (heads_change longest (length files + 1))
heads-fit-first old longest files hosts = record { file = tt; block = tt; host = tt; heads = omega arith; removed = tt }

-- its numbers are within their bounds, where the longest term is
pub heads-within-first : (old longest : ℕ) → shortest_term ≤ longest → longest ≤ longest_term → IsChangeWithin (kept_first old [] 0) (heads_change longest 1)
heads-within-first old longest long short = record {
  file = tt;
  block = tt;
  host = tt;
  heads = record { opened = omega arith; boot = omega arith; long = long; short = short; ids = omega arith; few_ids = omega arith };
}

-- so are those of the row of a host
pub host-within : (kept : Kept) (host : ℕ) → IsChangeWithin kept (host_change host)
host-within kept host = record { file = tt; block = tt; host = record { inc = omega arith; seq = omega arith; value = omega arith }; heads = tt }

-- ---- files

first-more : (id : ℕ) (files : List (List ℕ × ℕ)) (f : List ℕ × ℕ) → first_files id (files ++ f ∷ []) ≡ first_files id files
    ++ new_file (id + length files) f.0 f.1 ∷ []
first-more id [] f = let same : id ≡ id + 0 = omega arith in ap (λ n. new_file n f.0 f.1 ∷ []) same
first-more id (g ∷ files) f =
    let same : id + 1 + length files ≡ id + length (g ∷ files) = omega arith in
    ap (λ fs. new_file id g.0 g.1 ∷ fs) (first-more (id + 1) files f ∙ ap (λ n. first_files (id + 1) files ++ new_file n f.0 f.1 ∷ []) same)

new-of : (id : ℕ) (name : List ℕ) (blocks : ℕ) → file_of (record { id = id; name = name; blocks = blocks; rev = 0 }) [] ≡ new_file id name blocks
unfolding file_of new_file
new-of id name blocks = ap (λ bodies. record { id = id; name = name; rev = 0; bodies = bodies }) (resized-none blocks)

new-id : (id : ℕ) (name : List ℕ) (blocks : ℕ) → (new_file id name blocks).id ≡ id
unfolding new_file
new-id id name blocks = refl

others : (id next : ℕ) (files : List (List ℕ × ℕ)) → id + length files ≤ next → All (λ f. f.id ≢ next) (first_files id files)
others id next [] below = All-nil (λ f. f.id ≢ next)
others id next (f ∷ files) below =
    All-cons (λ g. g.id ≢ next) (new_file id f.0 f.1) (first_files (id + 1) files)
    (λ same. let here = new-id id f.0 f.1 in absurd (omega arith))
    (others (id + 1) next files (omega arith))

not-found : (files : List (List ℕ × ℕ)) → find_file (length files + 1) (first_files 1 files) ≡ None
not-found files = none-has (length files + 1) (first_files 1 files) (others 1 (length files + 1) files (omega arith))

with-first : (files : List (List ℕ × ℕ)) (f : List ℕ × ℕ) → with_file (record { id = length files + 1; name = f.0; blocks = f.1; rev = 0 })
    (first_files 1 files) ≡ first_files 1 (files ++ f ∷ [])
with-first files f =
    let row : FileRow = record { id = length files + 1; name = f.0; blocks = f.1; rev = 0 } in
    let same : length files + 1 ≡ 1 + length files = omega arith in
    ap (with_file_at row (first_files 1 files)) (not-found files)
    ∙ ap (λ x. first_files 1 files ++ x ∷ []) (new-of (length files + 1) f.0 f.1)
    ∙ ap (λ n. first_files 1 files ++ new_file n f.0 f.1 ∷ []) same
    ∙ sym (first-more 1 files f)

pub file-applied : (longest : ℕ) (files : List (List ℕ × ℕ)) (f : List ℕ × ℕ) → applied (kept_first longest files 0)
    (file_change longest (length files + 1) f) ≡ kept_first longest (files ++ f ∷ []) 0
unfolding kept_as
file-applied longest files f =
    let more : length files + 1 + 1 ≡ length (files ++ f ∷ []) + 1 = omega (arith, length-append files (f ∷ [])) in
    ap (λ fs. record {
      files = fs;
      hosts = replicate 0 first_row ++ replicate (most_hosts - 0) fresh_row;
      boot = 0;
      opened = 0;
      longest = longest;
      next = length files + 1 + 1;
    }) (with-first files f)
    ∙ ap (λ n. record {
      files = first_files 1 (files ++ f ∷ []);
      hosts = replicate 0 first_row ++ replicate (most_hosts - 0) fresh_row;
      boot = 0;
      opened = 0;
      longest = longest;
      next = n;
    }) more

new-among : (files : List (List ℕ × ℕ)) (f : List ℕ × ℕ) → AreDistinct (files ++ f ∷ []) → IsNew f.0 files
new-among [] f distinct = tt
new-among (g ∷ files) f distinct = (λ same. last-differs g.0 files f distinct.0 (sym same), new-among files f distinct.1)
  where
    last-differs : (name : List ℕ) (more : List (List ℕ × ℕ)) (x : List ℕ × ℕ) → IsNew name (more ++ x ∷ []) → x.0 ≢ name
    last-differs name [] x new = new.0
    last-differs name (y ∷ more) x new = last-differs name more x new.1

last-file : (files : List (List ℕ × ℕ)) (f : List ℕ × ℕ) → AllByRecursion IsFirstFile (files ++ f ∷ []) → IsFirstFile f
last-file [] f each = each.0
last-file (g ∷ files) f each = last-file files f each.1

pub file-fits : (longest : ℕ) (files : List (List ℕ × ℕ)) (f : List ℕ × ℕ) → AreFirstFiles (files ++ f ∷ []) → Fits (kept_first longest files 0)
    (file_change longest (length files + 1) f)
file-fits longest files f fine =
    let own : IsFirstFile f = last-file files f fine.each in
    let kept : Kept = kept_first longest files 0 in
    let heads : Heads = record { boot = 0; opened = 0; longest = longest; next = length files + 1 + 1 } in
    let row : FileRow = record { id = length files + 1; name = f.0; blocks = f.1; rev = 0 } in
    let after = with-first files f in
    record {
      file = record {
        of_file = subst (IsRowOf kept (Some heads) row) (sym (not-found files)) (refl, first-unnamed f.0 1 files (new-among files f fine.distinct), refl);
        not_empty = own.1;
        short = own.2;
        few_files = subst (λ (fs : List File). length fs ≤ 256) (sym after) (let size = first-length 1 (files ++ f ∷ []) in let few =
            fine.few_files in omega arith);
        few_blocks = subst (λ (fs : List File). blocks_in_all fs ≤ 16384) (sym after) (let size = first-blocks 1 (files ++ f ∷ []) in let few =
            fine.few_blocks in omega arith);
      };
      block = tt;
      host = tt;
      heads = omega arith;
      removed = tt;
    }

pub file-within : (longest : ℕ) (files : List (List ℕ × ℕ)) (f : List ℕ × ℕ) → shortest_term ≤ longest → longest ≤ longest_term
    → AreFirstFiles (files ++ f ∷ []) → IsChangeWithin (kept_first longest files 0) (file_change longest (length files + 1) f)
file-within longest files f long short fine =
    let own : IsFirstFile f = last-file files f fine.each in
    let few : length (files ++ f ∷ []) ≤ 256 = fine.few_files in
    record {
      file = (own.0, omega arith);
      block = tt;
      host = tt;
      heads = record {
        opened = omega arith;
        boot = omega arith;
        long = long;
        short = short;
        ids = omega arith;
        few_ids =
            omega (arith, length-append files (f ∷ []));
      };
    }

-- ---- the front of a list of files

pub take-more : {A : Type 0} (xs : List A) (k : ℕ) (x : A) → slice_get xs k ≡ Some x → take (suc k) xs ≡ take k xs ++ x ∷ []
take-more [] k x e = absurd (cc)
take-more (y ∷ xs) zero x e = let one : y ≡ x = cc in ap (λ z. z ∷ []) one
take-more (y ∷ xs) (suc k) x e = ap (λ zs. y ∷ zs) (take-more xs k x e)

each-taken : (k : ℕ) (files : List (List ℕ × ℕ)) → AllByRecursion IsFirstFile files → AllByRecursion IsFirstFile (take k files)
each-taken zero [] each = tt
each-taken zero (f ∷ files) each = tt
each-taken (suc k) [] each = tt
each-taken (suc k) (f ∷ files) each = (each.0, each-taken k files each.1)

fewer-taken : (k : ℕ) (files : List (List ℕ × ℕ)) → length (take k files) ≤ length files
fewer-taken zero [] = omega arith
fewer-taken zero (f ∷ files) = omega arith
fewer-taken (suc k) [] = omega arith
fewer-taken (suc k) (f ∷ files) = let rest = fewer-taken k files in omega arith

new-taken : (k : ℕ) (name : List ℕ) (files : List (List ℕ × ℕ)) → IsNew name files → IsNew name (take k files)
new-taken zero name [] new = tt
new-taken zero name (f ∷ files) new = tt
new-taken (suc k) name [] new = tt
new-taken (suc k) name (f ∷ files) new = (new.0, new-taken k name files new.1)

distinct-taken : (k : ℕ) (files : List (List ℕ × ℕ)) → AreDistinct files → AreDistinct (take k files)
distinct-taken zero [] distinct = tt
distinct-taken zero (f ∷ files) distinct = tt
distinct-taken (suc k) [] distinct = tt
distinct-taken (suc k) (f ∷ files) distinct = (new-taken k f.0 files distinct.0, distinct-taken k files distinct.1)

pub taken-fine : (k : ℕ) (files : List (List ℕ × ℕ)) → AreFirstFiles files → AreFirstFiles (take k files)
taken-fine k files fine = record {
  each = each-taken k files fine.each;
  few_files = let few = fine.few_files in omega (arith, fewer-taken k files);
  few_blocks = let few = fine.few_blocks in omega (arith, sum-take-below (λ (f : List ℕ × ℕ). f.1) files k);
  distinct = distinct-taken k files fine.distinct;
}

-- ---- hosts

next-row : (host more : ℕ) → slice_set (replicate host first_row ++ replicate (suc more) fresh_row) host first_row ≡ replicate (suc host) first_row
    ++ replicate more fresh_row
next-row zero more = refl
next-row (suc host) more = ap (λ rows. first_row ∷ rows) (next-row host more)

pub host-applied : (longest : ℕ) (files : List (List ℕ × ℕ)) (host : ℕ) → host < most_hosts → applied (kept_first longest files host)
    (host_change host) ≡ kept_first longest files (suc host)
unfolding kept_as
host-applied longest files host below =
    let left : most_hosts - host ≡ suc (most_hosts - suc host) = omega arith in
    ap (λ rows. record { files = first_files 1 files; hosts = rows; boot = 0; opened = 0; longest = longest; next = length files + 1 })
    (ap (λ n. slice_set (replicate host first_row ++ replicate n fresh_row) host first_row) left ∙ next-row host (most_hosts - suc host))

-- ---- what is told

pub told-next : (told : Option Kept) (before after : Kept) (change : Change) → Tells before told → applied before change ≡ after
    → told_after change told ≡ told_as after told
told-next None before after change tells is = refl
told-next (Some found) before after change tells is = ap Some (ap (λ k. applied k change) (tells found refl) ∙ is)

pub told-told : (told tells : Option Kept) (kept : Kept) → tells ≡ told_as kept told → Tells kept tells
told-told None tells kept is found e = absurd (cc)
told-told (Some k) tells kept is found e = cc

pub told-on : (told middle tells : Option Kept) (first second : Kept) → middle ≡ told_as first told → tells ≡ told_as second middle
    → tells ≡ told_as second told
told-on None middle tells first second one two = two ∙ ap (told_as second) one
told-on (Some k) middle tells first second one two = two ∙ ap (told_as second) one

-- a commit that was made leads from what was told to what is told
pub commit-told : (r : Result Unit KeepFault) (change : Change) (told tells : Option Kept) (before count : ℕ) (next : Option Kept)
    → Commits r change told tells before count → told_after change told ≡ next → OnOk r (tells ≡ next)
commit-told (Ok done) change told tells before count next commits is = commits.0 ∙ is
commit-told (Err fault) change told tells before count next commits is = tt

-- what holds after a call that was made
pub made-so : {X : Type 0} (r : Result X KeepFault) (P Q : Type 0) → (P → Q) → OnOk r P → OnOk r Q
made-so (Ok done) P Q so p = so p
made-so (Err fault) P Q so p = tt
