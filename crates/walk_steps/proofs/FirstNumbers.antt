-- At the start of a run the numbers are within their bounds.
use Rattle.std.proofs.Common.{◌≡◌, ◌≢◌, ◌≤◌, ◌<◌, ℕ, ◌+◌, ◌-◌, ◌==◌, Bool, true, false, List, [], ◌∷◌, ◌++◌, Some, None, if◌then◌else◌, length, refl}
use Rattle.std.proofs.Common.{sym, subst, ap, ◌∙◌, arith, length-append}
use Rattle.std.proofs.lemmas.Bool.{and_parts}
use Rattle.std.proofs.lemmas.List.{length-replicate}
use Rattle.std.proofs.lemmas.List.Elements.{All-nil, All-cons, All-append, All-replicate}
use Rattle.std.proofs.lemmas.List.Sums.{sum_by-cons}
use Rattle.std.specs.List.{All, AllByRecursion, sum_by}
use Rattle.std.specs.Prelude.{replicate}
use Rattle.nq_base.specs.Block.{zeros}
use Rattle.nq_model.specs.protocol.Change.{AreApart, IsBody, IsFileWithin, IsHostWithin}
use Rattle.nq_model.specs.protocol.Kept.{blocks_of, blocks_in_all, find_name, new_file, fresh_row}
use Rattle.nq_model.specs.protocol.Profile.{most_hosts, same_bytes}
use Rattle.nq_model.specs.protocol.ServerStep.{boot}
use Rattle.nq_model.specs.protocol.World.{Head, first_files, first_row, start}
use Rattle.nq_model.proofs.Finding.{same-number}
use Rattle.nq_model.proofs.FreshFits.{blocks-first}
use Rattle.nq_model.proofs.WithinBounds.{zeros-body}
use Rattle.nq_base.specs.Name.{AreDistinct, IsNew}
use Rattle.walk_steps.specs.Within.{IsFirstFile, IsHeadWithin, IsServerAfter}

-- ---- a new file

new-id : (id : ℕ) (name : List ℕ) (blocks : ℕ) → (new_file id name blocks).id ≡ id
unfolding new_file
new-id id name blocks = refl

new-rev : (id : ℕ) (name : List ℕ) (blocks : ℕ) → (new_file id name blocks).rev ≡ 0
unfolding new_file
new-rev id name blocks = refl

new-name : (id : ℕ) (name : List ℕ) (blocks : ℕ) → (new_file id name blocks).name ≡ name
unfolding new_file
new-name id name blocks = refl

new-blocks : (id : ℕ) (name : List ℕ) (blocks : ℕ) → blocks_of (new_file id name blocks) ≡ blocks
unfolding new_file
new-blocks id name blocks = length-replicate blocks zeros

new-within : (id next : ℕ) (f : List ℕ × ℕ) → 1 ≤ id → id < next → IsFirstFile f → IsFileWithin next (new_file id f.0 f.1)
unfolding new_file
new-within id next f from_one below own = record {
  from_one = from_one;
  below_next = below;
  name = own.0;
  rev = omega arith;
  not_empty = let size = length-replicate f.1 zeros in let some = own.1 in omega arith;
  short = let size = length-replicate f.1 zeros in let few = own.2 in omega arith;
  bodies = All-replicate IsBody f.1 zeros zeros-body;
}

-- ---- the files from the start

first-each : (next id : ℕ) (files : List (List ℕ × ℕ)) → 1 ≤ id → id + length files ≤ next → AllByRecursion IsFirstFile files
    → All (IsFileWithin next) (first_files id files)
first-each next id [] from_one few each = All-nil (IsFileWithin next)
first-each next id (f ∷ files) from_one few each =
    All-cons (IsFileWithin next) (new_file id f.0 f.1) (first_files (id + 1) files)
    (new-within id next f from_one (omega arith) each.0)
    (first-each next (id + 1) files (omega arith) (omega arith) each.1)

first-above : (low id : ℕ) (files : List (List ℕ × ℕ)) → low < id → All (λ f. low < f.id) (first_files id files)
first-above low id [] above = All-nil (λ f. low < f.id)
first-above low id (f ∷ files) above =
    All-cons (λ g. low < g.id) (new_file id f.0 f.1) (first_files (id + 1) files)
    (let here = new-id id f.0 f.1 in omega arith)
    (first-above low (id + 1) files (omega arith))

same-name : (a b : List ℕ) → same_bytes a b ≡ true → a ≡ b
same-name [] [] e = refl
same-name [] (y ∷ ys) e = absurd (cc)
same-name (x ∷ xs) [] e = absurd (cc)
same-name (x ∷ xs) (y ∷ ys) e =
    let k = and_parts (x == y) (same_bytes xs ys) e in
    let first : x ≡ y = same-number x y k.0 in
    let rest : xs ≡ ys = same-name xs ys k.1 in
    cc

other-name : (a b : List ℕ) → a ≢ b → same_bytes a b ≡ false
other-name a b apart = by (same_bytes a b) refl
  where
    by : (c : Bool) → same_bytes a b ≡ c → c ≡ false
    by true e = absurd (apart (same-name a b e))
    by false e = refl

pub first-unnamed : (name : List ℕ) (id : ℕ) (files : List (List ℕ × ℕ)) → IsNew name files → find_name name (first_files id files) ≡ None
first-unnamed name id [] new = refl
first-unnamed name id (f ∷ files) new =
    let other : same_bytes (new_file id f.0 f.1).name name ≡ false = ap (λ n. same_bytes n name) (new-name id f.0 f.1) ∙ other-name f.0 name new.0 in
    ap (λ b. if b then Some (new_file id f.0 f.1) else find_name name (first_files (id + 1) files)) other ∙ first-unnamed name (id + 1) files new.1

first-apart : (id : ℕ) (files : List (List ℕ × ℕ)) → AreDistinct files → AreApart (first_files id files)
first-apart id [] distinct = tt
first-apart id (f ∷ files) distinct = (
  subst (λ n. All (λ later. n < later.id) (first_files (id + 1) files)) (sym (new-id id f.0 f.1)) (first-above id (id + 1) files (omega arith)),
  subst (λ n. find_name n (first_files (id + 1) files) ≡ None) (sym (new-name id f.0 f.1)) (first-unnamed f.0 (id + 1) files distinct.0),
  first-apart (id + 1) files distinct.1,
)

pub first-length : (id : ℕ) (files : List (List ℕ × ℕ)) → length (first_files id files) ≡ length files
first-length id [] = refl
first-length id (f ∷ files) = let rest = first-length (id + 1) files in omega arith

pub first-blocks : (id : ℕ) (files : List (List ℕ × ℕ)) → blocks_in_all (first_files id files) ≡ sum_by (λ f. f.1) files
first-blocks id [] = refl
first-blocks id (f ∷ files) =
    blocks-first (new_file id f.0 f.1) (first_files (id + 1) files)
    ∙ ap (λ n. n + blocks_in_all (first_files (id + 1) files)) (new-blocks id f.0 f.1)
    ∙ ap (λ n. f.1 + n) (first-blocks (id + 1) files)
    ∙ sym (sum_by-cons (λ f. f.1) f files)

first-revisions : (id : ℕ) (files : List (List ℕ × ℕ)) → All (λ f. f.rev ≤ 0) (first_files id files)
first-revisions id [] = All-nil (λ f. f.rev ≤ 0)
first-revisions id (f ∷ files) =
    All-cons (λ g. g.rev ≤ 0) (new_file id f.0 f.1) (first_files (id + 1) files) (let none = new-rev id f.0 f.1 in omega arith)
    (first-revisions (id + 1) files)

-- ---- the rows of the hosts

hosts-within : (hosts : ℕ) → All IsHostWithin (replicate hosts first_row ++ replicate (most_hosts - hosts) fresh_row)
hosts-within hosts =
    All-append IsHostWithin (replicate hosts first_row) (replicate (most_hosts - hosts) fresh_row)
    (All-replicate IsHostWithin hosts first_row (record { inc = omega arith; seq = omega arith; value = omega arith }))
    (All-replicate IsHostWithin (most_hosts - hosts) fresh_row (record { inc = omega arith; seq = omega arith; value = omega arith }))

all-hosts : (hosts : ℕ) → hosts ≤ most_hosts → length (replicate hosts first_row ++ replicate (most_hosts - hosts) fresh_row) ≡ most_hosts
all-hosts hosts few =
    let parts = length-append (replicate hosts first_row) (replicate (most_hosts - hosts) fresh_row) in
    let first = length-replicate hosts first_row in
    let rest = length-replicate (most_hosts - hosts) fresh_row in
    omega arith

-- ---- the start

pub first-within : (head : Head) → IsHeadWithin head → IsServerAfter 0 (start head).server
unfolding start boot
first-within head h = record {
  within = record {
    files = first-each (length head.files + 1) 1 head.files (omega arith) (omega arith) h.files;
    apart = first-apart 1 head.files h.distinct;
    few_files = let few = h.few_files in let size = first-length 1 head.files in omega arith;
    few_blocks = let few = h.few_blocks in let size = first-blocks 1 head.files in omega arith;
    hosts = hosts-within head.hosts;
    all_hosts = all-hosts head.hosts h.hosts;
    opened = omega arith;
    boot = omega arith;
    long = h.long;
    short = h.short;
    ids = omega arith;
    few_ids = let few = h.few_files in omega arith;
  };
  grew = record {
    revisions = first-revisions 1 head.files;
    boots = omega arith;
    ids = let few = h.few_files in omega arith;
  };
  long = h.long;
  short = h.short;
}
