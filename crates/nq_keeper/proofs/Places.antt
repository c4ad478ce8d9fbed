-- Where a file stands among files in order of their ids.
use Rattle.std.proofs.Common.{◌≡◌, ℕ, ◌+◌, ◌≤◌, ◌<◌, ◌==◌, Bool, true, false, List, [], ◌∷◌, Option, Some, None, if◌then◌else◌, suc, zero, get_or}
use Rattle.std.proofs.Common.{set, length, refl, sym, subst, ap, ◌∙◌, inl, inr, arith}
use Rattle.std.specs.List.{prefix_len, remove, slice_get, All}
use Rattle.std.specs.List.Sorted.{IsPartitionedBy, IsPartitionPoint}
use Rattle.std.specs.Fn.{Called, ComputesKey}
use Rattle.std.proofs.lemmas.List.Sorted.{IsPartitionPoint-from_clause}
use Rattle.std.proofs.lemmas.List.Sums.{prefix_len_is}
use denote.Param.Members.{Mut}
use denote.Ref.{Bor}
use Rattle.std.specs.Prelude.{nat_lt, nat_le, is_some}
use Rattle.std.proofs.lemmas.Bool.Decides.{nat_tests}
use Rattle.nq_model.specs.protocol.Change.{AreApart, file_after}
use Rattle.nq_model.specs.protocol.Kept.{File, find_file, replace_file, drop_file}
use Rattle.nq_keeper.specs.InOrder.{is_below, is_upto, of_id}
use Rattle.nq_model.proofs.Finding.{decided, number-same, number-other}

-- ---- tests that hold up to a place

-- a test that holds of each file before one of which it holds
abbrev pub IsClosed : (File → Bool) → Type 0
IsClosed p = (a b : File) → a.id < b.id → p b ≡ true → p a ≡ true

pub closed-below : (id : ℕ) → IsClosed (is_below id)
closed-below id a b h k = grind (arith, nat_tests)

pub closed-upto : (id : ℕ) → IsClosed (is_upto id)
closed-upto id a b h k = grind (arith, nat_tests)

parted : (p : File → Bool) → IsClosed p → (files : List File) → AreApart files → IsPartitionedBy p files
parted p closed [] h i j d le lt k = absurd (omega arith)
parted p closed (f ∷ files) h zero zero d le lt k = k
parted p closed (f ∷ files) h zero (suc j) d le lt k = closed f (get_or files j d) (h.0 j d (omega arith)) k
parted p closed (f ∷ files) h (suc i) zero d le lt k = absurd (omega arith)
parted p closed (f ∷ files) h (suc i) (suc j) d le lt k = parted p closed files h.2 i j d (omega arith) (omega arith) k

-- what halving gives, where the test is closed
pub place-from-clause : (p : File → Bool) → IsClosed p → {F : Type 0} {g : Mut F (Bor File × Unit {0}) Bool} {f : F} (files : List File) (place : ℕ)
    → AreApart files → place ≤ length files → ((q : File → Bool) → ComputesKey g q f → IsPartitionedBy q files → IsPartitionPoint (λ y. q y ≡ true)
    (λ y. q y ≡ false) files place) → ((a : Bor File × Unit {0}) (r : Bool) (f' : F) → Called g f a r f' → (r ≡ p a.0.now) × (f' ≡ f))
    → place ≡ prefix_len p files
place-from-clause p closed [] place o within clause says = omega arith
place-from-clause p closed (d ∷ files) place o within clause says =
    let point = IsPartitionPoint-from_clause p (d ∷ files) place clause (parted p closed (d ∷ files) o) says in
    sym (prefix_len_is p (d ∷ files) place d within (λ k lt. point.0 k d (omega arith) lt) (λ lt. point.1 place d (omega arith) lt))

-- ---- the file at a place

one-more : (n : ℕ) → 1 + n ≡ suc n
one-more n = omega arith

-- none of the later files has an id that is not above this one
above-none : (id : ℕ) (files : List File) → All (λ f. id < f.id) files → find_file id files ≡ None
above-none id [] above = refl
above-none id (f ∷ files) above =
    let own : id < f.id = above 0 f (omega arith) in
    let other : (f.id == id) ≡ false = number-other f.id id (λ i. absurd (omega arith)) in
    rw other (above-none id files (λ k d lt. above (suc k) d (omega arith)))

above-further : (a b : ℕ) (files : List File) → a ≤ b → All (λ f. b < f.id) files → All (λ f. a < f.id) files
above-further a b files le above k d lt = let own : b < (get_or files k d).id = above k d lt in omega arith

-- the file of an id stands at the place of the id
pub find-at : (id : ℕ) (files : List File) → AreApart files → find_file id files ≡ of_id id (slice_get files (prefix_len (is_below id) files))
find-at id [] apart = refl
find-at id (f ∷ files) apart = elim (decided (nat_lt f.id id)) [
  | inl e ↦
      let other : (f.id == id) ≡ false = number-other f.id id (grind (arith, nat_tests)) in
      rw (e, other, one-more (prefix_len (is_below id) files)) (find-at id files apart.2)
  | inr e ↦
      let le : id ≤ f.id = grind (arith, nat_tests) in
      rw (e, above-none id files (above-further id f.id files le apart.0)) refl
]

-- a file at a place that has the id is the one of the id
if-passes : (id : ℕ) (f : File) (b : Bool) → is_some (if b then Some f else None) ≡ true → (if b then Some f else None) ≡ Some f
if-passes id f true h = refl
if-passes id f false h = cc

passes : (id : ℕ) (o : Option File) → is_some (of_id id o) ≡ true → of_id id o ≡ o
passes id None h = refl
passes id (Some f) h = if-passes id f (f.id == id) h

fails : (o : Option File) → is_some o ≡ false → o ≡ None
fails None h = refl
fails (Some f) h = cc

within : (id : ℕ) (files : List File) (place : ℕ) → is_some (of_id id (slice_get files place)) ≡ true → place < length files
within id [] place h = cc
within id (f ∷ files) zero h = omega arith
within id (f ∷ files) (suc place) h = let rest = within id files place h in omega arith

-- what the test at the place of an id says
pub found-at : (id : ℕ) (files : List File) (place : ℕ) → AreApart files → place ≡ prefix_len (is_below id) files
    → is_some (of_id id (slice_get files place)) ≡ true → (find_file id files ≡ slice_get files place) × (place < length files)
found-at id files place apart at h =
    (find-at id files apart ∙ ap (λ p. of_id id (slice_get files p)) (sym at) ∙ passes id (slice_get files place) h, within id files place h)

pub none-at : (id : ℕ) (files : List File) (place : ℕ) → AreApart files → place ≡ prefix_len (is_below id) files
    → is_some (of_id id (slice_get files place)) ≡ false → find_file id files ≡ None
none-at id files place apart at h =
    find-at id files apart ∙ ap (λ p. of_id id (slice_get files p)) (sym at) ∙ fails (of_id id (slice_get files place)) h

-- the first file above an id stands at the place behind the id
pub after-at : (id : ℕ) (files : List File) → file_after id files ≡ slice_get files (prefix_len (is_upto id) files)
after-at id [] = refl
after-at id (f ∷ files) = elim (decided (nat_le f.id id)) [
  | inl e ↦
      let other : nat_lt id f.id ≡ false = grind (arith, nat_tests) in
      rw (e, other, one-more (prefix_len (is_upto id) files)) (after-at id files)
  | inr e ↦ let own : nat_lt id f.id ≡ true = grind (arith, nat_tests) in rw (e, own) refl
]

-- ---- a file in place of the one of its id, and the files without it

same-above : (x : File) (files : List File) → All (λ f. x.id < f.id) files → replace_file x files ≡ files
same-above x [] above = refl
same-above x (f ∷ files) above =
    let own : x.id < f.id = above 0 f (omega arith) in
    let other : (f.id == x.id) ≡ false = number-other f.id x.id (λ i. absurd (omega arith)) in
    rw other (ap (λ l. f ∷ l) (same-above x files (λ k d lt. above (suc k) d (omega arith))))

all-stay : (id : ℕ) (files : List File) → All (λ f. id < f.id) files → drop_file id files ≡ files
all-stay id [] above = refl
all-stay id (f ∷ files) above =
    let own : id < f.id = above 0 f (omega arith) in
    let other : (f.id == id) ≡ false = number-other f.id id (λ i. absurd (omega arith)) in
    rw other (ap (λ l. f ∷ l) (all-stay id files (λ k d lt. above (suc k) d (omega arith))))

get-above : (id : ℕ) (f : File) (files : List File) (place : ℕ) → All (λ g. id < g.id) files → slice_get files place ≡ Some f → id < f.id
get-above id f [] place above at = cc
get-above id f (g ∷ files) zero above at = let same : g ≡ f = cc in subst (λ h. id < h.id) same (above 0 g (omega arith))
get-above id f (g ∷ files) (suc place) above at = get-above id f files place (λ k d lt. above (suc k) d (omega arith)) at

-- a file takes the place of the one of its id
pub replace-at : (x f : File) (files : List File) (place : ℕ) → AreApart files → slice_get files place ≡ Some f → f.id ≡ x.id → replace_file x files
    ≡ set files place x
replace-at x f [] place apart at same = cc
replace-at x f (g ∷ files) zero apart at same =
    let is : g ≡ f = cc in
    let own : g.id ≡ x.id = ap (λ h. h.id) is ∙ same in
    rw (number-same g.id x.id own) (ap (λ l. x ∷ l) (same-above x files (subst (λ i. All (λ h. i < h.id) files) own apart.0)))
replace-at x f (g ∷ files) (suc place) apart at same =
    let before : g.id < f.id = get-above g.id f files place apart.0 at in
    let other : (g.id == x.id) ≡ false = number-other g.id x.id (λ i. absurd (omega arith)) in
    rw other (ap (λ l. g ∷ l) (replace-at x f files place apart.2 at same))

-- a file is taken out of its place
pub drop-at : (id : ℕ) (f : File) (files : List File) (place : ℕ) → AreApart files → slice_get files place ≡ Some f → f.id ≡ id → drop_file id files
    ≡ remove files place
drop-at id f [] place apart at same = cc
drop-at id f (g ∷ files) zero apart at same =
    let is : g ≡ f = cc in
    let own : g.id ≡ id = ap (λ h. h.id) is ∙ same in
    rw (number-same g.id id own) (all-stay id files (subst (λ i. All (λ h. i < h.id) files) own apart.0))
drop-at id f (g ∷ files) (suc place) apart at same =
    let before : g.id < f.id = get-above g.id f files place apart.0 at in
    let other : (g.id == id) ≡ false = number-other g.id id (λ i. absurd (omega arith)) in
    rw other (ap (λ l. g ∷ l) (drop-at id f files place apart.2 at same))
