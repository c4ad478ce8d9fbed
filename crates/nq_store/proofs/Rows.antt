-- What the tables say of a file is what is kept of it.
use Rattle.std.proofs.Common.{◌≡◌, ◌≢◌, ◌<◌, ◌+◌, ◌==◌, ℕ, suc, Bool, true, false, List, [], ◌∷◌, ◌++◌, Option, Some, None, get_or, map, length, take}
use Rattle.std.proofs.Common.{drop, if◌then◌else◌, refl, sym, ap, subst, ◌∙◌, arith, length-append}
use Rattle.std.specs.List.{All, find, position, slice_get, sum_by}
use Rattle.std.specs.Prelude.{count_by, is_some, nat_eq, nat_lt, option_map, slice_index_or}
use Rattle.std.specs.Cmp.Lexicographic.{pointwise}
use Rattle.std.proofs.Math.Seq.{get_or-append_seam}
use Rattle.std.proofs.lemmas.Bool.Decides.{nat_tests}
use Rattle.std.proofs.lemmas.List.{append_assoc, length-map}
use Rattle.std.proofs.lemmas.List.Elements.{All-cons, All-nil, All-head, All-tail}
use Rattle.std.proofs.lemmas.List.Sums.{sum_by-cons}
use Rattle.std.proofs.lemmas.Option.{slice_get-map, unwrap_or-slice_get}
use Rattle.std.proofs.lemmas.Slice.Eq.{bytes_eq-Decides}
use Rattle.nq_base.specs.declared.FileRow.{FileRow}
use Rattle.nq_base.specs.declared.Space.{Space}
use Rattle.nq_image.specs.Kept.{body_in}
use Rattle.nq_image.specs.Standing.{AreNumbered, CanStand, IsApartFrom, PlacedFile, Standing, file_at, files_in, kept_at, row_at, row_blocks, with_rows}
use Rattle.nq_keeper.specs.Keeping.{body_at}
use Rattle.nq_model.specs.protocol.Change.{file_after, heads_of, row_of_found, space_of}
use Rattle.nq_model.specs.protocol.Kept.{File, blocks_in_all, blocks_of, find_file, find_name, fresh_row, host_row}
use Rattle.nq_plan.specs.Finding as said
use Rattle.nq_store.specs.Storing.{space_in}
use Rattle.nq_store.proofs.Sought.{IsOne, found-again, id_if, in-order, length-sum, rows-nearest, rows-sum}

-- ---- rows stand apart

abbrev pub AreApartRows : List (Option PlacedFile) → Type 0
AreApartRows [] = Unit {0}
AreApartRows (None ∷ rows) = AreApartRows rows
AreApartRows (Some f ∷ rows) = All (IsApartFrom f) rows × AreApartRows rows

all-rest : {X : Type 0} (P : X → Type 0) (xs ys : List X) → All P (xs ++ ys) → All P ys
all-rest P [] ys all = all
all-rest P (x ∷ xs) ys all = all-rest P xs ys (All-tail P x (xs ++ ys) all)

drop-behind : {X : Type 0} (xs : List X) (x : X) (ys : List X) → drop (suc (length xs)) (xs ++ x ∷ ys) ≡ ys
drop-behind [] x ys = refl
drop-behind (y ∷ xs) x ys = drop-behind xs x ys

module _ (s : Standing) (apart : (file : PlacedFile) → file.slot < 256 → row_at s file.slot ≡ Some file → CanStand s file) (all : length s.rows ≡ 256) where
  one-apart : (front rest : List (Option PlacedFile)) (f : PlacedFile) → s.rows ≡ front ++ Some f ∷ rest → f.slot ≡ length front → All (IsApartFrom f) rest
  one-apart front rest f is slot =
      let more = length-append front (Some f ∷ rest) in
      let size : length s.rows ≡ length (front ++ Some f ∷ rest) = ap length is in
      let within : f.slot < 256 = omega arith in
      let here : row_at s f.slot ≡ Some f =
      ap (λ (n : ℕ). slice_index_or s.rows n None) slot
      ∙ ap (λ (l : List (Option PlacedFile)). slice_index_or l (length front) None) is
      ∙ get_or-append_seam front (Some f) rest None in
      let can = apart f within here in
      let behind = all-rest (IsApartFrom f) (take f.slot s.rows) (drop (suc f.slot) s.rows) can.apart in
      let same : drop (suc f.slot) s.rows ≡ rest =
      ap (λ (n : ℕ). drop (suc n) s.rows) slot ∙ ap (λ (l : List (Option PlacedFile)). drop (suc (length front)) l) is ∙ drop-behind front (Some f) rest in
      subst (λ (l : List (Option PlacedFile)). All (IsApartFrom f) l) same behind

  next : (front rest : List (Option PlacedFile)) (row : Option PlacedFile) → s.rows ≡ front ++ row ∷ rest → s.rows ≡ (front ++ row ∷ []) ++ rest
  next front rest row is = is ∙ sym (append_assoc front (row ∷ []) rest)

  numbered-next : (front rest : List (Option PlacedFile)) (row : Option PlacedFile) → AreNumbered (length front + 1) rest
      → AreNumbered (length (front ++ row ∷ [])) rest
  numbered-next front rest row numbered = subst (λ (n : ℕ). AreNumbered n rest) (sym (length-append front (row ∷ []))) numbered

  pub rows-apart : (rest front : List (Option PlacedFile)) → s.rows ≡ front ++ rest → AreNumbered (length front) rest → AreApartRows rest
  rows-apart [] front is numbered = tt
  rows-apart (None ∷ rest) front is numbered = rows-apart rest (front ++ None ∷ []) (next front rest None is) (numbered-next front rest None numbered)
  rows-apart (Some f ∷ rest) front is numbered = (
    one-apart front rest f is numbered.0,
    rows-apart rest (front ++ Some f ∷ []) (next front rest (Some f) is) (numbered-next front rest (Some f)
        numbered.1),
  )

-- ---- one row of an id, and of a name

number-same : (m n : ℕ) → (m == n) ≡ true → m ≡ n
number-same m n h = grind (arith, nat_tests)

number-other : (m n : ℕ) → m ≢ n → (m == n) ≡ false
number-other m n other = grind (arith, nat_tests)

bytes-other : (b : Bool) (P : Type 0) → (b ≡ true → P) → (P → ⊥) → b ≡ false
bytes-other true P so never = absurd (never (so refl))
bytes-other false P so never = refl

module _ (id : ℕ) where
  abbrev has : PlacedFile → Bool
  has f = f.id == id

  other-id : (f : PlacedFile) (row : Option PlacedFile) → (f.id == id) ≡ true → IsApartFrom f row → said.has_id id row ≡ false
  other-id f None is apart = refl
  other-id f (Some g) is apart = number-other g.id id (λ e. apart.1 (e ∙ sym (number-same f.id id is)))

  others-id : (f : PlacedFile) (rows : List (Option PlacedFile)) → (f.id == id) ≡ true → All (IsApartFrom f) rows
      → All (λ row. said.has_id id row ≡ false) rows
  others-id f [] is all = All-nil (λ row. said.has_id id row ≡ false)
  others-id f (row ∷ rows) is all =
      All-cons (λ r. said.has_id id r ≡ false) row rows (other-id f row is (All-head (IsApartFrom f) row rows all))
      (others-id f rows is (All-tail (IsApartFrom f) row rows all))

  one-id : (rows : List (Option PlacedFile)) → AreApartRows rows → IsOne has (said.has_id id) refl (λ f. refl) rows
  one-id [] apart = tt
  one-id (None ∷ rows) apart = ((λ is. absurd (cc)), one-id rows apart)
  one-id (Some f ∷ rows) apart = ((λ is. others-id f rows is apart.0), one-id rows apart.1)

  pub id-found : (rows : List (Option PlacedFile)) → AreApartRows rows → said.file_in rows (said.slot_of id rows) ≡ find has (with_rows [] rows)
  id-found rows apart = in-order has (said.has_id id) refl (λ f. refl) rows (one-id rows apart)

module _ (name : List ℕ) where
  abbrev named : PlacedFile → Bool
  named f = pointwise nat_eq f.name name

  other-name : (f : PlacedFile) (row : Option PlacedFile) → pointwise nat_eq f.name name ≡ true → IsApartFrom f row → said.has_name name row ≡ false
  other-name f None is apart = refl
  other-name f (Some g) is apart =
      bytes-other (pointwise nat_eq g.name name) (g.name ≡ name) ((bytes_eq-Decides g.name name).0)
      (λ e. apart.0 (e ∙ sym ((bytes_eq-Decides f.name name).0 is)))

  others-name : (f : PlacedFile) (rows : List (Option PlacedFile)) → pointwise nat_eq f.name name ≡ true → All (IsApartFrom f) rows
      → All (λ row. said.has_name name row ≡ false) rows
  others-name f [] is all = All-nil (λ row. said.has_name name row ≡ false)
  others-name f (row ∷ rows) is all =
      All-cons (λ r. said.has_name name r ≡ false) row rows (other-name f row is (All-head (IsApartFrom f) row rows all))
      (others-name f rows is (All-tail (IsApartFrom f) row rows all))

  one-name : (rows : List (Option PlacedFile)) → AreApartRows rows → IsOne named (said.has_name name) refl (λ f. refl) rows
  one-name [] apart = tt
  one-name (None ∷ rows) apart = ((λ is. absurd (cc)), one-name rows apart)
  one-name (Some f ∷ rows) apart = ((λ is. others-name f rows is apart.0), one-name rows apart.1)

  pub name-found : (rows : List (Option PlacedFile)) → AreApartRows rows → said.file_in rows (position (said.has_name name) rows)
      ≡ find named (with_rows [] rows)
  name-found rows apart = in-order named (said.has_name name) refl (λ f. refl) rows (one-name rows apart)

-- ---- what is kept of them

find-map : (bytes : List ℕ) (p : File → Bool) (q : PlacedFile → Bool) → ((f : PlacedFile) → p (file_at bytes f) ≡ q f) → (files : List PlacedFile)
    → find p (map (file_at bytes) files) ≡ option_map (file_at bytes) (find q files)
find-map bytes p q same [] = refl
find-map bytes p q same (f ∷ files) =
    ap (λ (b : Bool). if b then Some (file_at bytes f) else find p (map (file_at bytes) files)) (same f) ∙ by (q f) (find-map bytes p q same files)
  where
    by : (b : Bool) → find p (map (file_at bytes) files) ≡ option_map (file_at bytes) (find q files) → (if b then Some (file_at bytes f)
        else find p (map (file_at bytes) files)) ≡ option_map (file_at bytes) (if b then Some f else find q files)
    by true more = refl
    by false more = more

abbrev with-blocks : PlacedFile → ℕ → FileRow
with-blocks f n = record { id = f.id; name = f.name; blocks = n; rev = f.rev }

row-kept : (bytes : List ℕ) (o : Option PlacedFile) → said.row_if o ≡ row_of_found (option_map (file_at bytes) o)
unfolding file_at
row-kept bytes None = refl
row-kept bytes (Some f) = ap (λ (n : ℕ). Some (with-blocks f n)) (sym (length-map f.blocks (body_in bytes)))

module _ (bytes : List ℕ) (s : Standing) (apart : AreApartRows s.rows) where
  id-of : (id : ℕ) (f : PlacedFile) → ((file_at bytes f).id == id) ≡ (f.id == id)
  unfolding file_at
  id-of id f = refl

  name-of : (name : List ℕ) (f : PlacedFile) → pointwise nat_eq (file_at bytes f).name name ≡ pointwise nat_eq f.name name
  unfolding file_at
  name-of name f = refl

  after-of : (after : ℕ) (f : PlacedFile) → nat_lt after (file_at bytes f).id ≡ nat_lt after f.id
  unfolding file_at
  after-of after f = refl

  kept-id : (id : ℕ) → find_file id (kept_at bytes s).files ≡ option_map (file_at bytes) (said.file_in s.rows (said.slot_of id s.rows))
  unfolding kept_at
  kept-id id =
      find-map bytes (λ f. f.id == id) (λ f. f.id == id) (id-of id) (files_in s)
      ∙ ap (λ (o : Option PlacedFile). option_map (file_at bytes) o) (sym (id-found id s.rows apart))

  pub row-is : (id : ℕ) → said.row_of s id ≡ row_of_found (find_file id (kept_at bytes s).files)
  row-is id = row-kept bytes (said.file_in s.rows (said.slot_of id s.rows)) ∙ ap row_of_found (sym (kept-id id))

  kept-name : (name : List ℕ) → find_name name (kept_at bytes s).files ≡ option_map (file_at bytes)
      (said.file_in s.rows (position (said.has_name name) s.rows))
  unfolding kept_at
  kept-name name =
      find-map bytes (λ f. pointwise nat_eq f.name name) (λ f. pointwise nat_eq f.name name) (name-of name) (files_in s)
      ∙ ap (λ (o : Option PlacedFile). option_map (file_at bytes) o) (sym (name-found name s.rows apart))

  pub named-is : (name : List ℕ) → said.row_named s name ≡ row_of_found (find_name name (kept_at bytes s).files)
  named-is name = row-kept bytes (said.file_in s.rows (position (said.has_name name) s.rows)) ∙ ap row_of_found (sym (kept-name name))

  behind-by : (after : ℕ) (o : Option PlacedFile) → find (λ f. nat_lt after f.id) (files_in s) ≡ o → said.row_found s (id_if o) ≡ said.row_if o
  behind-by after None is = refl
  behind-by after (Some f) is =
      ap said.row_if (id-found f.id s.rows apart ∙ found-again after (files_in s) f is)

  kept-after : (after : ℕ) → file_after after (kept_at bytes s).files ≡ option_map (file_at bytes) (find (λ f. nat_lt after f.id) (files_in s))
  unfolding kept_at
  kept-after after = find-map bytes (λ f. nat_lt after f.id) (λ f. nat_lt after f.id) (after-of after) (files_in s)

  pub behind-is : (after : ℕ) → said.row_behind s after ≡ row_of_found (file_after after (kept_at bytes s).files)
  behind-is after =
      ap (λ (n : Option ℕ). said.row_found s n) (rows-nearest after s.rows [])
      ∙ behind-by after (find (λ f. nat_lt after f.id) (files_in s)) refl
      ∙ row-kept bytes (find (λ f. nat_lt after f.id) (files_in s))
      ∙ ap row_of_found (sym (kept-after after))

  -- the body of a block
  body-by : (block : ℕ) (o : Option PlacedFile) → body_at block (option_map (file_at bytes) o) ≡ option_map (body_in bytes) (slice_get (row_blocks o) block)
  unfolding file_at
  body-by block None = refl
  body-by block (Some f) = slice_get-map (body_in bytes) f.blocks block

  pub body-is : (id block : ℕ) → body_at block (find_file id (kept_at bytes s).files) ≡ option_map (body_in bytes) (slice_get (said.blocks_of s id) block)
  body-is id block = ap (body_at block) (kept-id id) ∙ body-by block (said.file_in s.rows (said.slot_of id s.rows))

-- ---- how many there are

abbrev size : PlacedFile → ℕ
size f = length f.blocks

kept-size : (bytes : List ℕ) (files : List PlacedFile) → blocks_in_all (map (file_at bytes) files) ≡ sum_by size files
unfolding file_at
kept-size bytes [] = refl
kept-size bytes (f ∷ files) =
    let a = sum_by-cons blocks_of (file_at bytes f) (map (file_at bytes) files) in
    let b = sum_by-cons size f files in
    let c = kept-size bytes files in
    let d = length-map f.blocks (body_in bytes) in
    omega arith

pub blocks-are : (bytes : List ℕ) (s : Standing) → sum_by (λ row. length (row_blocks row)) s.rows ≡ blocks_in_all (kept_at bytes s).files
unfolding kept_at
blocks-are bytes s =
    let a = kept-size bytes (files_in s) in
    let b = rows-sum size (λ row. length (row_blocks row)) refl (λ f. refl) s.rows [] in
    omega arith

pub files-are : (bytes : List ℕ) (s : Standing) → count_by (λ row. is_some row) s.rows ≡ length (kept_at bytes s).files
unfolding kept_at
files-are bytes s =
    let a = length-map (files_in s) (file_at bytes) in
    let b = length-sum (files_in s) in
    let c = rows-sum (λ f. 1) (λ row. if is_some row then 1 else 0) refl (λ f. refl) s.rows [] in
    omega arith

pub space-is : (bytes : List ℕ) (s : Standing) (space : Space) → space.files ≡ count_by (λ row. is_some row) s.rows → space.blocks
    ≡ sum_by (λ row. length (row_blocks row)) s.rows → space ≡ space_of (kept_at bytes s)
space-is bytes s space files blocks =
    let made : ℕ → ℕ → Space = λ f b. record { files = f; blocks = b } in
    ap (λ (f : ℕ). made f space.blocks) (files ∙ files-are bytes s) ∙ ap (made (length (kept_at bytes s).files)) (blocks ∙ blocks-are bytes s)

-- ---- hosts and numbers

pub host-is : (bytes : List ℕ) (s : Standing) (host : ℕ) → get_or s.hosts host fresh_row ≡ host_row (kept_at bytes s) host
unfolding kept_at
host-is bytes s host = sym (unwrap_or-slice_get s.hosts host fresh_row)

pub heads-are : (bytes : List ℕ) (s : Standing) → s.heads ≡ heads_of (kept_at bytes s)
unfolding kept_at
heads-are bytes s = refl

pub space-in : (s : Standing) (space : Space) → space.files ≡ count_by (λ row. is_some row) s.rows → space.blocks
    ≡ sum_by (λ row. length (row_blocks row)) s.rows → space ≡ space_in s
space-in s space files blocks =
    let made : ℕ → ℕ → Space = λ f b. record { files = f; blocks = b } in
    ap (λ (f : ℕ). made f space.blocks) files ∙ ap (made (count_by (λ row. is_some row) s.rows)) blocks
