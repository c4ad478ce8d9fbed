-- Names in order, and where each stands.
use Rattle.std.proofs.Common.{◌≡◌, ◌⊎◌, ℕ, ◌+◌, ◌≤◌, ◌<◌, Bool, true, false, List, [], ◌∷◌, Option, Some, None, if◌then◌else◌, suc, zero, get_or}
use Rattle.std.proofs.Common.{drop, drop-cons, length, refl, sym, ap, ◌∙◌, inl, inr, arith, Ordering, Less, Equal, Greater}
use Rattle.std.specs.List.{find, prefix_len, insert, slice_get}
use Rattle.std.specs.List.Sorted.{IsPartitionedBy, IsPartitionPoint}
use Rattle.std.specs.Fn.{Called, ComputesKey}
use Rattle.std.specs.Cmp.Lexicographic.{slice_cmp, same_text, texts_ties}
use Rattle.std.specs.Ordering.{is_lt, is_eq, nat_cmp, ordering_reverse}
use Rattle.std.proofs.lemmas.Cmp.{nat_list_cmp_total, tied_itself}
use Rattle.std.proofs.lemmas.List.{drop_all}
use Rattle.std.proofs.lemmas.List.Sorted.{IsPartitionPoint-from_clause}
use Rattle.std.proofs.lemmas.List.Sums.{prefix_len_is}
use denote.Param.Members.{Mut}
use denote.Ref.{Bor}
use Rattle.nq_model.specs.protocol.Profile.{same_bytes}
use Rattle.nq_directory.specs.declared.names.FileName.{FileName}
use Rattle.nq_directory.specs.Names.{file_if, file_of, named, name_before, is_before, is_named, put_name, put_names, NoneBefore, AreInOrder}
use Rattle.nq_directory.proofs.Called.{same-name, same-self}

pub decided : (b : Bool) → (b ≡ true) ⊎ (b ≡ false)
decided true = inl refl
decided false = inr refl

-- ---- two names

is-less : (o : Ordering) → is_lt o ≡ true → o ≡ Less
is-less Less h = refl
is-less Equal h = cc
is-less Greater h = cc

turned : (o p : Ordering) → p ≡ ordering_reverse o → is_lt o ≡ false → (p ≡ Less) ⊎ (p ≡ Equal)
turned Less p e h = cc
turned Equal p e h = inr e
turned Greater p e h = inl e

abbrev R : List ℕ → List ℕ → Ordering
R = slice_cmp nat_cmp

not-before-turned : (a b : List ℕ) → name_before b a ≡ false → (R a b ≡ Less) ⊎ (R a b ≡ Equal)
unfolding name_before
not-before-turned a b h = turned (R b a) (R a b) (nat_list_cmp_total.antisymm a b) h

-- a name that does not stand behind one that stands before another, stands before that too
pub goes-before : (a b n : List ℕ) → name_before b n ≡ true → name_before b a ≡ false → name_before a n ≡ true
unfolding name_before
goes-before a b n h k =
    let less = is-less (R b n) h in
    elim (not-before-turned a b k) [
      | inl e ↦ ap is_lt (nat_list_cmp_total.trans a b n e less)
      | inr e ↦ ap is_lt (nat_list_cmp_total.congr a b n e ∙ less)
    ]

pub not-before-itself : (a : List ℕ) → name_before a a ≡ false
unfolding name_before
not-before-itself a = ap is_lt (tied_itself nat_list_cmp_total a)

same-not-before : (a n : List ℕ) → same_bytes a n ≡ true → name_before a n ≡ false
same-not-before a n h = ap (λ x. name_before x n) (same-name a n h) ∙ not-before-itself n

before-not-same : (a n : List ℕ) → name_before a n ≡ true → same_bytes a n ≡ false
before-not-same a n h = elim (decided (same_bytes a n)) [
  | inl e ↦ let off = same-not-before a n e in absurd (cc)
  | inr e ↦ e
]

equal-same : (a n : List ℕ) → R a n ≡ Equal → same_bytes a n ≡ true
equal-same a n e =
    let same = same_text a n (sym (texts_ties a n ∙ ap is_eq e)) in
    ap (λ x. same_bytes x n) same ∙ same-self n

-- a name that is neither before another nor that one, stands behind it
pub is-behind : (a n : List ℕ) → name_before a n ≡ false → same_bytes a n ≡ false → name_before n a ≡ true
unfolding name_before
is-behind a n h k = elim (not-before-turned n a h) [
  | inl e ↦ ap is_lt e
  | inr e ↦
      let turned-back : R a n ≡ Equal = nat_list_cmp_total.antisymm a n ∙ ap ordering_reverse e in
      let on = equal-same a n turned-back in
      absurd (cc)
]

both-before : (a b : List ℕ) → name_before a b ≡ true → name_before b a ≡ true → name_before a a ≡ true
unfolding name_before
both-before a b h k = ap is_lt (nat_list_cmp_total.trans a b a (is-less (R a b) h) (is-less (R b a) k))

pub not-before-both : (a b : List ℕ) → name_before a b ≡ true → name_before b a ≡ false
not-before-both a b h = elim (decided (name_before b a)) [
  | inl e ↦ let off = not-before-itself a in let on = both-before a b h e in absurd (cc)
  | inr e ↦ e
]

-- ---- the place of a name

-- behind a name that neither is another nor stands before it, none does
none-behind : (x : FileName) (n : List ℕ) (xs : List FileName) → name_before x.name n ≡ false → same_bytes x.name n ≡ false → NoneBefore x.name xs
    → find (is_named n) xs ≡ None
none-behind x n [] h k o = refl
none-behind x n (y ∷ xs) h k o =
    let off : same_bytes y.name n ≡ false = other y o.0 in
    rw off (none-behind x n xs h k o.1)
  where
    other : (y : FileName) → name_before y.name x.name ≡ false → same_bytes y.name n ≡ false
    other y o = elim (decided (same_bytes y.name n)) [
      | inl e ↦
          let same = same-name y.name n e in
          let behind = is-behind x.name n h k in
          let off : name_before n x.name ≡ false = ap (λ m. name_before m x.name) (sym same) ∙ o in
          absurd (cc)
      | inr e ↦ e
    ]

-- an entry, if it is of a name
abbrev pub taken : (n : List ℕ) → Option FileName → Option FileName
taken n None = None
taken n (Some e) = if same_bytes e.name n then Some e else None

pub one-more : (n : ℕ) → 1 + n ≡ suc n
one-more n = omega arith

-- the entry of a name stands at its place
pub find-at : (n : List ℕ) (xs : List FileName) → AreInOrder xs → find (is_named n) xs ≡ taken n (slice_get xs (prefix_len (is_before n) xs))
find-at n [] o = refl
find-at n (x ∷ xs) o = elim (decided (name_before x.name n)) [
  | inl e ↦ let off = before-not-same x.name n e in rw (e, off, one-more (prefix_len (is_before n) xs)) (find-at n xs o.1)
  | inr e ↦ rw e (elim (decided (same_bytes x.name n)) [
    | inl k ↦ rw k refl
    | inr k ↦ let none = none-behind x n xs e k o.0 in rw (k, none) refl
  ])
]

pub file-taken : (n : List ℕ) (e : Option FileName) → file_of (taken n e) ≡ file_if n e
file-taken n None = refl
file-taken n (Some e) = step (same_bytes e.name n)
  where
    step : (b : Bool) → file_of (if b then Some e else None) ≡ (if b then Some e.file else None)
    step true = refl
    step false = refl

-- the file of a name is that of the entry at its place, if this has the name
pub found-at : (n : List ℕ) (xs : List FileName) (place : ℕ) (e : Option FileName) → AreInOrder xs → place ≡ prefix_len (is_before n) xs
    → e ≡ slice_get xs place → file_if n e ≡ named n xs
found-at n xs place e o is at =
    let here : e ≡ slice_get xs (prefix_len (is_before n) xs) = at ∙ ap (slice_get xs) is in
    ap (file_if n) here ∙ sym (file-taken n (slice_get xs (prefix_len (is_before n) xs))) ∙ ap file_of (sym (find-at n xs o))

none-further : (x : FileName) (xs : List FileName) (k : ℕ) (d : FileName) → NoneBefore x.name xs → k < length xs → name_before (get_or xs k d).name
    x.name ≡ false
none-further x [] k d o lt = absurd (omega arith)
none-further x (y ∷ xs) zero d o lt = o.0
none-further x (y ∷ xs) (suc k) d o lt = none-further x xs k d o.1 (omega arith)

-- the test parts names in order
pub parted : (n : List ℕ) (xs : List FileName) → AreInOrder xs → IsPartitionedBy (is_before n) xs
parted n [] o i j d le lt k = absurd (omega arith)
parted n (x ∷ xs) o zero zero d le lt k = k
parted n (x ∷ xs) o zero (suc j) d le lt k = goes-before x.name (get_or xs j d).name n k (none-further x xs j d o.0 (omega arith))
parted n (x ∷ xs) o (suc i) zero d le lt k = absurd (omega arith)
parted n (x ∷ xs) o (suc i) (suc j) d le lt k = parted n xs o.1 i j d (omega arith) (omega arith) k

-- what halving gives
pub place-from-clause : (n : List ℕ) → {F : Type 0} {g : Mut F (Bor FileName × Unit {0}) Bool} {f : F} (xs : List FileName) (place : ℕ)
    → AreInOrder xs → place ≤ length xs → ((q : FileName → Bool) → ComputesKey g q f → IsPartitionedBy q xs → IsPartitionPoint (λ y. q y ≡ true)
    (λ y. q y ≡ false) xs place) → ((a : Bor FileName × Unit {0}) (r : Bool) (f' : F) → Called g f a r f' → (r ≡ is_before n a.0.now) × (f' ≡ f))
    → place ≡ prefix_len (is_before n) xs
place-from-clause n [] place o within clause says = omega arith
place-from-clause n (d ∷ xs) place o within clause says =
    let point = IsPartitionPoint-from_clause (is_before n) (d ∷ xs) place clause (parted n (d ∷ xs) o) says in
    sym (prefix_len_is (is_before n) (d ∷ xs) place d within (λ k lt. point.0 k d (omega arith) lt) (λ lt. point.1 place d (omega arith) lt))

-- ---- a name more

-- it goes to its place
pub put-at : (e : FileName) (xs : List FileName) → put_name e xs ≡ insert xs (prefix_len (is_before e.name) xs) e
put-at e [] = refl
put-at e (x ∷ xs) = elim (decided (name_before x.name e.name)) [
  | inl h ↦ rw (h, one-more (prefix_len (is_before e.name) xs)) (ap (λ l. x ∷ l) (put-at e xs))
  | inr h ↦ rw h refl
]

none-put : (n : List ℕ) (e : FileName) (xs : List FileName) → name_before e.name n ≡ false → NoneBefore n xs → NoneBefore n (put_name e xs)
none-put n e [] h o = (h, tt)
none-put n e (x ∷ xs) h o = elim (decided (name_before x.name e.name)) [
  | inl k ↦ rw k (o.0, none-put n e xs h o.1)
  | inr k ↦ rw k (h, o)
]

none-of-all : (e x : FileName) (xs : List FileName) → name_before x.name e.name ≡ false → NoneBefore x.name xs → NoneBefore e.name xs
none-of-all e x [] h o = tt
none-of-all e x (y ∷ xs) h o = (off, none-of-all e x xs h o.1)
  where
    off : name_before y.name e.name ≡ false
    off = elim (decided (name_before y.name e.name)) [
      | inl k ↦ let on = goes-before x.name y.name e.name k o.0 in absurd (cc)
      | inr k ↦ k
    ]

-- and names stay in order
pub put-in-order : (e : FileName) (xs : List FileName) → AreInOrder xs → AreInOrder (put_name e xs)
put-in-order e [] o = (tt, tt)
put-in-order e (x ∷ xs) o = elim (decided (name_before x.name e.name)) [
  | inl h ↦ rw h (none-put x.name e xs (not-before-both x.name e.name h) o.0, put-in-order e xs o.1)
  | inr h ↦ rw h ((h, none-of-all e x xs h o.0), o)
]

-- ---- names that are put in one after another

pub put-next : (more : List FileName) (i : ℕ) (e : FileName) (names : List FileName) → i < length more → e ≡ get_or more i e → put_names (drop i more)
    names ≡ put_names (drop (i + 1) more) (put_name e names)
put-next more i e names lt is =
    let next : suc i ≡ i + 1 = omega arith in
    ap (λ l. put_names l names) (drop-cons more i e lt ∙ ap (λ x. x ∷ drop (suc i) more) (sym is))
    ∙ ap (λ n. put_names (drop n more) (put_name e names)) next

pub put-none : (more : List FileName) (i : ℕ) (names : List FileName) → length more ≤ i → put_names (drop i more) names ≡ names
put-none more i names le = ap (λ l. put_names l names) (drop_all i more le)
