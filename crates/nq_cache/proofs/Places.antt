-- Where the revision of a file stands, among revisions in order of files.
use Rattle.std.proofs.Common.{◌≡◌, ◌≤◌, ◌<◌, ℕ, ◌+◌, ◌==◌, Bool, true, false, cond, List, [], ◌∷◌, ◌++◌, length, get_or, take, drop, map, Option}
use Rattle.std.proofs.Common.{Some, None, zero, suc, nat_lt, refl, sym, ap, subst, ◌∙◌, arith, ◌⊎◌, inl, inr, length-take, length-drop, get_or-take}
use Rattle.std.proofs.Common.{get_or-drop}
use Rattle.std.specs.List.{AllByRecursion, insert, slice_get, slice_set}
use Rattle.std.specs.Option.{option_map, IsSomeAnd}
use Rattle.std.specs.List.Sorted.{IsPartitionedBy, IsPartitionPoint}
use Rattle.std.proofs.lemmas.Bool.Decides.{nat_tests}
use Rattle.std.proofs.lemmas.List.{take-append-drop, set_split}
use Rattle.std.proofs.lemmas.List.Elements.{All-from_recursion, recursion_from_All}
use Rattle.nq_cache.specs.Revisions.{revision, of_file, Ascends, IsPlace}
use Rattle.nq_cache.specs.declared.revisions.KnownRevision.{KnownRevision}
use Rattle.nq_model.specs.protocol.ByFile.{insert_by}
use Rattle.nq_model.specs.protocol.Client.{Revision, revision_of, drop_revision, put_revision, file_of_revision}

-- ---- in order

rises : (ks : List KnownRevision) → Ascends ks → (i j : ℕ) (d : KnownRevision) → i < j → j < length ks → (get_or ks i d).file < (get_or ks j d).file
rises [] a i j d lt within = absurd (omega arith)
rises (k ∷ ks) a zero zero d lt within = absurd (omega arith)
rises (k ∷ ks) a zero (suc j) d lt within = All-from_recursion (λ later. k.file < later.file) ks a.0 j d (omega arith)
rises (k ∷ ks) a (suc i) zero d lt within = absurd (omega arith)
rises (k ∷ ks) a (suc i) (suc j) d lt within = rises ks a.1 i j d (omega arith) (omega arith)

earlier : (m n file : ℕ) → m < n → nat_lt n file ≡ true → nat_lt m file ≡ true
earlier m n file lt h = grind (arith, nat_tests)

parted-at : (file i j : ℕ) (d : KnownRevision) (ks : List KnownRevision) → Ascends ks → i ≤ j → j < length ks → nat_lt (get_or ks j d).file file ≡ true → (i ≡ j)
    ⊎ (i < j) → nat_lt (get_or ks i d).file file ≡ true
parted-at file i j d ks a le within h (inl e) = subst (λ m. nat_lt (get_or ks m d).file file ≡ true) (sym e) h
parted-at file i j d ks a le within h (inr lt) = earlier (get_or ks i d).file (get_or ks j d).file file (rises ks a i j d lt within) h

either : (i j : ℕ) → i ≤ j → (i ≡ j) ⊎ (i < j)
either i j le = grind arith

-- those of earlier files stand before the others
pub parted : (file : ℕ) (ks : List KnownRevision) → Ascends ks → IsPartitionedBy (λ k. nat_lt k.file file) ks
parted file ks a = λ i j d le within h. parted-at file i j d ks a le within h (either i j le)

below : (m n : ℕ) → nat_lt m n ≡ true → m < n
below m n h = grind (arith, nat_tests)

not-below : (m n : ℕ) → nat_lt m n ≡ false → n ≤ m
not-below m n h = grind (arith, nat_tests)

-- the place at which those of earlier files end
pub is_place : (file : ℕ) (ks : List KnownRevision) (place : ℕ) → place ≤ length ks → IsPartitionPoint (λ k. nat_lt k.file file ≡ true)
    (λ k. nat_lt k.file file ≡ false) ks place → IsPlace file ks place
is_place file ks place within point = record {
  within = within;
  before = recursion_from_All (λ k. k.file < file) (take place ks) (λ i d lt. before-at file ks place i d within lt (point.0 i d));
  behind = recursion_from_All (λ k. file ≤ k.file) (drop place ks) (λ i d lt. behind-at file ks place i d within lt (point.1 (place + i) d));
}
  where
    before-at : (file : ℕ) (ks : List KnownRevision) (place i : ℕ) (d : KnownRevision) → place ≤ length ks → i < length (take place ks)
        → (0 ≤ i → i < place → nat_lt (get_or ks i d).file file ≡ true) → (get_or (take place ks) i d).file < file
    before-at file ks place i d within lt h =
        let short : i < place = omega (arith, length-take place ks) in
        rw (get_or-take place ks i d short) (below _ file (h (omega arith) short))

    behind-at : (file : ℕ) (ks : List KnownRevision) (place i : ℕ) (d : KnownRevision) → place ≤ length ks → i < length (drop place ks)
        → (place ≤ place + i → place + i < length ks → nat_lt (get_or ks (place + i) d).file file ≡ false) → file ≤ (get_or (drop place ks) i d).file
    behind-at file ks place i d within lt h = rw (get_or-drop place ks i d) (not-below _ file (h (omega arith) (omega (arith, length-drop place ks))))

-- ---- what is found, and what is put

abbrev AllBelow : ℕ → List KnownRevision → Type 0
AllBelow file ks = AllByRecursion (λ k. k.file < file) ks

abbrev AllAbove : ℕ → List KnownRevision → Type 0
AllAbove file ks = AllByRecursion (λ k. file < k.file) ks

above-weaker : (m n : ℕ) (ks : List KnownRevision) → m ≤ n → AllAbove n ks → AllAbove m ks
above-weaker m n [] le h = tt
above-weaker m n (k ∷ ks) le h = (omega arith, above-weaker m n ks le h.1)

below-differs : (m n : ℕ) → m < n → (m == n) ≡ false
below-differs m n h = grind (arith, nat_tests)

above-differs : (m n : ℕ) → n < m → (m == n) ≡ false
above-differs m n h = grind (arith, nat_tests)

is-below : (m n : ℕ) → m < n → nat_lt m n ≡ true
is-below m n h = grind (arith, nat_tests)

is-not-below : (m n : ℕ) → m < n → nat_lt n m ≡ false
is-not-below m n h = grind (arith, nat_tests)

same-file : (m n : ℕ) → m ≡ n → (m == n) ≡ true
same-file m n h = grind (arith, nat_tests)

none-above : (file : ℕ) (ks : List KnownRevision) → AllAbove file ks → revision_of file (map revision ks) ≡ None
none-above file [] h = refl
none-above file (k ∷ ks) h = rw (above-differs k.file file h.0) (none-above file ks h.1)

drop-above : (file : ℕ) (ks : List KnownRevision) → AllAbove file ks → drop_revision file (map revision ks) ≡ map revision ks
drop-above file [] h = refl
drop-above file (k ∷ ks) h = rw (above-differs k.file file h.0) (ap (λ xs. revision k ∷ xs) (drop-above file ks h.1))

insert-above : (new : KnownRevision) (ks : List KnownRevision) → AllAbove new.file ks → insert_by file_of_revision (revision new) (map revision ks) ≡ revision new
    ∷ map revision ks
insert-above new [] h = refl
insert-above new (k ∷ ks) h = rw (is-below new.file k.file h.0) refl

find-before : (file : ℕ) (before behind : List KnownRevision) → AllBelow file before → revision_of file (map revision (before ++ behind)) ≡ revision_of file
    (map revision behind)
find-before file [] behind h = refl
find-before file (k ∷ before) behind h = rw (below-differs k.file file h.0) (find-before file before behind h.1)

head-step : (file : ℕ) (b : Bool) (k : KnownRevision) (o : Option Revision) → (b ≡ false → o ≡ None) → cond b (Some (revision k)) o ≡ option_map revision
    (cond b (Some k) None)
head-step file true k o h = refl
head-step file false k o h = h refl

apart-above : (m n : ℕ) → n ≤ m → (m == n) ≡ false → n < m
apart-above m n le h = grind (arith, nat_tests)

find-behind : (file : ℕ) (behind : List KnownRevision) → Ascends behind → AllByRecursion (λ k. file ≤ k.file) behind → revision_of file (map revision behind)
    ≡ option_map revision (of_file file (slice_get behind 0))
find-behind file [] a h = refl
find-behind file (k ∷ ks) a h = head-step file (k.file == file) k (revision_of file (map revision ks))
    (λ e. none-above file ks (above-weaker file k.file ks h.0 a.0))

get-drop : (n : ℕ) (ks : List KnownRevision) → slice_get (drop n ks) 0 ≡ slice_get ks n
get-drop zero [] = refl
get-drop zero (k ∷ ks) = refl
get-drop (suc n) [] = refl
get-drop (suc n) (k ∷ ks) = get-drop n ks

ascends-drop : (n : ℕ) (ks : List KnownRevision) → Ascends ks → Ascends (drop n ks)
ascends-drop zero ks a = a
ascends-drop (suc n) [] a = a
ascends-drop (suc n) (k ∷ ks) a = ascends-drop n ks a.1

-- the revision of a file is what stands at its place
pub revision_of-place : (file : ℕ) (ks : List KnownRevision) (place : ℕ) → Ascends ks → IsPlace file ks place → revision_of file (map revision ks)
    ≡ option_map revision (of_file file (slice_get ks place))
revision_of-place file ks place a at =
    ap (λ xs. revision_of file (map revision xs)) (sym (take-append-drop place ks))
    ∙ find-before file (take place ks) (drop place ks) at.before
    ∙ find-behind file (drop place ks) (ascends-drop place ks a) at.behind
    ∙ ap (λ o. option_map revision (of_file file o)) (get-drop place ks)

all-replaced : (m : ℕ) (before rest : List KnownRevision) (k new : KnownRevision) → k.file ≡ new.file → AllAbove m (before ++ k ∷ rest) → AllAbove m (before ++ new ∷ rest)
all-replaced m [] rest k new e h = (omega arith, h.1)
all-replaced m (b ∷ before) rest k new e h = (h.0, all-replaced m before rest k new e h.1)

all-inserted : (m : ℕ) (before behind : List KnownRevision) (new : KnownRevision) → m < new.file → AllAbove m (before ++ behind) → AllAbove m (before ++ new ∷ behind)
all-inserted m [] behind new lt h = (lt, h)
all-inserted m (b ∷ before) behind new lt h = (h.0, all-inserted m before behind new lt h.1)

put-past : (new b : KnownRevision) (xs : List KnownRevision) → b.file < new.file → put_revision new.file new.rev (map revision (b ∷ xs)) ≡ revision b ∷ put_revision
    new.file new.rev (map revision xs)
put-past new b xs lt = rw (below-differs b.file new.file lt) (rw (is-not-below b.file new.file lt) refl)

abbrev pub IsPut : (new : KnownRevision) (old now : List KnownRevision) → Type 0
IsPut new old now = (map revision now ≡ put_revision new.file new.rev (map revision old)) × Ascends now

put-here : (new k : KnownRevision) (rest : List KnownRevision) → k.file ≡ new.file → AllAbove k.file rest → put_revision new.file new.rev (map revision (k ∷ rest))
    ≡ revision new ∷ map revision rest
put-here new k rest e above =
    let above' : AllAbove new.file rest = above-weaker new.file k.file rest (omega arith) above in
    rw (same-file k.file new.file e) (rw (drop-above new.file rest above') (insert-above new rest above'))

replaced-at : (new k : KnownRevision) (before rest : List KnownRevision) → k.file ≡ new.file → Ascends (before ++ k ∷ rest) → AllBelow new.file before
    → IsPut new (before ++ k ∷ rest) (before ++ new ∷ rest)
replaced-at new k [] rest e a below = (sym (put-here new k rest e a.0), (above-weaker new.file k.file rest (omega arith) a.0, a.1))
replaced-at new k (b ∷ before) rest e a below =
    let more = replaced-at new k before rest e a.1 below.1 in
    (ap (λ xs. revision b ∷ xs) more.0 ∙ sym (put-past new b (before ++ k ∷ rest) below.0), (all-replaced b.file before rest k new e a.0, more.1))

inserted-at : (new : KnownRevision) (before behind : List KnownRevision) → Ascends (before ++ behind) → AllBelow new.file before → AllAbove new.file behind
    → IsPut new (before ++ behind) (before ++ new ∷ behind)
inserted-at new [] behind a below above = (sym (rw (drop-above new.file behind above) (insert-above new behind above)), (above, a))
inserted-at new (b ∷ before) behind a below above =
    let more = inserted-at new before behind a.1 below.1 above in
    (ap (λ xs. revision b ∷ xs) more.0 ∙ sym (put-past new b (before ++ behind) below.0), (all-inserted b.file before behind new below.0 a.0, more.1))

drop-got : (n : ℕ) (ks : List KnownRevision) (k : KnownRevision) → slice_get ks n ≡ Some k → (drop n ks ≡ k ∷ drop (suc n) ks) × (n < length ks)
drop-got n [] k h = absurd cc
drop-got zero (j ∷ ks) k h = (let e : j ≡ k = cc in ap (λ x. x ∷ ks) e, omega arith)
drop-got (suc n) (j ∷ ks) k h = let more = drop-got n ks k h in (more.0, omega (arith, more.1))

replaced-some : (new : KnownRevision) (ks : List KnownRevision) (place : ℕ) (o : Option KnownRevision) → slice_get ks place ≡ o → Ascends ks → IsPlace new.file ks place
    → IsSomeAnd o (λ k. k.file ≡ new.file) → IsPut new ks (slice_set ks place new)
replaced-some new ks place None got a at h = absurd h
replaced-some new ks place (Some k) got a at h =
    let e = drop-got place ks k got in
    let split : ks ≡ take place ks ++ k ∷ drop (suc place) ks = sym (take-append-drop place ks) ∙ ap (λ xs. take place ks ++ xs) e.0 in
    let put = replaced-at new k (take place ks) (drop (suc place) ks) h (subst Ascends split a) at.before in
    let put' : IsPut new ks (take place ks ++ new ∷ drop (suc place) ks) = subst (λ xs. IsPut new xs (take place ks ++ new ∷ drop (suc place) ks))
    (sym split) put in
    subst (IsPut new ks) (sym (set_split ks place new e.1)) put'

-- a revision that is there gets another in its place
pub replaced : (new : KnownRevision) (ks : List KnownRevision) (place : ℕ) → Ascends ks → IsPlace new.file ks place → IsSomeAnd (slice_get ks place) (λ k. k.file
    ≡ new.file) → IsPut new ks (slice_set ks place new)
replaced new ks place = replaced-some new ks place (slice_get ks place) refl

above-head : (file : ℕ) (ks : List KnownRevision) → Ascends ks → AllByRecursion (λ k. file ≤ k.file) ks → ¬ IsSomeAnd (slice_get ks 0) (λ k. k.file ≡ file)
    → AllAbove file ks
above-head file [] a h no-one = tt
above-head file (k ∷ ks) a h no-one = let lt : file < k.file = apart-above k.file file h.0 (not-same k.file file no-one) in
    (lt, above-weaker file k.file ks h.0 a.0)
  where
    not-same : (m n : ℕ) → ¬ (m ≡ n) → (m == n) ≡ false
    not-same m n h = grind (arith, nat_tests)

above-place : (file : ℕ) (ks : List KnownRevision) (place : ℕ) → Ascends ks → IsPlace file ks place → ¬ IsSomeAnd (slice_get ks place) (λ k. k.file ≡ file)
    → AllAbove file (drop place ks)
above-place file ks place a at none = above-head file (drop place ks) (ascends-drop place ks a) at.behind
    (λ h. none (subst (λ o. IsSomeAnd o (λ k. k.file ≡ file)) (get-drop place ks) h))

-- a revision that is not there is put in its place
pub inserted : (new : KnownRevision) (ks : List KnownRevision) (place : ℕ) → Ascends ks → IsPlace new.file ks place → ¬ IsSomeAnd (slice_get ks place) (λ k. k.file
    ≡ new.file) → IsPut new ks (insert ks place new)
inserted new ks place a at none =
    let split : ks ≡ take place ks ++ drop place ks = sym (take-append-drop place ks) in
    let put = inserted-at new (take place ks) (drop place ks) (subst Ascends split a) at.before (above-place new.file ks place a at none) in
    subst (λ xs. IsPut new xs (insert ks place new)) (sym split) put

-- where nothing of the file stands at its place it has no revision
pub none_found : (file : ℕ) (ks : List KnownRevision) (place : ℕ) → Ascends ks → IsPlace file ks place → ¬ IsSomeAnd (slice_get ks place) (λ k. k.file ≡ file)
    → revision_of file (map revision ks) ≡ None
none_found file ks place a at none =
    ap (λ xs. revision_of file (map revision xs)) (sym (take-append-drop place ks))
    ∙ find-before file (take place ks) (drop place ks) at.before
    ∙ none-above file (drop place ks) (above-place file ks place a at none)
