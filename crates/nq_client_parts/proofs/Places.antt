-- Where the element of a file stands, in a list in order of files, and what becomes of the list as the model sees it.
use Rattle.std.proofs.Common.{◌≡◌, ◌≤◌, ◌<◌, ℕ, ◌+◌, ◌==◌, Bool, true, false, not, cond, List, [], ◌∷◌, ◌++◌, length, get_or, take, drop, map}
use Rattle.std.proofs.Common.{if◌then◌else◌, Option, Some, None, zero, suc, nat_lt, refl, sym, ap, subst, ◌∙◌, arith, ◌⊎◌, inl, inr, length-take}
use Rattle.std.proofs.Common.{length-drop, get_or-take, get_or-drop}
use Rattle.std.specs.List.{filter, find, AllByRecursion, insert, remove, slice_get, slice_set}
use Rattle.std.specs.Option.{option_map, IsSomeAnd}
use Rattle.std.specs.List.Sorted.{IsPartitionedBy, IsPartitionPoint}
use Rattle.std.proofs.lemmas.Bool.Decides.{nat_tests}
use Rattle.std.proofs.lemmas.List.{take-append-drop, set_split, map-append}
use Rattle.std.proofs.lemmas.List.Elements.{All-from_recursion, recursion_from_All}
use Rattle.nq_client_parts.specs.ByFile.{Ascends, IsPlace, of_file}
use Rattle.nq_model.specs.protocol.ByFile.{insert_by}

earlier : (m n file : ℕ) → m < n → nat_lt n file ≡ true → nat_lt m file ≡ true
earlier m n file lt h = grind (arith, nat_tests)

either : (i j : ℕ) → i ≤ j → (i ≡ j) ⊎ (i < j)
either i j le = grind arith

below : (m n : ℕ) → nat_lt m n ≡ true → m < n
below m n h = grind (arith, nat_tests)

not-below : (m n : ℕ) → nat_lt m n ≡ false → n ≤ m
not-below m n h = grind (arith, nat_tests)

below-differs : (m n : ℕ) → m < n → (m == n) ≡ false
below-differs m n h = grind (arith, nat_tests)

above-differs : (m n : ℕ) → n < m → (m == n) ≡ false
above-differs m n h = grind (arith, nat_tests)

is-below : (m n : ℕ) → m < n → nat_lt m n ≡ true
is-below m n h = grind (arith, nat_tests)

is-not-below : (m n : ℕ) → m < n → nat_lt n m ≡ false
is-not-below m n h = grind (arith, nat_tests)

same-file : (m n : ℕ) → m ≡ n → (m == n) ≡ true
same-file m n h = grind (arith, nat_tests)

apart-above : (m n : ℕ) → n ≤ m → (m == n) ≡ false → n < m
apart-above m n le h = grind (arith, nat_tests)

same-if-equal : (m n : ℕ) → (m == n) ≡ true → m ≡ n
same-if-equal m n h = grind (arith, nat_tests)

none-same : {A : Type 0} (file : ℕ) (b : Bool) (k : A) → b ≡ true → (if b then Some k else None) ≡ None → ⊥
none-same file true k e h = cc
none-same file false k e h = cc

-- a list as the model looks in it, takes from it and puts into it
module _ {A B : Type 0} (file_of : B → ℕ) (view : A → B) where
  -- the file of an element
  abbrev pub key : A → ℕ
  key x = file_of (view x)

  -- what is found of a file
  abbrev pub found : ℕ → List B → Option B
  found file xs = find (λ x. file_of x == file) xs

  -- the list without what is of a file
  abbrev pub without : ℕ → List B → List B
  without file xs = filter (λ x. not (file_of x == file)) xs

  -- the list with an element for its file
  abbrev pub put_in : B → List B → List B
  put_in x xs = insert_by file_of x (without (file_of x) xs)

  rises : (ks : List A) → Ascends key ks → (i j : ℕ) (d : A) → i < j → j < length ks → (key (get_or ks i d)) < (key (get_or ks j d))
  rises [] a i j d lt within = absurd (omega arith)
  rises (k ∷ ks) a zero zero d lt within = absurd (omega arith)
  rises (k ∷ ks) a zero (suc j) d lt within = All-from_recursion (λ later. key k < (key later)) ks a.0 j d (omega arith)
  rises (k ∷ ks) a (suc i) zero d lt within = absurd (omega arith)
  rises (k ∷ ks) a (suc i) (suc j) d lt within = rises ks a.1 i j d (omega arith) (omega arith)

  parted-at : (file i j : ℕ) (d : A) (ks : List A) → Ascends key ks → i ≤ j → j < length ks → nat_lt (key (get_or ks j d)) file ≡ true → (i ≡ j)
      ⊎ (i < j) → nat_lt (key (get_or ks i d)) file ≡ true
  parted-at file i j d ks a le within h (inl e) = subst (λ m. nat_lt (key (get_or ks m d)) file ≡ true) (sym e) h
  parted-at file i j d ks a le within h (inr lt) = earlier (key (get_or ks i d)) (key (get_or ks j d)) file (rises ks a i j d lt within) h

  -- those of earlier files stand before the others
  pub parted : (file : ℕ) (ks : List A) → Ascends key ks → IsPartitionedBy (λ k. nat_lt (key k) file) ks
  parted file ks a = λ i j d le within h. parted-at file i j d ks a le within h (either i j le)

  -- the place at which those of earlier files end
  pub is_place : (file : ℕ) (ks : List A) (place : ℕ) → place ≤ length ks → IsPartitionPoint (λ k. nat_lt (key k) file ≡ true)
      (λ k. nat_lt (key k) file ≡ false) ks place → IsPlace key file ks place
  is_place file ks place within point = record {
    within = within;
    before = recursion_from_All (λ k. key k < file) (take place ks) (λ i d lt. before-at file ks place i d within lt (point.0 i d));
    behind = recursion_from_All (λ k. file ≤ key k) (drop place ks) (λ i d lt. behind-at file ks place i d within lt (point.1 (place + i) d));
  }
    where
      before-at : (file : ℕ) (ks : List A) (place i : ℕ) (d : A) → place ≤ length ks → i < length (take place ks)
          → (0 ≤ i → i < place → nat_lt (key (get_or ks i d)) file ≡ true) → (key (get_or (take place ks) i d)) < file
      before-at file ks place i d within lt h =
          let short : i < place = omega (arith, length-take place ks) in
          rw (get_or-take place ks i d short) (below _ file (h (omega arith) short))

      behind-at : (file : ℕ) (ks : List A) (place i : ℕ) (d : A) → place ≤ length ks → i < length (drop place ks)
          → (place ≤ place + i → place + i < length ks → nat_lt (key (get_or ks (place + i) d)) file ≡ false) → file ≤ (key (get_or (drop place ks) i d))
      behind-at file ks place i d within lt h = rw (get_or-drop place ks i d) (not-below _ file (h (omega arith) (omega (arith, length-drop place ks))))

  -- ---- what is found, and what is put

  abbrev AllBelow : ℕ → List A → Type 0
  AllBelow file ks = AllByRecursion (λ k. key k < file) ks

  abbrev AllAbove : ℕ → List A → Type 0
  AllAbove file ks = AllByRecursion (λ k. file < key k) ks

  above-weaker : (m n : ℕ) (ks : List A) → m ≤ n → AllAbove n ks → AllAbove m ks
  above-weaker m n [] le h = tt
  above-weaker m n (k ∷ ks) le h = (omega arith, above-weaker m n ks le h.1)

  none-above : (file : ℕ) (ks : List A) → AllAbove file ks → found file (map view ks) ≡ None
  none-above file [] h = refl
  none-above file (k ∷ ks) h = rw (above-differs (key k) file h.0) (none-above file ks h.1)

  drop-above : (file : ℕ) (ks : List A) → AllAbove file ks → without file (map view ks) ≡ map view ks
  drop-above file [] h = refl
  drop-above file (k ∷ ks) h = rw (above-differs (key k) file h.0) (ap (λ xs. view k ∷ xs) (drop-above file ks h.1))

  insert-above : (new : A) (ks : List A) → AllAbove (key new) ks → insert_by file_of (view new) (map view ks) ≡ view new ∷ map view ks
  insert-above new [] h = refl
  insert-above new (k ∷ ks) h = rw (is-below (key new) (key k) h.0) refl

  find-before : (file : ℕ) (before behind : List A) → AllBelow file before → found file (map view (before ++ behind)) ≡ found file (map view behind)
  find-before file [] behind h = refl
  find-before file (k ∷ before) behind h = rw (below-differs (key k) file h.0) (find-before file before behind h.1)

  head-step : (file : ℕ) (b : Bool) (k : A) (o : Option B) → (b ≡ false → o ≡ None) → cond b (Some (view k)) o ≡ option_map view (cond b (Some k) None)
  head-step file true k o h = refl
  head-step file false k o h = h refl

  find-behind : (file : ℕ) (behind : List A) → Ascends key behind → AllByRecursion (λ k. file ≤ key k) behind → found file (map view behind)
      ≡ option_map view (of_file key file (slice_get behind 0))
  find-behind file [] a h = refl
  find-behind file (k ∷ ks) a h = head-step file ((key k) == file) k (found file (map view ks)) (λ e. none-above file ks (above-weaker file (key k) ks
      h.0 a.0))

  get-drop : (n : ℕ) (ks : List A) → slice_get (drop n ks) 0 ≡ slice_get ks n
  get-drop zero [] = refl
  get-drop zero (k ∷ ks) = refl
  get-drop (suc n) [] = refl
  get-drop (suc n) (k ∷ ks) = get-drop n ks

  ascends-drop : (n : ℕ) (ks : List A) → Ascends key ks → Ascends key (drop n ks)
  ascends-drop zero ks a = a
  ascends-drop (suc n) [] a = a
  ascends-drop (suc n) (k ∷ ks) a = ascends-drop n ks a.1

  -- the revision of a file is what stands at its place
  pub found-place : (file : ℕ) (ks : List A) (place : ℕ) → Ascends key ks → IsPlace key file ks place → found file (map view ks) ≡ option_map view
      (of_file key file (slice_get ks place))
  found-place file ks place a at =
      ap (λ xs. found file (map view xs)) (sym (take-append-drop place ks))
      ∙ find-before file (take place ks) (drop place ks) at.before
      ∙ find-behind file (drop place ks) (ascends-drop place ks a) at.behind
      ∙ ap (λ o. option_map view (of_file key file o)) (get-drop place ks)

  all-replaced : (m : ℕ) (before rest : List A) (k new : A) → (key k) ≡ (key new) → AllAbove m (before ++ k ∷ rest) → AllAbove m (before ++ new ∷ rest)
  all-replaced m [] rest k new e h = (omega arith, h.1)
  all-replaced m (b ∷ before) rest k new e h = (h.0, all-replaced m before rest k new e h.1)

  all-inserted : (m : ℕ) (before behind : List A) (new : A) → m < (key new) → AllAbove m (before ++ behind) → AllAbove m (before ++ new ∷ behind)
  all-inserted m [] behind new lt h = (lt, h)
  all-inserted m (b ∷ before) behind new lt h = (h.0, all-inserted m before behind new lt h.1)

  put-past : (new b : A) (xs : List A) → (key b) < (key new) → put_in (view new) (map view (b ∷ xs)) ≡ view b ∷ put_in (view new) (map view xs)
  put-past new b xs lt = rw (below-differs (key b) (key new) lt) (rw (is-not-below (key b) (key new) lt) refl)

  abbrev pub IsPut : (new : A) (old now : List A) → Type 0
  IsPut new old now = (map view now ≡ put_in (view new) (map view old)) × Ascends key now

  put-here : (new k : A) (rest : List A) → (key k) ≡ (key new) → AllAbove (key k) rest → put_in (view new) (map view (k ∷ rest)) ≡ view new ∷ map view rest
  put-here new k rest e above =
      let above' : AllAbove (key new) rest = above-weaker (key new) (key k) rest (omega arith) above in
      rw (same-file (key k) (key new) e) (rw (drop-above (key new) rest above') (insert-above new rest above'))

  replaced-at : (new k : A) (before rest : List A) → (key k) ≡ (key new) → Ascends key (before ++ k ∷ rest) → AllBelow (key new) before
      → IsPut new (before ++ k ∷ rest) (before ++ new ∷ rest)
  replaced-at new k [] rest e a below = (sym (put-here new k rest e a.0), (above-weaker (key new) (key k) rest (omega arith) a.0, a.1))
  replaced-at new k (b ∷ before) rest e a below =
      let more = replaced-at new k before rest e a.1 below.1 in
      (ap (λ xs. view b ∷ xs) more.0 ∙ sym (put-past new b (before ++ k ∷ rest) below.0), (all-replaced (key b) before rest k new e a.0, more.1))

  inserted-at : (new : A) (before behind : List A) → Ascends key (before ++ behind) → AllBelow (key new) before → AllAbove (key new) behind
      → IsPut new (before ++ behind) (before ++ new ∷ behind)
  inserted-at new [] behind a below above = (sym (rw (drop-above (key new) behind above) (insert-above new behind above)), (above, a))
  inserted-at new (b ∷ before) behind a below above =
      let more = inserted-at new before behind a.1 below.1 above in
      (ap (λ xs. view b ∷ xs) more.0 ∙ sym (put-past new b (before ++ behind) below.0), (all-inserted (key b) before behind new below.0 a.0, more.1))

  drop-got : (n : ℕ) (ks : List A) (k : A) → slice_get ks n ≡ Some k → (drop n ks ≡ k ∷ drop (suc n) ks) × (n < length ks)
  drop-got n [] k h = absurd cc
  drop-got zero (j ∷ ks) k h = (let e : j ≡ k = cc in ap (λ x. x ∷ ks) e, omega arith)
  drop-got (suc n) (j ∷ ks) k h = let more = drop-got n ks k h in (more.0, omega (arith, more.1))

  replaced-some : (new : A) (ks : List A) (place : ℕ) (o : Option A) → slice_get ks place ≡ o → Ascends key ks → IsPlace key (key new) ks place
      → IsSomeAnd o (λ k. (key k) ≡ (key new)) → IsPut new ks (slice_set ks place new)
  replaced-some new ks place None got a at h = absurd h
  replaced-some new ks place (Some k) got a at h =
      let e = drop-got place ks k got in
      let split : ks ≡ take place ks ++ k ∷ drop (suc place) ks = sym (take-append-drop place ks) ∙ ap (λ xs. take place ks ++ xs) e.0 in
      let put = replaced-at new k (take place ks) (drop (suc place) ks) h (subst (Ascends key) split a) at.before in
      let put' : IsPut new ks (take place ks ++ new ∷ drop (suc place) ks) = subst (λ xs. IsPut new xs (take place ks ++ new ∷ drop (suc place) ks))
      (sym split) put in
      subst (IsPut new ks) (sym (set_split ks place new e.1)) put'

  -- a revision that is there gets another in its place
  pub replaced : (new : A) (ks : List A) (place : ℕ) → Ascends key ks → IsPlace key (key new) ks place → IsSomeAnd (slice_get ks place) (λ k. (key k)
      ≡ (key new)) → IsPut new ks (slice_set ks place new)
  replaced new ks place = replaced-some new ks place (slice_get ks place) refl

  above-head : (file : ℕ) (ks : List A) → Ascends key ks → AllByRecursion (λ k. file ≤ key k) ks → ¬ IsSomeAnd (slice_get ks 0) (λ k. (key k) ≡ file)
      → AllAbove file ks
  above-head file [] a h no-one = tt
  above-head file (k ∷ ks) a h no-one = let lt : file < key k = apart-above (key k) file h.0 (not-same (key k) file no-one) in
      (lt, above-weaker file (key k) ks h.0 a.0)
    where
      not-same : (m n : ℕ) → ¬ (m ≡ n) → (m == n) ≡ false
      not-same m n h = grind (arith, nat_tests)

  above-place : (file : ℕ) (ks : List A) (place : ℕ) → Ascends key ks → IsPlace key file ks place → ¬ IsSomeAnd (slice_get ks place) (λ k. (key k)
      ≡ file) → AllAbove file (drop place ks)
  above-place file ks place a at none = above-head file (drop place ks) (ascends-drop place ks a) at.behind
      (λ h. none (subst (λ o. IsSomeAnd o (λ k. (key k) ≡ file)) (get-drop place ks) h))

  -- a revision that is not there is put in its place
  pub inserted : (new : A) (ks : List A) (place : ℕ) → Ascends key ks → IsPlace key (key new) ks place → ¬ IsSomeAnd (slice_get ks place)
      (λ k. (key k) ≡ (key new)) → IsPut new ks (insert ks place new)
  inserted new ks place a at none =
      let split : ks ≡ take place ks ++ drop place ks = sym (take-append-drop place ks) in
      let put = inserted-at new (take place ks) (drop place ks) (subst (Ascends key) split a) at.before (above-place (key new) ks place a at none) in
      subst (λ xs. IsPut new xs (insert ks place new)) (sym split) put

  -- where nothing of the file stands at its place it has no revision
  pub none_found : (file : ℕ) (ks : List A) (place : ℕ) → Ascends key ks → IsPlace key file ks place → ¬ IsSomeAnd (slice_get ks place) (λ k. (key k)
      ≡ file) → found file (map view ks) ≡ None
  none_found file ks place a at none =
      ap (λ xs. found file (map view xs)) (sym (take-append-drop place ks))
      ∙ find-before file (take place ks) (drop place ks) at.before
      ∙ none-above file (drop place ks) (above-place file ks place a at none)

  -- ---- what is taken out, and what is changed in its place

  abbrev pub IsTaken : (file : ℕ) (old now : List A) → Type 0
  IsTaken file old now = (map view now ≡ without file (map view old)) × Ascends key now

  keeps-below : (file : ℕ) (before behind : List A) → AllBelow file before → without file (map view (before ++ behind)) ≡ map view before
      ++ without file (map view behind)
  keeps-below file [] behind h = refl
  keeps-below file (k ∷ before) behind h = rw (below-differs (key k) file h.0) (ap (λ xs. view k ∷ xs) (keeps-below file before behind h.1))

  all-taken : (m : ℕ) (before rest : List A) (k : A) → AllAbove m (before ++ k ∷ rest) → AllAbove m (before ++ rest)
  all-taken m [] rest k h = h.1
  all-taken m (b ∷ before) rest k h = (h.0, all-taken m before rest k h.1)

  ascends-taken : (before rest : List A) (k : A) → Ascends key (before ++ k ∷ rest) → Ascends key (before ++ rest)
  ascends-taken [] rest k a = a.1
  ascends-taken (b ∷ before) rest k a = (all-taken (key b) before rest k a.0, ascends-taken before rest k a.1)

  behind-above : (before rest : List A) (k : A) → Ascends key (before ++ k ∷ rest) → AllAbove (key k) rest
  behind-above [] rest k a = a.0
  behind-above (b ∷ before) rest k a = behind-above before rest k a.1

  taken-at : (file : ℕ) (before rest : List A) (k : A) → key k ≡ file → Ascends key (before ++ k ∷ rest) → AllBelow file before
      → IsTaken file (before ++ k ∷ rest) (before ++ rest)
  taken-at file before rest k e a below =
      let above : AllAbove file rest = above-weaker file (key k) rest (omega arith) (behind-above before rest k a) in (
        map-append view before rest ∙ sym (keeps-below file before (k ∷ rest) below ∙ ap (λ xs. map view before ++ xs) (rw (same-file (key k) file e)
            (drop-above file rest above))),
        ascends-taken before rest k a,
      )

  taken-some : (file : ℕ) (ks : List A) (place : ℕ) (o : Option A) → slice_get ks place ≡ o → Ascends key ks → IsPlace key file ks place
      → IsSomeAnd o (λ k. key k ≡ file) → IsTaken file ks (remove ks place)
  taken-some file ks place None got a at h = absurd h
  taken-some file ks place (Some k) got a at h =
      let e = drop-got place ks k got in
      let split : ks ≡ take place ks ++ k ∷ drop (suc place) ks = sym (take-append-drop place ks) ∙ ap (λ xs. take place ks ++ xs) e.0 in
      let taken = taken-at file (take place ks) (drop (suc place) ks) k h (subst (Ascends key) split a) at.before in
      subst (λ xs. IsTaken file xs (remove ks place)) (sym split) taken

  -- what is of a file is taken from its place
  pub taken : (file : ℕ) (ks : List A) (place : ℕ) → Ascends key ks → IsPlace key file ks place → IsSomeAnd (slice_get ks place) (λ k. key k ≡ file)
      → IsTaken file ks (remove ks place)
  taken file ks place = taken-some file ks place (slice_get ks place) refl

  -- where nothing of a file stands at its place there is nothing to take
  pub none_taken : (file : ℕ) (ks : List A) (place : ℕ) → Ascends key ks → IsPlace key file ks place → ¬ IsSomeAnd (slice_get ks place)
      (λ k. key k ≡ file) → without file (map view ks) ≡ map view ks
  none_taken file ks place a at none =
      ap (λ xs. without file (map view xs)) (sym (take-append-drop place ks))
      ∙ keeps-below file (take place ks) (drop place ks) at.before
      ∙ ap (λ xs. map view (take place ks) ++ xs) (drop-above file (drop place ks) (above-place file ks place a at none))
      ∙ sym (map-append view (take place ks) (drop place ks))
      ∙ ap (map view) (take-append-drop place ks)

  -- a change of what is of a file
  abbrev pub IsOfFile : (file : ℕ) → (B → B) → Type 0
  IsOfFile file change = (x : B) → (file_of x == file) ≡ false → change x ≡ x

  same-above : (file : ℕ) (change : B → B) (ks : List A) → IsOfFile file change → AllAbove file ks → map change (map view ks) ≡ map view ks
  same-above file change [] of h = refl
  same-above file change (k ∷ ks) of h = rw (of (view k) (above-differs (key k) file h.0)) (ap (λ xs. view k ∷ xs) (same-above file change ks of h.1))

  same-below : (file : ℕ) (change : B → B) (before behind : List A) → IsOfFile file change → AllBelow file before
      → map change (map view (before ++ behind)) ≡ map view before ++ map change (map view behind)
  same-below file change [] behind of h = refl
  same-below file change (k ∷ before) behind of h = rw (of (view k) (below-differs (key k) file h.0))
      (ap (λ xs. view k ∷ xs) (same-below file change before behind of h.1))

  abbrev IsChanged : (B → B) → (old now : List A) → Type 0
  IsChanged change old now = (map view now ≡ map change (map view old)) × Ascends key now

  ascends-replaced : (before rest : List A) (k new : A) → key k ≡ key new → Ascends key (before ++ k ∷ rest) → Ascends key (before ++ new ∷ rest)
  ascends-replaced [] rest k new e a = (above-weaker (key new) (key k) rest (omega arith) a.0, a.1)
  ascends-replaced (b ∷ before) rest k new e a = (all-replaced (key b) before rest k new e a.0, ascends-replaced before rest k new e a.1)

  changed-some : (file : ℕ) (change : B → B) (ks : List A) (place : ℕ) (k new : A) → IsOfFile file change → slice_get ks place ≡ Some k
      → Ascends key ks → IsPlace key file ks place → key k ≡ file → key new ≡ file → view new ≡ change (view k) → IsChanged change ks (slice_set ks place new)
  changed-some file change ks place k new of got a at e f is =
      let g = drop-got place ks k got in
      let rest = drop (suc place) ks in
      let split : ks ≡ take place ks ++ k ∷ drop (suc place) ks = sym (take-append-drop place ks) ∙ ap (λ xs. take place ks ++ xs) g.0 in
      let a' : Ascends key (take place ks ++ k ∷ drop (suc place) ks) = subst (Ascends key) split a in
      let above : AllAbove file (drop (suc place) ks) = above-weaker file (key k) (drop (suc place) ks) (omega arith) (behind-above (take place ks)
      (drop (suc place) ks) k a') in
      let now : map view (take place ks ++ new ∷ drop (suc place) ks) ≡ map change (map view (take place ks ++ k ∷ drop (suc place) ks)) =
      map-append view (take place ks) (new ∷ drop (suc place) ks)
      ∙ ap (λ x. map view (take place ks) ++ x ∷ map view (drop (suc place) ks)) is
      ∙ ap (λ xs. map view (take place ks) ++ change (view k) ∷ xs) (sym (same-above file change (drop (suc place) ks) of above))
      ∙ sym (same-below file change (take place ks) (k ∷ drop (suc place) ks) of at.before) in
      let put : IsChanged change ks (take place ks ++ new ∷ drop (suc place) ks) =
      subst (λ xs. IsChanged change xs (take place ks ++ new ∷ drop (suc place) ks)) (sym split) (
        now,
        ascends-replaced (take place ks)
            (drop (suc place) ks) k new (e ∙ sym f) a',
      ) in
      subst (IsChanged change ks) (sym (set_split ks place new g.1)) put

  -- what is of a file is changed in its place
  pub changed : (file : ℕ) (change : B → B) (ks : List A) (place : ℕ) (k new : A) → IsOfFile file change → slice_get ks place ≡ Some k
      → Ascends key ks → IsPlace key file ks place → key k ≡ file → key new ≡ file → view new ≡ change (view k) → IsChanged change ks (slice_set ks place new)
  changed = changed-some

  -- where nothing of a file stands at its place there is nothing to change
  pub none_changed : (file : ℕ) (change : B → B) (ks : List A) (place : ℕ) → IsOfFile file change → Ascends key ks → IsPlace key file ks place
      → ¬ IsSomeAnd (slice_get ks place) (λ k. key k ≡ file) → map change (map view ks) ≡ map view ks
  none_changed file change ks place of a at none =
      ap (λ xs. map change (map view xs)) (sym (take-append-drop place ks))
      ∙ same-below file change (take place ks) (drop place ks) of at.before
      ∙ ap (λ xs. map view (take place ks) ++ xs) (same-above file change (drop place ks) of (above-place file ks place a at none))
      ∙ sym (map-append view (take place ks) (drop place ks))
      ∙ ap (map view) (take-append-drop place ks)

  of_file-step : (file : ℕ) (b : Bool) (k x : A) → (key k == file) ≡ b → (if b then Some k else None) ≡ Some x → (Some k ≡ Some x) × (key x ≡ file)
  of_file-step file true k x e h = let s : k ≡ x = cc in (h, subst (λ y. key y ≡ file) s (same-if-equal (key k) file e))
  of_file-step file false k x e h = absurd cc

  -- what was found at a place stands there and is of the file
  pub of_file-some : (file : ℕ) (o : Option A) (x : A) → of_file key file o ≡ Some x → (o ≡ Some x) × (key x ≡ file)
  of_file-some file None x h = absurd cc
  of_file-some file (Some k) x h = of_file-step file (key k == file) k x refl h

  -- where nothing was found at a place nothing of the file stands there
  pub of_file-none : (file : ℕ) (o : Option A) → of_file key file o ≡ None → ¬ IsSomeAnd o (λ k. key k ≡ file)
  of_file-none file None h = λ some. some
  of_file-none file (Some k) h = λ same. none-same file (key k == file) k (same-file (key k) file same) h

  -- what was found at a place of a list
  pub there_at : (file : ℕ) (ks : List A) (place : ℕ) (x : A) → of_file key file (slice_get ks place) ≡ Some x → IsSomeAnd (slice_get ks place)
      (λ k. key k ≡ file) × (place < length ks)
  there_at file ks place x h =
      let some = of_file-some file (slice_get ks place) x h in
      (subst (λ o. IsSomeAnd o (λ k. key k ≡ file)) (sym some.0) some.1, (drop-got place ks x some.0).1)

  -- what was not found at a place of a list
  pub absent_at : (file : ℕ) (ks : List A) (place : ℕ) → of_file key file (slice_get ks place) ≡ None → ¬ IsSomeAnd (slice_get ks place) (λ k. key k ≡ file)
  absent_at file ks place h = of_file-none file (slice_get ks place) h
