-- Entries as clean blocks: a key is found where its block is, and at one place only.
use Rattle.std.proofs.Common.{◌≡◌, ◌≤◌, ◌<◌, ℕ, ◌+◌, ◌-◌, ◌==◌, Bool, true, false, not, ◌&&◌, cond, List, [], ◌∷◌, ◌++◌, length, get_or, take, drop}
use Rattle.std.proofs.Common.{Option, Some, None, is_some, refl, sym, ap, subst, ◌∙◌, arith, append_assoc, zero, suc, append-nil, add-one}
use Rattle.std.specs.Cmp.{IsEquivalence}
use Rattle.std.specs.List.{filter, AllByRecursion, IsDistinct, slice_get}
use Rattle.std.specs.Map.{keys_of, lookup, lookup_entry, remove_entry}
use Rattle.std.specs.Option.{option_map, option_map_or, option_to_list}
use Rattle.std.proofs.lemmas.Bool.Decides.{nat_tests}
use Rattle.std.proofs.lemmas.List.{take_more, take_all, take_at, map_push, drop_more, length_push}
use Rattle.std.proofs.lemmas.Map.{NonePasses}
use Rattle.std.proofs.lemmas.Map.Entries.{none_past_head}
use Rattle.std.proofs.lemmas.Map.Keys.{IsDistinct-head, IsDistinct-tail}
use Rattle.lru.specs.LruCache.{LruCache, promoted, put_entries, last_entry}
use Rattle.lru.proofs.CallerLemmas.{Contains-lookup_entry}
use Rattle.nq_cache.specs.Entries.{clean_of, clean_blocks, is_of_other, walked, Turns}
use Rattle.nq_cache.specs.declared.entries.Key.{Key}
use Rattle.nq_model.specs.protocol.Client.{Clean, clean_at, drop_clean, purge}
use Rattle.nq_model.specs.protocol.Settle.{clean_body, touched, looked_up}
use Rattle.nq_model.specs.protocol.Profile.{at_most}

-- two keys are one where their files and blocks are
abbrev pub IsKeyEquality : (Key → Key → Bool) → Type 0
IsKeyEquality eq = (j k : Key) → eq j k ≡ (k.file == j.file && k.block == j.block)

both-same : (m n : ℕ) → ((m == m) && (n == n)) ≡ true
both-same m n = grind (arith, nat_tests)

both-symmetric : (a b m n : ℕ) → ((a == b) && (m == n)) ≡ ((b == a) && (n == m))
both-symmetric a b m n = grind (arith, nat_tests)

parts : (a b m n : ℕ) → ((a == b) && (m == n)) ≡ true → (a ≡ b) × (m ≡ n)
parts a b m n h = grind (arith, nat_tests)

both-congruent : (a b m n x y : ℕ) → ((a == b) && (m == n)) ≡ true → ((x == b) && (y == n)) ≡ ((x == a) && (y == m))
both-congruent a b m n x y h = let e = parts a b m n h in rw (e.0, e.1) refl

mapped : {A B : Type 0} (f : A → B) (o : Option A) → is_some (option_map f o) ≡ is_some o
mapped f None = refl
mapped f (Some x) = refl

apart-step : (b : Bool) (k : Clean) (ks rest : List Clean) → b ≡ false → rest ≡ ks → cond (not b) (k ∷ rest) rest ≡ k ∷ ks
apart-step true k ks rest off h = absurd cc
apart-step false k ks rest off h = ap (λ xs. k ∷ xs) h

same-clean : (f g b c : ℕ) (body : List ℕ) → f ≡ g → b ≡ c → (let k : Clean = record { file = f; block = b; body = body } in k) ≡ record {
  file = g;
  block = c;
  body = body;
}
same-clean f g b c body p q = rw (p, q) refl

-- the clean block of the key
abbrev pub block_of : Key → List ℕ → Clean
block_of key body = record { file = key.file; block = key.block; body = body }

length-minus : (n : ℕ) → n + 1 - 1 ≡ n
length-minus n = omega arith

got : {X : Type 0} (front : List X) (last : X) → slice_get (front ++ last ∷ []) (length front) ≡ Some last
got [] last = refl
got (x ∷ front) last = got front last

turned-step : {X : Type 0} (b : Bool) (x : X) (kept front : List X) → cond b (x ∷ (kept ++ front)) (kept ++ front) ≡ cond b (x ∷ kept) kept ++ front
turned-step true x kept front = refl
turned-step false x kept front = refl

at_most-more : {A : Type 0} (n : ℕ) (x : A) (xs : List A) → at_most (suc n) (x ∷ xs) ≡ x ∷ at_most n xs
at_most-more n x xs = let e : suc n - 1 ≡ n = omega arith in let z : (suc n == 0) ≡ false = grind (arith, nat_tests) in rw (z, e) refl

module _ (eq : Key → Key → Bool) (laws : IsKeyEquality eq) where
  pub is_equivalence : IsEquivalence eq
  is_equivalence = record {
    refl = λ k. laws k k ∙ both-same k.file k.block;
    symm = λ j k. laws j k ∙ both-symmetric k.file j.file k.block j.block ∙ sym (laws k j);
    congr = λ j k l h. laws j l ∙ both-congruent k.file j.file k.block j.block l.file l.block (sym (laws j k) ∙ h) ∙ sym (laws k l);
  }

  is-key : (key k : Key) → eq key k ≡ true → (k.file ≡ key.file) × (k.block ≡ key.block)
  is-key key k h = parts k.file key.file k.block key.block (sym (laws key k) ∙ h)

  module _ (key : Key) where
    found-step : (b : Bool) (e : Key × List ℕ) (a : Option Clean) (o : Option (Key × List ℕ)) → a ≡ option_map clean_of o → cond b (Some (clean_of e))
        a ≡ option_map clean_of (cond b (Some e) o)
    found-step true e a o h = refl
    found-step false e a o h = h

    -- the block that the cache has is that of the first entry with its key
    pub clean_at-entries : (es : List (Key × List ℕ)) → clean_at key.file key.block (clean_blocks es) ≡ option_map clean_of (lookup_entry (eq key) es)
    clean_at-entries [] = refl
    clean_at-entries (e ∷ es) = rw (laws key e.0) (found-step (e.0.file == key.file && e.0.block == key.block) e _ (lookup_entry (eq key) es)
        (clean_at-entries es))

    looked-step-up : (b : Bool) (e : Key × List ℕ) (v : Option (List ℕ)) (o : Option (Key × List ℕ)) → v ≡ option_map (λ f. f.1) o
        → cond b (Some e.1) v ≡ option_map (λ f. f.1) (cond b (Some e) o)
    looked-step-up true e v o h = refl
    looked-step-up false e v o h = h

    looked : (es : List (Key × List ℕ)) → lookup (eq key) es ≡ option_map (λ f. f.1) (lookup_entry (eq key) es)
    looked [] = refl
    looked (e ∷ es) = looked-step-up (eq key e.0) e (lookup (eq key) es) (lookup_entry (eq key) es) (looked es)

    valued : (es : List (Key × List ℕ)) → is_some (lookup (eq key) es) ≡ is_some (lookup_entry (eq key) es)
    valued es = ap is_some (looked es) ∙ mapped (λ f. f.1) (lookup_entry (eq key) es)

    body-of : (o : Option (Key × List ℕ)) → clean_body (option_map clean_of o) ≡ option_map (λ f. f.1) o
    body-of None = refl
    body-of (Some e) = refl

    -- what is found of a block is the value of its key
    pub found_body-entries : (es : List (Key × List ℕ)) → clean_body (clean_at key.file key.block (clean_blocks es)) ≡ lookup (eq key) es
    found_body-entries es = ap clean_body (clean_at-entries es) ∙ body-of (lookup_entry (eq key) es) ∙ sym (looked es)

    -- it is there exactly where its key is
    pub is_there : (es : List (Key × List ℕ)) → is_some (clean_at key.file key.block (clean_blocks es)) ≡ is_some (lookup (eq key) es)
    is_there es = ap is_some (clean_at-entries es) ∙ mapped clean_of (lookup_entry (eq key) es) ∙ sym (valued es)

    -- where no entry has its key there is no block to drop
    none-dropped : (es : List (Key × List ℕ)) → NonePasses (eq key) es → drop_clean key.file key.block (clean_blocks es) ≡ clean_blocks es
    none-dropped [] none = refl
    none-dropped (e ∷ es) none = apart-step (e.0.file == key.file && e.0.block == key.block) (clean_of e) (clean_blocks es) _ (sym (laws key e.0)
        ∙ none.0) (none-dropped es none.1)

    dropped-step : (b : Bool) (e : Key × List ℕ) (es rest : List (Key × List ℕ)) (dropped : List Clean) → (b ≡ true → dropped ≡ clean_blocks es)
        → dropped ≡ clean_blocks rest → cond (not b) (clean_of e ∷ dropped) dropped ≡ clean_blocks (cond b es (e ∷ rest))
    dropped-step true e es rest dropped here h = here refl
    dropped-step false e es rest dropped here h = ap (λ xs. clean_of e ∷ xs) h

    -- without the first entry of a key there is none of it
    pub drop_clean-entries : (es : List (Key × List ℕ)) → IsDistinct eq (keys_of es) → drop_clean key.file key.block (clean_blocks es) ≡ clean_blocks
        (remove_entry (eq key) es)
    drop_clean-entries [] d = refl
    drop_clean-entries (e ∷ es) d =
        rw (laws key e.0)
        (dropped-step
        (e.0.file == key.file && e.0.block == key.block)
        e
        es
        (remove_entry (eq key) es)
        (drop_clean key.file key.block (clean_blocks es))
        (λ h. none-dropped es (none_past_head is_equivalence key e es d (laws key e.0 ∙ h)))
        (drop_clean-entries es (IsDistinct-tail eq e.0 (keys_of es) d)))

    none-passes : (es : List (Key × List ℕ)) → lookup_entry (eq key) es ≡ None → NonePasses (eq key) es
    none-passes [] h = tt
    none-passes (e ∷ es) h = (elim (eq key e.0) as (λ b. eq key e.0 ≡ b → NonePasses (eq key) (e ∷ es)) [
      | true ↦ λ on. let h' = rw on at h in absurd (cc)
      | false ↦ λ on. (on, none-passes es (rw on at h))
    ]) refl

    put-step : (c : LruCache Key (List ℕ)) (body : List ℕ) (o : Option (Key × List ℕ)) → lookup_entry (eq key) c.entries ≡ o
        → IsDistinct eq (keys_of c.entries) → length c.entries ≤ c.cap - 1
        → clean_blocks (option_map_or (λ e. (e.0, body) ∷ remove_entry (eq key) c.entries) o ((key, body) ∷ take (c.cap - 1) c.entries))
        ≡ block_of key body ∷ drop_clean key.file key.block (clean_blocks c.entries)
    put-step c body None h d few =
        let rest : drop_clean key.file key.block (clean_blocks c.entries) ≡ clean_blocks c.entries = none-dropped c.entries (none-passes c.entries h) in
        let all : take (c.cap - 1) c.entries ≡ c.entries = take_all (c.cap - 1) c.entries few in
        rw (all, rest) refl
    put-step c body (Some e) h d few =
        let here : (e.0.file ≡ key.file) × (e.0.block ≡ key.block) = is-key key e.0 (Contains-lookup_entry (eq key) c.entries e h).1 in
        let head : clean_of (e.0, body) ≡ block_of key body = same-clean e.0.file key.file e.0.block key.block body here.0 here.1 in
        rw head (ap (λ xs. block_of key body ∷ xs) (sym (drop_clean-entries c.entries d)))

    -- a block that is put is in front, and nowhere else
    pub put-entries : (c : LruCache Key (List ℕ)) (body : List ℕ) → IsDistinct eq (keys_of c.entries) → length c.entries ≤ c.cap - 1
        → clean_blocks (put_entries eq c key body) ≡ block_of key body ∷ drop_clean key.file key.block (clean_blocks c.entries)
    put-entries c body d few = put-step c body (lookup_entry (eq key) c.entries) refl d few

    looked-step : (es : List (Key × List ℕ)) (o : Option (Key × List ℕ)) → drop_clean key.file key.block (clean_blocks es) ≡ clean_blocks
        (remove_entry (eq key) es) → clean_blocks (option_map_or (λ e. e ∷ remove_entry (eq key) es) o es) ≡ touched key.file key.block
        (option_map clean_of o) (clean_blocks es)
    looked-step es None d = refl
    looked-step es (Some e) d = rw d refl

    -- a block that is looked for comes to the front
    pub promoted-entries : (es : List (Key × List ℕ)) → IsDistinct eq (keys_of es) → clean_blocks (promoted (eq key) es) ≡ looked_up key.file
        key.block (clean_blocks es)
    promoted-entries es d = rw (clean_at-entries es) (looked-step es (lookup_entry (eq key) es) (drop_clean-entries es d))

    counted-step : (b : Bool) (e : Key × List ℕ) (o : Option (Key × List ℕ)) (es rest : List (Key × List ℕ)) → length rest + length (option_to_list o)
        ≡ length es → length (cond b es (e ∷ rest)) + length (option_to_list (cond b (Some e) o)) ≡ length es + 1
    counted-step true e o es rest h = refl
    counted-step false e o es rest h = omega arith

    counted : (es : List (Key × List ℕ)) → length (remove_entry (eq key) es) + length (option_to_list (lookup_entry (eq key) es)) ≡ length es
    counted [] = refl
    counted (e ∷ es) = counted-step (eq key e.0) e (lookup_entry (eq key) es) es (remove_entry (eq key) es) (counted es) ∙ add-one (length es)

    -- an entry less, or none
    pub length-removed : (es : List (Key × List ℕ)) → length (remove_entry (eq key) es) ≤ length es
    length-removed es = omega (arith, counted es)

    promoted-count : (es rest : List (Key × List ℕ)) (o : Option (Key × List ℕ)) → length rest + length (option_to_list o) ≡ length es
        → length (option_map_or (λ e. e ∷ rest) o es) ≡ length es
    promoted-count es rest None h = refl
    promoted-count es rest (Some e) h = omega arith

    -- as many as before
    pub length-promoted : (es : List (Key × List ℕ)) → length (promoted (eq key) es) ≡ length es
    length-promoted es = promoted-count es (remove_entry (eq key) es) (lookup_entry (eq key) es) (counted es)

  all-at-last : (P : Key → Type 0) (front : List (Key × List ℕ)) (last : Key × List ℕ) → AllByRecursion P (keys_of (front ++ last ∷ [])) → P last.0
  all-at-last P [] last h = h.0
  all-at-last P (f ∷ front) last h = all-at-last P front last h.1

  last-found : (front : List (Key × List ℕ)) (last : Key × List ℕ) → IsDistinct eq (keys_of (front ++ last ∷ []))
      → (lookup_entry (eq last.0) (front ++ last ∷ []) ≡ Some last) × (remove_entry (eq last.0) (front ++ last ∷ []) ≡ front)
  last-found [] last d = let on = is_equivalence.refl last.0 in (rw on refl, rw on refl)
  last-found (f ∷ front) last d =
      let apart : eq f.0 last.0 ≡ false = all-at-last (λ y. eq f.0 y ≡ false) front last (IsDistinct-head eq f.0 (keys_of (front ++ last ∷ [])) d) in
      let off : eq last.0 f.0 ≡ false = is_equivalence.symm last.0 f.0 ∙ apart in
      let rest = last-found front last (IsDistinct-tail eq f.0 (keys_of (front ++ last ∷ [])) d) in
      (rw off rest.0, rw off (ap (λ xs. f ∷ xs) rest.1))

  -- the last entry is promoted
  pub promoted-last : (front : List (Key × List ℕ)) (last : Key × List ℕ) → IsDistinct eq (keys_of (front ++ last ∷ [])) → promoted (eq last.0)
      (front ++ last ∷ []) ≡ last ∷ front
  promoted-last front last d = let found = last-found front last d in rw (found.0, found.1) refl

-- the last entry, and those before it
pub last-entry : (front : List (Key × List ℕ)) (last : Key × List ℕ) → last_entry (front ++ last ∷ []) ≡ Some last
last-entry front last = rw (length_push front last, length-minus) (got front last)

pub before-last : (front : List (Key × List ℕ)) (last : Key × List ℕ) → take (length (front ++ last ∷ []) - 1) (front ++ last ∷ []) ≡ front
before-last front last = rw (length_push front last, length-minus) (take_at front (last ∷ []) (length front) refl)

last-key : (key : Key) (es front : List (Key × List ℕ)) (last : Key × List ℕ) → es ≡ front ++ last ∷ [] → Some key ≡ option_map (λ e. e.0)
    (last_entry es) → key ≡ last.0
last-key key es front last split found = let e : last_entry es ≡ Some last = ap last_entry split ∙ last-entry front last in let f : Some key
    ≡ Some last.0 = found ∙ ap (option_map (λ e. e.0)) e in cc

goes-or-stays : (b : Bool) (last : Key × List ℕ) (front : List (Key × List ℕ)) → b ≡ true → front ≡ cond (not b) (last ∷ front) front
goes-or-stays b last front h = rw h refl

stays : (b : Bool) (last : Key × List ℕ) (front : List (Key × List ℕ)) → b ≡ false → last ∷ front ≡ cond (not b) (last ∷ front) front
stays b last front h = rw h refl

-- the last entry is of the file, and goes
pub turn-drops : (file : ℕ) (key : Key) (es : List (Key × List ℕ)) → Some key ≡ option_map (λ e. e.0) (last_entry es) → (key.file == file) ≡ true
    → Turns file es (take (length es - 1) es)
turn-drops file key es found here = λ front last split. let k : key ≡ last.0 = last-key key es front last split found in
    ap (λ xs. take (length xs - 1) xs) split ∙ before-last front last ∙ goes-or-stays (last.0.file == file) last front
    (sym (ap (λ x. x.file == file) k) ∙ here)

-- the last entry is of another file, and goes to the front
pub turn-keeps : (eq : Key → Key → Bool) → IsKeyEquality eq → (file : ℕ) (key : Key) (es : List (Key × List ℕ)) → IsDistinct eq (keys_of es)
    → Some key ≡ option_map (λ e. e.0) (last_entry es) → (key.file == file) ≡ false → Turns file es (promoted (eq key) es)
turn-keeps eq laws file key es d found away = λ front last split.
    let k : key ≡ last.0 = last-key key es front last split found in
    let d' : IsDistinct eq (keys_of (front ++ last ∷ [])) = subst (λ xs. IsDistinct eq (keys_of xs)) split d in
    ap (λ xs. promoted (eq key) xs) split ∙ ap (λ x. promoted (eq x) (front ++ last ∷ [])) k ∙ promoted-last eq laws front last d'
    ∙ stays (last.0.file == file) last front (sym (ap (λ x. x.file == file) k) ∙ away)

others-step : (b : Bool) (e : Key × List ℕ) (es : List (Key × List ℕ)) (rest : List Clean) → clean_blocks es ≡ rest
    → clean_blocks (cond b (e ∷ es) es) ≡ cond b (clean_of e ∷ rest) rest
others-step true e es rest h = ap (λ xs. clean_of e ∷ xs) h
others-step false e es rest h = h

-- the entries of other files are the blocks of other files
pub purge-entries : (file : ℕ) (es : List (Key × List ℕ)) → clean_blocks (filter (is_of_other file) es) ≡ purge file (clean_blocks es)
purge-entries file [] = refl
purge-entries file (e ∷ es) = others-step (is_of_other file e) e (filter (is_of_other file) es) _ (purge-entries file es)

walked-at : (file m : ℕ) (e : Key × List ℕ) (es before after : List (Key × List ℕ)) → m < length es → before ≡ walked file (m + 1) es
    → Turns file before after → after ≡ walked file m es
walked-at file m e es before after within was turns =
    let x : Key × List ℕ = get_or es m e in
    let kept : List (Key × List ℕ) = filter (is_of_other file) (drop (m + 1) es) in
    let front : take (m + 1) es ≡ take m es ++ x ∷ [] = take_more es m e within in
    let split : before ≡ (kept ++ take m es) ++ x ∷ [] = was ∙ ap (λ xs. kept ++ xs) front ∙ sym (append_assoc kept (take m es) (x ∷ [])) in
    let rest : drop m es ≡ x ∷ drop (m + 1) es = drop_more es m e within in
    turns (kept ++ take m es) x split ∙ turned-step (is_of_other file x) x kept (take m es) ∙ ap (λ xs. filter (is_of_other file) xs ++ take m es) (sym rest)

-- one more entry was looked at
pub walked-more : (file m : ℕ) (es before after : List (Key × List ℕ)) → m < length es → before ≡ walked file (m + 1) es → Turns file before after
    → after ≡ walked file m es
walked-more file m [] before after within was turns = absurd (omega arith)
walked-more file m (e ∷ es) before after within was turns = walked-at file m e (e ∷ es) before after within was turns

-- no more than so many entries are no more than so many blocks
pub at_most-entries : (n : ℕ) (es : List (Key × List ℕ)) → clean_blocks (take n es) ≡ at_most n (clean_blocks es)
at_most-entries zero [] = refl
at_most-entries zero (e ∷ es) = refl
at_most-entries (suc n) [] = refl
at_most-entries (suc n) (e ∷ es) = rw (at_most-more n (clean_of e) (clean_blocks es)) (ap (λ xs. clean_of e ∷ xs) (at_most-entries n es))

fewer-step : (b : Bool) (e : Key × List ℕ) (es : List (Key × List ℕ)) (n : ℕ) → length es ≤ n → length (cond b (e ∷ es) es) ≤ n + 1
fewer-step true e es n h = omega arith
fewer-step false e es n h = omega arith

fewer : (file : ℕ) (es : List (Key × List ℕ)) → length (filter (is_of_other file) es) ≤ length es
fewer file [] = omega arith
fewer file (e ∷ es) = subst (λ n. length (filter (is_of_other file) (e ∷ es)) ≤ n) (add-one (length es)) (fewer-step (is_of_other file e) e
    (filter (is_of_other file) es) (length es) (fewer file es))

no-rest : (file : ℕ) (es : List (Key × List ℕ)) → walked file (length es - length es) es ≡ filter (is_of_other file) es
no-rest file es = let z : length es - length es ≡ 0 = omega arith in rw z (append-nil (filter (is_of_other file) es))

-- all entries were looked at
pub purged : (file : ℕ) (es after : List (Key × List ℕ)) → after ≡ walked file (length es - length es) es
    → (clean_blocks after ≡ purge file (clean_blocks es)) × (length after ≤ length es)
purged file es after h = let e = h ∙ no-rest file es in (
  ap clean_blocks e ∙ purge-entries file es,
  subst (λ xs. length xs ≤ length es) (sym e)
      (fewer file es),
)

abbrev AreOthers : ℕ → List Clean → Type 0
AreOthers file ks = AllByRecursion (λ k. (k.file == file) ≡ false) ks

others-step-2 : (file : ℕ) (b : Bool) (k : Clean) (ks : List Clean) → (k.file == file) ≡ b → AreOthers file ks → AreOthers file (cond (not b) (k ∷ ks) ks)
others-step-2 file true k ks e h = h
others-step-2 file false k ks e h = (e, h)

purge-leaves : (file : ℕ) (ks : List Clean) → AreOthers file (purge file ks)
purge-leaves file [] = tt
purge-leaves file (k ∷ ks) = others-step-2 file (k.file == file) k (purge file ks) refl (purge-leaves file ks)

drop-others : (file block : ℕ) (ks : List Clean) → AreOthers file ks → drop_clean file block ks ≡ ks
drop-others file block [] h = refl
drop-others file block (k ∷ ks) h = rw h.0 (ap (λ xs. k ∷ xs) (drop-others file block ks h.1))

drop-behind : (file block : ℕ) (body : List ℕ) (ks : List Clean) → AreOthers file ks → drop_clean file block (ks ++ record {
  file = file;
  block =
      block;
  body = body;
} ∷ []) ≡ ks
drop-behind file block body [] h = rw (both-same file block) refl
drop-behind file block body (k ∷ ks) h = rw h.0 (ap (λ xs. k ∷ xs) (drop-behind file block body ks h.1))

found-behind : (file block : ℕ) (body : List ℕ) (ks : List Clean) → AreOthers file ks → clean_at file block (ks ++ record {
  file = file;
  block =
      block;
  body = body;
} ∷ []) ≡ Some (record { file = file; block = block; body = body })
found-behind file block body [] h = rw (both-same file block) refl
found-behind file block body (k ∷ ks) h = rw h.0 (found-behind file block body ks h.1)

purge-dropped : (file block : ℕ) (ks : List Clean) → purge file (drop_clean file block ks) ≡ purge file ks
purge-dropped file block [] = refl
purge-dropped file block (k ∷ ks) = (elim (k.file == file) as (λ a. (k.file == file) ≡ a → purge file (drop_clean file block (k ∷ ks)) ≡ purge file (k ∷ ks)) [
  | true ↦ λ e. (elim (k.block == block) as (λ b. (k.block == block) ≡ b → purge file (drop_clean file block (k ∷ ks)) ≡ purge file (k ∷ ks)) [
    | true ↦ λ f. rw (e, f) (purge-dropped file block ks)
    | false ↦ λ f. rw (e, f) (rw e (purge-dropped file block ks))
  ]) refl
  | false ↦ λ e. rw e (rw e (ap (λ xs. k ∷ xs) (purge-dropped file block ks)))
]) refl

walked-to-first : (file : ℕ) (e : Key × List ℕ) (es : List (Key × List ℕ)) → walked file (length (e ∷ es) - (length (e ∷ es) - 1)) (e ∷ es)
    ≡ filter (is_of_other file) es ++ e ∷ []
walked-to-first file e es = let n : length (e ∷ es) - (length (e ∷ es) - 1) ≡ 1 = omega arith in rw n refl

-- the first block stays, and those of its file behind it go
pub first_stays : (file block : ℕ) (body : List ℕ) (rest : List Clean) (es after : List (Key × List ℕ)) → clean_blocks es ≡ record {
  file = file;
  block = block;
  body = body;
} ∷ drop_clean file block rest → after ≡ walked file (length es - (length es - 1)) es → looked_up file block
    (clean_blocks after) ≡ record { file = file; block = block; body = body } ∷ drop_clean file block (purge file rest)
first_stays file block body rest [] after split h = absurd cc
first_stays file block body rest (e ∷ es) after split h =
    let others = purge-leaves file rest in
    let first : clean_of e ≡ record { file = file; block = block; body = body } = cc in
    let behind : clean_blocks es ≡ drop_clean file block rest = cc in
    let left : clean_blocks after ≡ purge file rest ++ record { file = file; block = block; body = body } ∷ [] =
    ap clean_blocks (h ∙ walked-to-first file e es) ∙ map_push clean_of (filter (is_of_other file) es) e
    ∙ ap (λ xs. xs ++ clean_of e ∷ []) (purge-entries file es ∙ ap (purge file) behind ∙ purge-dropped file block rest)
    ∙ ap (λ k. purge file rest ++ k ∷ []) first in
    ap (looked_up file block) left
    ∙ ap (λ o. touched file block o (purge file rest ++ record { file = file; block = block; body = body } ∷ [])) (found-behind file block body
    (purge file rest) others)
    ∙ ap (λ xs. record { file = file; block = block; body = body } ∷ xs) (drop-behind file block body (purge file rest) others
    ∙ sym (drop-others file block (purge file rest) others))
