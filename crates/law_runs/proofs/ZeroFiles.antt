-- What no write has touched stays zeros at each change of the kept files and of the journal.
use Rattle.std.proofs.Common.{◌≡◌, ◌≢◌, ◌<◌, ◌⊎◌, ℕ, zero, suc, ◌==◌, Bool, true, false, ◌&&◌, ◌||◌, List, [], ◌∷◌, ◌++◌, Some, nat_le, if◌then◌else◌}
use Rattle.std.proofs.Common.{take, replicate, refl, sym, subst, ap, ◌∙◌, arith, inl, inr}
use Rattle.std.specs.Prelude.{slice_get}
use Rattle.std.proofs.lemmas.Bool.Decides.{nat_tests}
use Rattle.nq_base.specs.Block.{zeros}
use Rattle.nq_base.specs.declared.Entry.{Entry}
use Rattle.nq_base.specs.declared.Entry.TheVariants.{Z}
use Rattle.nq_base.specs.declared.Who.{Who}
use Rattle.nq_model.specs.laws.UntouchedAreZeros.{touches, AreZeros}
use Rattle.nq_model.proofs.Finding.{same-number, number-other, is-other}
use Rattle.nq_model.specs.laws.Journal.{Each, cuts, since_cut}
use Rattle.nq_model.specs.laws.JournalTest.{exists}
use Rattle.nq_model.specs.protocol.Kept.{File, find_file, replace_file, drop_file, new_file, written_file, resized, resized_file, fenced_file}
use Rattle.walk_steps.proofs.ClientMoves.{some-same, none-some}
use Rattle.walk_steps.proofs.Worlds.{get-set-other}
use Rattle.walk_steps.proofs.KeptChanges.{found-replaced, find-removed, find-not-removed, found-added}

-- ---- entries that cut no block

abbrev pub NoCut : Entry → Type 0
NoCut e = (file block : ℕ) → cuts e file block ≡ false

abbrev pub Untouched : List Entry → (file block : ℕ) → Type 0
Untouched j file block = exists (touches file block) (since_cut j file block) ≡ false

or-none : (a b : Bool) → (a || b) ≡ false → (a ≡ false) × (b ≡ false)
or-none true b h = absurd (cc)
or-none false b h = (refl, h)

-- an entry that does not cut a block stands before what came earlier
pub before-this : (e : Entry) (j : List Entry) (file block : ℕ) → cuts e file block ≡ false → Untouched (e ∷ j) file block
    → (touches file block e ≡ false) × Untouched j file block
before-this e j file block whole h = or-none _ _ (subst (λ c. exists (touches file block) (if c then [] else e ∷ since_cut j file block) ≡ false) whole h)

before-these : (es j : List Entry) (file block : ℕ) → Each NoCut es → Untouched (es ++ j) file block → Untouched j file block
before-these [] j file block none h = h
before-these (e ∷ es) j file block none h = before-these es j file block none.1 (before-this e (es ++ j) file block (none.0 file block) h).1

pub zeros-idle : (files : List File) (es j : List Entry) → Each NoCut es → AreZeros files j → AreZeros files (es ++ j)
zeros-idle files es j none h id f block body found there untouched = h id f block body found there (before-these es j id block none untouched)

-- ---- a block is written

pub zeros-written : (files : List File) (j : List Entry) (e : Entry) (f : File) (block : ℕ) (body : List ℕ) → NoCut e → touches f.id block e ≡ true
    → find_file f.id files ≡ Some f → AreZeros files j → AreZeros (replace_file (written_file f block body) files) (e ∷ j)
unfolding written_file
zeros-written files j e f block body none writes found h id g b is there has untouched = case (found-replaced id (written_file f block body) g files there)
  where
    earlier : (touches id b e ≡ false) × Untouched j id b
    earlier = before-this e j id b (none id b) untouched

    at : (x : Bool) → (b == block) ≡ x → id ≡ f.id → g ≡ written_file f block body → is ≡ zeros
    at true same own new =
        let writes_it : touches id b e ≡ true = ap (λ n. touches n b e) own ∙ ap (λ n. touches f.id n e) (same-number b block same) ∙ writes in
        let idle : touches id b e ≡ false = earlier.0 in
        absurd (cc)
    at false other own new =
        let apart : b ≢ block = is-other b block other in
        h f.id f b is found (sym (get-set-other f.bodies block b body apart) ∙ ap (λ z. slice_get z.bodies b) (sym new) ∙ has)
        (subst (λ n. Untouched j n b) own earlier.1)

    case : ((id ≡ f.id) × (g ≡ written_file f block body)) ⊎ ((id ≢ f.id) × (find_file id files ≡ Some g)) → is ≡ zeros
    case (inl k) = at (b == block) refl k.0 k.1
    case (inr k) = h id g b is k.1 has earlier.1

-- ---- a file is fenced

pub zeros-fenced : (files : List File) (j : List Entry) (e : Entry) (f : File) → NoCut e → find_file f.id files ≡ Some f → AreZeros files j
    → AreZeros (replace_file (fenced_file f) files) (e ∷ j)
unfolding fenced_file
zeros-fenced files j e f none found h id g b is there has untouched = case (found-replaced id (fenced_file f) g files there)
  where
    earlier : Untouched j id b
    earlier = (before-this e j id b (none id b) untouched).1

    case : ((id ≡ f.id) × (g ≡ fenced_file f)) ⊎ ((id ≢ f.id) × (find_file id files ≡ Some g)) → is ≡ zeros
    case (inl k) = h f.id f b is found (ap (λ z. slice_get z.bodies b) (sym k.1) ∙ has) (subst (λ n. Untouched j n b) k.0 earlier)
    case (inr k) = h id g b is k.1 has earlier

-- ---- a file gets another length

get-take : {A : Type 0} (n : ℕ) (xs : List A) (i : ℕ) (x : A) → slice_get (take n xs) i ≡ Some x → (i < n) × (slice_get xs i ≡ Some x)
get-take zero xs i x h = none-some x h
get-take (suc n) [] i x h = none-some x h
get-take (suc n) (y ∷ ys) zero x h = (omega arith, h)
get-take (suc n) (y ∷ ys) (suc i) x h = let k = get-take n ys i x h in (let below = k.0 in omega arith, k.1)

pub get-replicate : {A : Type 0} (n : ℕ) (z : A) (i : ℕ) (x : A) → slice_get (replicate n z) i ≡ Some x → x ≡ z
get-replicate zero z i x h = none-some x h
get-replicate (suc n) z zero x h = sym (some-same z x h)
get-replicate (suc n) z (suc i) x h = get-replicate n z i x h

get-append : {A : Type 0} (xs ys : List A) (i : ℕ) (x : A) → slice_get (xs ++ ys) i ≡ Some x → (slice_get xs i ≡ Some x)
    ⊎ ((k : ℕ) × (slice_get ys k ≡ Some x))
get-append [] ys i x h = inr (i, h)
get-append (y ∷ xs) ys zero x h = inl h
get-append (y ∷ xs) ys (suc i) x h = get-append xs ys i x h

-- a block of the new length was there, or is zeros
get-resized : (blocks : ℕ) (bodies : List (List ℕ)) (b : ℕ) (body : List ℕ) → slice_get (resized blocks bodies) b ≡ Some body
    → (b < blocks) × ((slice_get bodies b ≡ Some body) ⊎ (body ≡ zeros))
get-resized blocks bodies b body h = (k.0, case (get-append bodies (replicate blocks zeros) b body k.1))
  where
    k : (b < blocks) × (slice_get (bodies ++ replicate blocks zeros) b ≡ Some body)
    k = get-take blocks (bodies ++ replicate blocks zeros) b body h

    case : (slice_get bodies b ≡ Some body) ⊎ ((i : ℕ) × (slice_get (replicate blocks zeros) i ≡ Some body)) → (slice_get bodies b ≡ Some body)
        ⊎ (body ≡ zeros)
    case (inl a) = inl a
    case (inr n) = inr (get-replicate blocks zeros n.0 body n.1)

-- a block below the new length, and a block of another file, is not cut
not-cut : (who : Who) (q on from to file b : ℕ) → (b < to) ⊎ (file ≢ on) → cuts (Z who q on from to) file b ≡ false
not-cut who q on from to file b (inl below) = let no : nat_le to b ≡ false = grind (arith, nat_tests) in last (on == file) (nat_le to b) no
  where
    last : (x y : Bool) → y ≡ false → (x && y) ≡ false
    last true y e = e
    last false y e = refl
not-cut who q on from to file b (inr apart) = let no : (on == file) ≡ false = number-other on file (λ e. apart (sym e)) in ap (λ x. x && nat_le to b) no

pub zeros-resized : (files : List File) (j : List Entry) (who : Who) (q from blocks : ℕ) (f : File) → find_file f.id files ≡ Some f → AreZeros files j
    → AreZeros (replace_file (resized_file f blocks) files) (Z who q f.id from blocks ∷ j)
unfolding resized_file
zeros-resized files j who q from blocks f found h id g b is there has untouched = case (found-replaced id (resized_file f blocks) g files there)
  where
    earlier : (b < blocks) ⊎ (id ≢ f.id) → Untouched j id b
    earlier kept = (before-this (Z who q f.id from blocks) j id b (not-cut who q f.id from blocks id b kept) untouched).1

    own : id ≡ f.id → (b < blocks) × ((slice_get f.bodies b ≡ Some is) ⊎ (is ≡ zeros)) → is ≡ zeros
    own same (below, inl old) = h f.id f b is found old (subst (λ n. Untouched j n b) same (earlier (inl below)))
    own same (below, inr new) = new

    case : ((id ≡ f.id) × (g ≡ resized_file f blocks)) ⊎ ((id ≢ f.id) × (find_file id files ≡ Some g)) → is ≡ zeros
    case (inl k) = own k.0 (get-resized blocks f.bodies b is (ap (λ z. slice_get z.bodies b) (sym k.1) ∙ has))
    case (inr k) = h id g b is k.1 has (earlier (inr k.0))

-- ---- a file is made, and taken away

pub zeros-made : (files : List File) (j : List Entry) (next : ℕ) (name : List ℕ) (blocks : ℕ) → AreZeros files j
    → AreZeros (files ++ new_file next name blocks ∷ []) j
unfolding new_file
zeros-made files j next name blocks h id g b is there has untouched = case (found-added id (new_file next name blocks) g files there)
  where
    case : (find_file id files ≡ Some g) ⊎ ((id ≡ next) × (g ≡ new_file next name blocks)) → is ≡ zeros
    case (inl k) = h id g b is k has untouched
    case (inr k) = get-replicate blocks zeros b is (ap (λ z. slice_get z.bodies b) (sym k.1) ∙ has)

pub zeros-removed : (files : List File) (j : List Entry) (who : Who) (q from file : ℕ) → AreZeros files j
    → AreZeros (drop_file file files) (Z who q file from 0 ∷ j)
zeros-removed files j who q from file h id g b is there has untouched = case (id == file) refl
  where
    case : (x : Bool) → (id == file) ≡ x → is ≡ zeros
    case true same = none-some g (sym (find-removed file files) ∙ ap (λ n. find_file n (drop_file file files)) (sym (same-number id file same)) ∙ there)
    case false other =
        let apart : id ≢ file = is-other id file other in
        h id g b is (sym (find-not-removed file id files apart) ∙ there) has
        (before-this (Z who q file from 0) j id b (not-cut who q file from 0 id b (inr apart)) untouched).1
