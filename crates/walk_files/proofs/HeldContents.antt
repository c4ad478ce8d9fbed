-- What the changes of a file made of each block is what the server holds of it.
use Rattle.std.proofs.Common.{◌≡◌, ◌≢◌, ◌<◌, ◌≤◌, ◌⊎◌, ℕ, zero, suc, ◌==◌, Bool, true, false, ◌&&◌, List, [], ◌∷◌, ◌++◌, Some, None, take, replicate}
use Rattle.std.proofs.Common.{length, if◌then◌else◌, refl, sym, subst, ap, ◌∙◌, arith, inl, inr}
use Rattle.std.specs.Prelude.{slice_get, slice_set}
use Rattle.std.specs.Option.{option_or}
use Rattle.std.proofs.lemmas.Bool.{cases_eq}
use Rattle.std.proofs.lemmas.Bool.Decides.{nat_tests}
use Rattle.std.proofs.lemmas.List.{length-append, length-replicate, length-take, length-set}
use Rattle.std.proofs.lemmas.Option.{slice_get_within}
use Rattle.nq_base.specs.declared.Entry.{Entry}
use Rattle.nq_base.specs.declared.Entry.TheVariants.{C, W, R, S, L, G, F, O, B, X, Z, A}
use Rattle.nq_base.specs.declared.Who.{Who}
use Rattle.walk_steps.proofs.ClientMoves.{some-same, none-some}
use Rattle.walk_files.proofs.Histories.{count-changed, count-unchanged, content-stays, content-changed}
use Rattle.nq_model.specs.laws.Contents.{changes, changes_of, delayed_value, after_change, with_length, content_at}
use Rattle.walk_files.proofs.WritesFit.{IsRising}
use Rattle.walk_files.proofs.Held.{HasHeld, Skips, held-skip, held-cut, delayed-unheld}
use Rattle.walk_files.proofs.Stores.{Rests}
use Rattle.nq_model.proofs.JournalTests.{tells_who}
use Rattle.nq_model.proofs.Telling.{tells_4, tells_same}
use Rattle.nq_model.specs.laws.Tests.{Tells}
use Rattle.nq_model.specs.laws.Journal.{Throughout, cuts, IsWriteOn, Stores}
use Rattle.walk_steps.proofs.Packets.{In}
use Rattle.walk_steps.proofs.Worlds.{get-set-same, get-set-other}
use Rattle.walk_steps.proofs.Rows.{number-same}
use Rattle.nq_model.specs.protocol.Table.{same_who}

-- ---- entries that change no file, or another

-- an entry that does not change a file skips its blocks
pub unchanged-skips : (e : Entry) (j : List Entry) (file block : ℕ) → IsRising e j → Throughout Rests j → changes e file ≡ false → Skips e j file block
unchanged-skips (W who f b n v true) j file block rise rests no_change =
    record { uncut = refl; unheld = λ h. let same : (f == file) ≡ true = number-same _ _ h.0.0 in absurd (cc); stores = λ w on c. c }
unchanged-skips (W who f b n v false) j file block rise rests no_change =
    record { uncut = refl; unheld = delayed-unheld who f b n v file block j rise rests; stores = λ w on c. c }
unchanged-skips (S who f b first last now) j file block rise rests no_change = record { uncut = refl; unheld = λ h. h.0; stores = apart }
  where
    apart : (w : Entry) → IsWriteOn file block w → Stores (S who f b first last now) w → ⊥
    apart (W by g k n v false) on c = let same : (f == file) ≡ true = number-same _ _ (sym c.1 ∙ on.0) in absurd (cc)
    apart (W by g k n v true) on c = c
    apart other on c = absurd on
unchanged-skips (Z who q f from to) j file block rise rests no_change = record { uncut = rw no_change refl; unheld = λ h. h.0; stores = λ w on c. c }
unchanged-skips (C w q' told) j file block rise rests no_change = record { uncut = refl; unheld = λ h. h.0; stores = λ w on c. c }
unchanged-skips (R w q' f b v served) j file block rise rests no_change = record { uncut = refl; unheld = λ h. h.0; stores = λ w on c. c }
unchanged-skips (L w f b x y) j file block rise rests no_change = record { uncut = refl; unheld = λ h. h.0; stores = λ w on c. c }
unchanged-skips (G w f mode tag term now) j file block rise rests no_change = record { uncut = refl; unheld = λ h. h.0; stores = λ w on c. c }
unchanged-skips (F w f until heard now) j file block rise rests no_change = record { uncut = refl; unheld = λ h. h.0; stores = λ w on c. c }
unchanged-skips (O boot until heard now) j file block rise rests no_change = record { uncut = refl; unheld = λ h. h.0; stores = λ w on c. c }
unchanged-skips (B w) j file block rise rests no_change = record { uncut = refl; unheld = λ h. h.0; stores = λ w on c. c }
unchanged-skips (X boot now longest) j file block rise rests no_change = record { uncut = refl; unheld = λ h. h.0; stores = λ w on c. c }
unchanged-skips (A w q' said) j file block rise rests no_change = record { uncut = refl; unheld = λ h. h.0; stores = λ w on c. c }

-- ---- the value of a delayed write

tells_by : (who by : Who) (f file b block n number : ℕ)
    → Tells (same_who by who && f == file && b == block && n == number) ((by ≡ who) × (f ≡ file) × (b ≡ block) × (n ≡ number))
tells_by who by f file b block n number = tells_4 tells_who tells_same tells_same tells_same

-- where none stands, none is found
delayed-none : (j : List Entry) (who : Who) (file block number : ℕ) → ((v : ℕ) → In j (W who file block number v false) → ⊥)
    → delayed_value j who file block number ≡ None
delayed-none [] who file block number none = refl
delayed-none (W by f b n v false ∷ j) who file block number none =
    step (same_who by who && f == file && b == block && n == number) refl (delayed-none j who file block number (λ u i. none u (inr i)))
  where
    step : (t : Bool) → (same_who by who && f == file && b == block && n == number) ≡ t → delayed_value j who file block number ≡ None
        → option_or (delayed_value j who file block number) (if t then Some v else None) ≡ None
    step true is rest =
        let k = (tells_by who by f file b block n number).sound is in
        absurd
        (none v
        (inl (ap (λ z. W z f b n v false) k.0 ∙ ap (λ z. W who z b n v false) k.1 ∙ ap (λ z. W who file z n v false) k.2
        ∙ ap (λ z. W who file block z v false) k.3)))
    step false is rest = rw rest refl
delayed-none (W by f b n v true ∷ j) who file block number none = rw (delayed-none j who file block number (λ u i. none u (inr i))) refl
delayed-none (other ∷ j) who file block number none = rw (delayed-none j who file block number (λ u i. none u (inr i))) refl

delayed-here : (who : Who) (file block number v : ℕ) (j : List Entry) → IsRising (W who file block number v false) j
    → delayed_value (W who file block number v false ∷ j) who file block number ≡ Some v
delayed-here who file block number v j rise =
    let first : delayed_value j who file block number ≡ None = delayed-none j who file block number
    (λ u i. let past = rise file block number u i in omega arith) in
    let same : same_who who who && file == file && block == block && number ==
    number ≡ true = (tells_by who who file file block block number number).complete (refl, refl, refl, refl) in
    rw (first, same) refl

pub delayed-is : (j : List Entry) (who : Who) (file block number v : ℕ) → Throughout IsRising j → In j (W who file block number v false)
    → delayed_value j who file block number ≡ Some v
delayed-is [] who file block number v rising i = absurd i
delayed-is (e ∷ j) who file block number v rising (inr i) = rw (delayed-is j who file block number v rising.1 i) refl
delayed-is (e ∷ j) who file block number v rising (inl same) =
    subst (λ x. delayed_value (x ∷ j) who file block number ≡ Some v) (sym same)
    (delayed-here who file block number v j (subst (λ x. IsRising x j) same rising.0))

-- ---- the blocks of a file

-- the content of a file after all its changes
abbrev pub content : (journal : List Entry) (first file : ℕ) → List ℕ
content journal first file = content_at journal first file (changes_of journal file)

-- each block has the value that the server holds of it, and beyond them nothing is held
pub record HeldBlocks (journal : List Entry) (file : ℕ) (values : List ℕ) : Type 0 where
  pub here : (block v : ℕ) → slice_get values block ≡ Some v → HasHeld journal file block v
  pub past : (block : ℕ) → length values ≤ block → HasHeld journal file block 0

-- a write that went through, or was stored, is of a block that its file has
abbrev pub IsInside : (first : ℕ → ℕ) → Entry → (before : List Entry) → Type 0
IsInside first (W who file block n v true) before = block < length (content before (first file) file)
IsInside first (S who file block first_number last now) before = block < length (content before (first file) file)
IsInside first other before = Unit {0}

pub content-same : (e : Entry) (j : List Entry) (first file : ℕ) → changes e file ≡ false → content (e ∷ j) first file ≡ content j first file
content-same e j first file is =
    ap (content_at (e ∷ j) first file) (count-unchanged e j file is) ∙ content-stays e j first file (changes_of j file) (omega arith)

pub content-next : (e : Entry) (j : List Entry) (first file : ℕ) → changes e file ≡ true → content (e ∷ j) first file ≡ after_change e j (content j first file)
content-next e j first file is = ap (content_at (e ∷ j) first file) (count-changed e j file is) ∙ content-changed e j first file is

pub skip-all : (e : Entry) (j : List Entry) (file : ℕ) (values : List ℕ) → ((block : ℕ) → Skips e j file block) → HeldBlocks j file values
    → HeldBlocks (e ∷ j) file values
skip-all e j file values skips h = record {
  here = λ block v is. held-skip e j file block v (skips block) (h.here block v is);
  past = λ block above. held-skip e j file block 0 (skips block) (h.past block above);
}

pub set-block : (e : Entry) (j : List Entry) (file block value : ℕ) (values : List ℕ) → block < length values → HasHeld (e ∷ j) file block value
    → ((other : ℕ) → other ≢ block → Skips e j file other) → HeldBlocks j file values → HeldBlocks (e ∷ j) file (slice_set values block value)
set-block e j file block value values inside now skips h = record { here = λ b v is. found b v is (cases_eq b block); past = λ b above. beyond b above }
  where
    found : (b v : ℕ) → slice_get (slice_set values block value) b ≡ Some v → (b ≡ block) ⊎ (b ≢ block) → HasHeld (e ∷ j) file b v
    found b v is (inl same) =
        let one : v ≡ value = get-set-same values block value v (subst (λ k. slice_get (slice_set values block value) k ≡ Some v) same is) in
        subst (λ k. HasHeld (e ∷ j) file k v) (sym same) (subst (HasHeld (e ∷ j) file block) (sym one) now)
    found b v is (inr apart) = held-skip e j file b v (skips b apart) (h.here b v (sym (get-set-other values block b value apart) ∙ is))

    beyond : (b : ℕ) → length (slice_set values block value) ≤ b → HasHeld (e ∷ j) file b 0
    beyond b above =
        let size : length (slice_set values block value) ≡ length values = length-set values block value in
        held-skip e j file b 0 (skips b (λ same. omega arith)) (h.past b (omega arith))

-- another length
pub lengthened : (to : ℕ) (values : List ℕ) → length (with_length to values) ≡ to
lengthened to values = omega (arith, length-take to (values ++ replicate to 0), length-append values (replicate to 0), length-replicate {A = ℕ} to 0)

zeros-get : (n m b v : ℕ) → slice_get (take n (replicate m 0)) b ≡ Some v → v ≡ 0
zeros-get zero m b v is = none-some v is
zeros-get (suc n) zero b v is = none-some v is
zeros-get (suc n) (suc m) zero v is = sym (some-same 0 v is)
zeros-get (suc n) (suc m) (suc b) v is = zeros-get n m b v is

padded-get : (n m : ℕ) (values : List ℕ) (b v : ℕ) → slice_get (take n (values ++ replicate m 0)) b ≡ Some v
    → (slice_get values b ≡ Some v) ⊎ ((length values ≤ b) × (v ≡ 0))
padded-get n m [] b v is = inr (omega arith, zeros-get n m b v is)
padded-get zero m (x ∷ values) b v is = none-some v is
padded-get (suc n) m (x ∷ values) zero v is = inl is
padded-get (suc n) m (x ∷ values) (suc b) v is = next (padded-get n m values b v is)
  where
    next : (slice_get values b ≡ Some v) ⊎ ((length values ≤ b) × (v ≡ 0)) → (slice_get values b ≡ Some v) ⊎ ((suc (length values) ≤ suc b) × (v ≡ 0))
    next (inl a) = inl a
    next (inr p) = inr (let above = p.0 in omega arith, p.1)

pub cut-blocks : (who : Who) (q file from to : ℕ) (j : List Entry) (values : List ℕ) → HeldBlocks j file values
    → HeldBlocks (Z who q file from to ∷ j) file (with_length to values)
cut-blocks who q file from to j values h =
    record { here = λ b v is. found b v is (padded-get to to values b v is); past = λ b above. held-cut (Z who q file from to) j file b 0 (cut b above) }
  where
    kept : (b v : ℕ) → slice_get (with_length to values) b ≡ Some v → Skips (Z who q file from to) j file b
    kept b v is =
        let below = slice_get_within (with_length to values) b v is in
        let size = lengthened to values in
        let short : b < to = omega arith in
        record { uncut = grind (arith, nat_tests); unheld = λ x. x.0; stores = λ w on c. c }

    found : (b v : ℕ) → slice_get (with_length to values) b ≡ Some v → (slice_get values b ≡ Some v) ⊎ ((length values ≤ b) × (v ≡ 0))
        → HasHeld (Z who q file from to ∷ j) file b v
    found b v is (inl old) = held-skip (Z who q file from to) j file b v (kept b v is) (h.here b v old)
    found b v is (inr p) =
        subst (HasHeld (Z who q file from to ∷ j) file b) (sym p.1) (held-skip (Z who q file from to) j file b 0 (kept b v is) (h.past b p.0))

    cut : (b : ℕ) → length (with_length to values) ≤ b → cuts (Z who q file from to) file b ≡ true
    cut b above = let size = lengthened to values in let far : to ≤ b = omega arith in grind (arith, nat_tests)
