-- In a journal whose stores rest on what they must, the content of each file is what the server holds.
use Rattle.std.proofs.Common.{◌≡◌, ◌≢◌, ◌<◌, ℕ, zero, suc, Bool, true, false, List, [], ◌∷◌, Some, replicate, length, refl, sym, subst, ap, ◌∙◌}
use Rattle.std.specs.Prelude.{slice_get, slice_set, unwrap_or}
use Rattle.std.proofs.lemmas.List.{length-set}
use Rattle.nq_base.specs.declared.Entry.{Entry}
use Rattle.nq_base.specs.declared.Entry.TheVariants.{W, S, F, Z}
use Rattle.nq_base.specs.declared.Who.{Who}
use Rattle.walk_steps.proofs.ClientMoves.{some-same, none-some}
use Rattle.nq_model.specs.laws.Contents.{changes, delayed_value, after_change}
use Rattle.walk_files.proofs.WritesFit.{IsRising}
use Rattle.walk_files.proofs.Held.{held-through, held-store}
use Rattle.walk_files.proofs.HeldContents.{HeldBlocks, IsInside, content, content-same, content-next, unchanged-skips, delayed-is, skip-all}
use Rattle.walk_files.proofs.HeldContents.{set-block, lengthened, cut-blocks}
use Rattle.walk_files.proofs.Stores.{StoreFits, Rests}
use Rattle.nq_model.specs.laws.Journal.{Throughout, IsWriteOn, Stores}
use Rattle.nq_model.specs.laws.Synchronized.{last_length}
use Rattle.walk_steps.proofs.Rows.{same-number}

-- what a journal rests on
pub record RestsOn (first : ℕ → ℕ) (journal : List Entry) : Type 0 where
  pub rising : Throughout IsRising journal
  pub stores : Throughout Rests journal
  pub inside : Throughout (IsInside first) journal

-- ---- one more change

through-blocks : (first : ℕ → ℕ) (who : Who) (file block n v : ℕ) (j : List Entry) (values : List ℕ) → block < length values → HeldBlocks j file values
    → HeldBlocks (W who file block n v true ∷ j) file (slice_set values block v)
through-blocks first who file block n v j values inside h =
    set-block (W who file block n v true) j file block v values inside (held-through who file block n v j)
    (λ other apart. record { uncut = refl; unheld = λ x. apart (sym x.0.1); stores = λ w on c. c }) h

store-apart : (who : Who) (file block first last now other : ℕ) → other ≢ block → (w : Entry) → IsWriteOn file other w
    → Stores (S who file block first last now) w → ⊥
store-apart who file block first last now other apart (W by g k n v false) on c = apart (sym on.1 ∙ c.2)
store-apart who file block first last now other apart (W by g k n v true) on c = c
store-apart who file block first last now other apart e on c = absurd on

store-blocks : (who : Who) (file block first last now : ℕ) (j : List Entry) (values : List ℕ) → Throughout IsRising j
    → (fits : StoreFits who file block first last j) → block < length values → HeldBlocks j file values
    → HeldBlocks (S who file block first last now ∷ j) file (slice_set values block (unwrap_or (delayed_value j who file block last) 0))
store-blocks who file block first last now j values rising fits inside h =
    subst (λ o. HeldBlocks (S who file block first last now ∷ j) file (slice_set values block (unwrap_or o 0)))
    (sym (delayed-is j who file block last fits.value rising fits.last_there))
    (set-block (S who file block first last now) j file block fits.value values inside (held-store who file block first last now j rising fits)
    (λ other apart. record { uncut = refl; unheld = λ x. x.0; stores = store-apart who file block first last now other apart }) h)

-- the entry changes the file
changed-blocks : (first : ℕ → ℕ) (e : Entry) (j : List Entry) (file : ℕ) → Throughout IsRising j → Rests e j → IsInside first e j
    → changes e file ≡ true → HeldBlocks j file (content j (first file) file) → HeldBlocks (e ∷ j) file (after_change e j (content j (first file) file))
changed-blocks first (W who f b n v true) j file rising rests inside is h =
    let same : f ≡ file = same-number f file is in
    subst (λ k. b < length (content j (first k) k) → HeldBlocks j k (content j (first k) k)
    → HeldBlocks (W who f b n v true ∷ j) k (slice_set (content j (first k) k) b v)) same
    (through-blocks first who f b n v j (content j (first f) f)) (subst (λ k. b < length (content j (first k) k)) same inside) h
changed-blocks first (W who f b n v false) j file rising rests inside is h = absurd (cc)
changed-blocks first (S who f b start last now) j file rising rests inside is h =
    let same : f ≡ file = same-number f file is in
    subst (λ k. HeldBlocks j k (content j (first k) k)
    → HeldBlocks (S who f b start last now ∷ j) k (slice_set (content j (first k) k) b (unwrap_or (delayed_value j who f b last) 0))) same
    (store-blocks who f b start last now j (content j (first f) f) rising rests inside) h
changed-blocks first (Z who q f from to) j file rising rests inside is h =
    subst (λ k. HeldBlocks (Z who q k from to ∷ j) file (after_change (Z who q f from to) j (content j (first file) file))) (sym (same-number f file is))
    (cut-blocks who q file from to j (content j (first file) file) h)
changed-blocks first (F who f until heard now) j file rising rests inside is h =
    skip-all (F who f until heard now) j file _ (λ block. record { uncut = refl; unheld = λ x. x.0; stores = λ w on c. c }) h
changed-blocks first other j file rising rests inside is h = absurd (cc)

one-more : (first : ℕ → ℕ) (e : Entry) (j : List Entry) (file : ℕ) → IsRising e j → Throughout IsRising j → Rests e j → Throughout Rests j
    → IsInside first e j → (b : Bool) → changes e file ≡ b → HeldBlocks j file (content j (first file) file)
    → HeldBlocks (e ∷ j) file (content (e ∷ j) (first file) file)
one-more first e j file rise rising rest rests inside true is h =
    subst (HeldBlocks (e ∷ j) file) (sym (content-next e j (first file) file is)) (changed-blocks first e j file rising rest inside is h)
one-more first e j file rise rising rest rests inside false is h =
    subst (HeldBlocks (e ∷ j) file) (sym (content-same e j (first file) file is))
    (skip-all e j file (content j (first file) file) (λ block. unchanged-skips e j file block rise rests is) h)

zeros-are : (n b v : ℕ) → slice_get (replicate n 0) b ≡ Some v → v ≡ 0
zeros-are zero b v is = none-some v is
zeros-are (suc n) zero v is = sym (some-same 0 v is)
zeros-are (suc n) (suc b) v is = zeros-are n b v is

-- the content of each file is what the server holds
pub held-contents : (first : ℕ → ℕ) (j : List Entry) → RestsOn first j → (file : ℕ) → HeldBlocks j file (content j (first file) file)
held-contents first [] r file = record { here = λ block v is. zeros-are (first file) block v is; past = λ block above. refl }
held-contents first (e ∷ j) r file =
    one-more first e j file r.rising.0 r.rising.1 r.stores.0 r.stores.1 r.inside.0 (changes e file) refl
    (held-contents first j (record { rising = r.rising.1; stores = r.stores.1; inside = r.inside.1 }) file)

-- ---- lengths

abbrev HasLength : List Entry → (first file : ℕ) → Type 0
HasLength j first file = (n : ℕ) → last_length j file ≡ Some n → length (content j first file) ≡ n

changed-length : (e : Entry) (j : List Entry) (first file : ℕ) → changes e file ≡ true → HasLength j first file → (n : ℕ)
    → last_length (e ∷ j) file ≡ Some n → length (after_change e j (content j first file)) ≡ n
changed-length (W who f b m v through) j first file is h n last = length-set (content j first file) b v ∙ h n last
changed-length (S who f b start final now) j first file is h n last = length-set (content j first file) b _ ∙ h n last
changed-length (Z who q f from to) j first file is h n last = lengthened to (content j first file) ∙ some-same to n (sym (rw is refl) ∙ last)
changed-length (F who f until heard now) j first file is h n last = h n last
changed-length other j first file is h n last = absurd (cc)

same-last : (e : Entry) (j : List Entry) (file : ℕ) → changes e file ≡ false → last_length (e ∷ j) file ≡ last_length j file
same-last (Z who q f from to) j file is = rw is refl
same-last other j file is = refl

more-length : (e : Entry) (j : List Entry) (first file : ℕ) (b : Bool) → changes e file ≡ b → HasLength j first file → HasLength (e ∷ j) first file
more-length e j first file true is h n last = ap (λ values. length values) (content-next e j first file is) ∙ changed-length e j first file is h n last
more-length e j first file false is h n last = ap (λ values. length values) (content-same e j first file is) ∙ h n (sym (same-last e j file is) ∙ last)

-- the content of a file has the length that the last Z on it says
pub content-length : (j : List Entry) (first file n : ℕ) → last_length j file ≡ Some n → length (content j first file) ≡ n
content-length j first file n last = go j n last
  where
    go : (k : List Entry) → HasLength k first file
    go [] m is = none-some m is
    go (e ∷ k) m is = more-length e k first file (changes e file) refl (go k) m is
