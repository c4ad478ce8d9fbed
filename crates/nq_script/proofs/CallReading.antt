-- Calls are read as they are spelled.
use Rattle.std.proofs.Common.{◌≡◌, ℕ, ◌<◌, ◌^◌, List, ◌∷◌, ◌++◌, Option, Some, None, refl, ap, sym, ◌∙◌, arith, ◌⊎◌, inl, inr, subst}
use Rattle.std.specs.Fmt.{decimal}
use Rattle.std.proofs.lemmas.Option.{none-some, same_Some, some_pair_parts}
use Rattle.nq_base.specs.Block.{filled, value_of}
use Rattle.nq_base.specs.Steps.{◌>>=◌}
use Rattle.nq_base.specs.declared.Call.{Call}
use Rattle.nq_base.specs.declared.Told.{Told}
use Rattle.nq_base.proofs.Filling.{filled-value}
use Rattle.nq_base.proofs.Options.{bind_some}
use Rattle.nq_script.specs.Calls.{FitsCall, HasCall, IsFilled, IsFilledCall, SpellsCall, call_of, call_words}
use Rattle.nq_script.specs.Reading.{either, after, number_then, told_of}
use Rattle.nq_script.specs.Text.{spaced}
use Rattle.nq_script.proofs.CallWords.{spaced-joined}
use Rattle.nq_script.proofs.Cuts.{cut-again, cut-found, after-found}
use Rattle.nq_script.proofs.Numbers.{decimal-lacks}
use Rattle.nq_script.specs.Forms.{FitsTold, HasTold, SpellsTold, told_words}
use Rattle.nq_script.specs.WordsReading.{cut as cut_at, u32_of}
use Rattle.nq_script.proofs.Again.{told_spelled}
use Rattle.nq_script.proofs.Found.{told_read}
use Rattle.nq_script.proofs.Numerals.{u32_again, u32_found}
use Rattle.nq_base.specs.Calls.{told}

-- what a choice gives comes of the one or, where that is not there, of the other
pub either-found : {A B : Type 0} (o : Option A) (f : A → Option B) (other : Option B) (y : B) → either o f other ≡ Some y
    → ((x : A) × (o ≡ Some x) × (f x ≡ Some y)) ⊎ (other ≡ Some y)
either-found None f other y e = inr e
either-found (Some x) f other y e = inl (x, refl, e)

pub number32-found : (word : List ℕ) (n : ℕ) → u32_of word ≡ Some n → (word ≡ decimal n) × (n < 2 ^ 32)
number32-found word n e = u32_found word n e

pub number32-again : (n : ℕ) → n < 2 ^ 32 → u32_of (decimal n) ≡ Some n
number32-again n low = u32_again n low

-- what is read before a blank stands there
pub then-found : (text : List ℕ) (n : ℕ) (rest : List ℕ) → number_then text ≡ Some (n, rest) → (text ≡ decimal n ++ 32 ∷ rest) × (n < 2 ^ 32)
unfolding number_then
then-found text n rest e =
    let cut = bind_some (cut_at 32 text) (λ p. u32_of p.0 >>= λ v. Some (v, p.1)) (n, rest) e in
    let value = bind_some (u32_of cut.0.0) (λ v. Some (v, cut.0.1)) (n, rest) cut.2 in
    let same = some_pair_parts value.0 n cut.0.1 rest value.2 in
    let found = number32-found cut.0.0 n (value.1 ∙ ap (λ v. Some v) same.0) in
    ((cut-found 32 text cut.0.0 cut.0.1 cut.1).0 ∙ ap (λ w. w ++ 32 ∷ cut.0.1) found.0 ∙ ap (λ r. decimal n ++ 32 ∷ r) same.1, found.1)

-- a number before a blank is read
pub then-again : (n : ℕ) (rest : List ℕ) → n < 2 ^ 32 → number_then (decimal n ++ 32 ∷ rest) ≡ Some (n, rest)
unfolding number_then
then-again n rest low =
    rw (cut-again 32 (decimal n) rest (decimal-lacks 32 n refl (omega arith)), number32-again n low) refl

-- what is read behind a word, or else another way
pub behind : {B : Type 0} (verb words : List ℕ) (read : List ℕ → Option B) (other : Option B) (y : B) (P : List ℕ → Type 0)
    → either (after verb words) read other ≡ Some y → ((text : List ℕ) → read text ≡ Some y → P (verb ++ text)) → (other ≡ Some y → P words) → P words
behind verb words read other y P e here there = by_case (either-found (after verb words) read other y e) where
  by_case : ((text : List ℕ) × (after verb words ≡ Some text) × (read text ≡ Some y)) ⊎ (other ≡ Some y) → P words
  by_case (inl w) = subst P (sym (after-found verb words w.0 w.1)) (here w.0 w.2)
  by_case (inr e') = there e'

-- a body that is filled with a value is filled with its own
pub filled-same : (body : List ℕ) → IsFilled body → (value_of body < 2 ^ 32) × (filled (value_of body) ≡ body)
filled-same body is =
    let same : value_of body ≡ is.0 = ap value_of is.2 ∙ filled-value is.0 in
    let low : is.0 < 2 ^ 32 = is.1 in
    (subst (λ v. v < 2 ^ 32) (sym same) low, ap filled same ∙ sym is.2)

-- ---- from what is told to the call

told-called : (saying : Told) → saying ≡ told (call_of saying)
told-called (Told.Create name blocks) = refl
told-called (Told.Lookup name) = refl
told-called (Told.Attr file) = refl
told-called (Told.Read file block) = refl
told-called (Told.Fetch file block) = refl
told-called (Told.Write file block value) = ap (λ v. Told.Write file block v) (sym (filled-value value))
told-called (Told.Put file block value) = ap (λ v. Told.Put file block v) (sym (filled-value value))
told-called (Told.Sync file) = refl
told-called (Told.Resize file blocks) = refl
told-called (Told.Remove file) = refl

call-of-told : (version : ℕ) (told : Told) → HasTold version told → FitsTold told → HasCall version (call_of told) × FitsCall (call_of told)
call-of-told version (Told.Create name blocks) has fits = (tt, fits)
call-of-told version (Told.Lookup name) has fits = (tt, fits)
call-of-told version (Told.Attr file) has fits = (tt, fits)
call-of-told version (Told.Read file block) has fits = (tt, fits)
call-of-told version (Told.Fetch file block) has fits = (tt, fits)
call-of-told version (Told.Write file block value) has fits = ((value, fits.2, refl), (fits.0, fits.1))
call-of-told version (Told.Put file block value) has fits = ((value, fits.2, refl), (fits.0, fits.1))
call-of-told version (Told.Sync file) has fits = (tt, fits)
call-of-told version (Told.Resize file blocks) has fits = (has, fits)
call-of-told version (Told.Remove file) has fits = (has, fits)

-- what is read as a call is spelled so
pub told-found : (version : ℕ) (words : List ℕ) (told : Told) → told_of version words ≡ Some told → SpellsCall version (call_of told) words
told-found version words told e =
    let spelled = told_read version told words e in
    let call = call-of-told version told spelled.0 spelled.1 in
    (call.0, call.1, spelled.2 ∙ sym (spaced-joined (told_words told)) ∙ ap (λ t. spaced (told_words t)) (told-called told))

-- ---- from a call to what is told

told-of-call : (version : ℕ) (call : Call) → HasCall version call → FitsCall call → HasTold version (told call) × FitsTold (told call)
told-of-call version (Call.Create name blocks) has fits = (tt, fits)
told-of-call version (Call.Lookup name) has fits = (tt, fits)
told-of-call version (Call.Attr file) has fits = (tt, fits)
told-of-call version (Call.Read file block) has fits = (tt, fits)
told-of-call version (Call.Fetch file block) has fits = (tt, fits)
told-of-call version (Call.Write file block body) has fits = (tt, (fits.0, fits.1, (filled-same body has).0))
told-of-call version (Call.Put file block body) has fits = (tt, (fits.0, fits.1, (filled-same body has).0))
told-of-call version (Call.Sync file) has fits = (tt, fits)
told-of-call version (Call.Resize file blocks) has fits = (has, fits)
told-of-call version (Call.Remove file) has fits = (has, fits)

-- what is told of a call with a filled block, if it has one, is enough to make it again
pub call-filled : (call : Call) → IsFilledCall call → call_of (told call) ≡ call
call-filled (Call.Create name blocks) is = refl
call-filled (Call.Lookup name) is = refl
call-filled (Call.Attr file) is = refl
call-filled (Call.Read file block) is = refl
call-filled (Call.Fetch file block) is = refl
call-filled (Call.Write file block body) is = ap (λ b. Call.Write file block b) (filled-same body is).1
call-filled (Call.Put file block body) is = ap (λ b. Call.Put file block b) (filled-same body is).1
call-filled (Call.Sync file) is = refl
call-filled (Call.Resize file blocks) is = refl
call-filled (Call.Remove file) is = refl

has-filled : (version : ℕ) (call : Call) → HasCall version call → IsFilledCall call
has-filled version (Call.Create name blocks) has = tt
has-filled version (Call.Lookup name) has = tt
has-filled version (Call.Attr file) has = tt
has-filled version (Call.Read file block) has = tt
has-filled version (Call.Fetch file block) has = tt
has-filled version (Call.Write file block body) has = has
has-filled version (Call.Put file block body) has = has
has-filled version (Call.Sync file) has = tt
has-filled version (Call.Resize file blocks) has = tt
has-filled version (Call.Remove file) has = tt

-- what is spelled is read, as that call
pub told-again : (version : ℕ) (call : Call) (words : List ℕ) → SpellsCall version call words
    → (saying : Told) × (told_of version words ≡ Some saying) × (call_of saying ≡ call)
told-again version call words s =
    let tells = told-of-call version call s.0 s.1 in
    let spelled : SpellsTold version (told call) words = (tells.0, tells.1, s.2 ∙ spaced-joined (call_words call)) in
    (told call, told_spelled version (told call) words spelled, call-filled call (has-filled version call s.0))

-- what is read is the one call that is spelled
pub told-same : (version : ℕ) (words : List ℕ) (told : Told) (call : Call) → told_of version words ≡ Some told → SpellsCall version call words
    → call_of told ≡ call
told-same version words told call read s =
    let again = told-again version call words s in
    ap call_of (same_Some told again.0 (sym read ∙ again.1)) ∙ again.2

-- where nothing is read, no call is spelled
pub told-none : (version : ℕ) (words : List ℕ) (call : Call) → told_of version words ≡ None → SpellsCall version call words → ⊥
told-none version words call read s = let again = told-again version call words s in none-some again.0 (sym read ∙ again.1)
