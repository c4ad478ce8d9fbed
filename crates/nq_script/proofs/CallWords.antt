-- The words of calls, between other words.
use Rattle.std.proofs.Common.{◌≡◌, ℕ, List, [], ◌∷◌, ◌++◌, refl, ap, sym, append-nil}
use Rattle.nq_base.specs.declared.Call.{Call}
use Rattle.nq_script.specs.Calls.{FitsCall, call_words}
use Rattle.nq_script.specs.Text.{spaced}
use Rattle.nq_script.specs.Forms.{FitsTold, told_words}
use Rattle.nq_script.specs.Words.{joined}
use Rattle.nq_base.specs.Calls.{told}

-- a word in front of the words of a call, with a blank between
pub spaced-call : (word : List ℕ) (call : Call) → spaced (word ∷ call_words call) ≡ word ++ 32 ∷ spaced (call_words call)
spaced-call word (Call.Create name blocks) = refl
spaced-call word (Call.Lookup name) = refl
spaced-call word (Call.Attr file) = refl
spaced-call word (Call.Read file block) = refl
spaced-call word (Call.Fetch file block) = refl
spaced-call word (Call.Write file block body) = refl
spaced-call word (Call.Put file block body) = refl
spaced-call word (Call.Sync file) = refl
spaced-call word (Call.Resize file blocks) = refl
spaced-call word (Call.Remove file) = refl

-- words with blanks between them, said step by step and at once
pub spaced-joined : (words : List (List ℕ)) → spaced words ≡ joined words
unfolding joined
spaced-joined [] = refl
spaced-joined (word ∷ []) = sym (append-nil word)
spaced-joined (word ∷ next ∷ words) = ap (λ t. word ++ 32 ∷ t) (spaced-joined (next ∷ words))

-- the text of what is told of a call is that of the call
pub call_spaced : (call : Call) → joined (told_words (told call)) ≡ spaced (call_words call)
call_spaced call = sym (spaced-joined (call_words call))

pub call_fits : (call : Call) → FitsTold (told call) → FitsCall call
call_fits (Call.Create name blocks) fits = fits
call_fits (Call.Lookup name) fits = fits
call_fits (Call.Attr file) fits = fits
call_fits (Call.Read file block) fits = fits
call_fits (Call.Fetch file block) fits = fits
call_fits (Call.Write file block body) fits = (fits.0, fits.1)
call_fits (Call.Put file block body) fits = (fits.0, fits.1)
call_fits (Call.Sync file) fits = fits
call_fits (Call.Resize file blocks) fits = fits
call_fits (Call.Remove file) fits = fits
