-- A line that ends too early.
use Rattle.std.proofs.Common.{◌≡◌, ◌<◌, ℕ, zero, suc, List, [], ◌∷◌, Some, None, length, drop, refl, arith}
use Rattle.nq_command.specs.Wrongs.{wrong_words}
use Rattle.nq_command.specs.declared.prompt.wrongs.Field.{Field}
use Rattle.nq_command.specs.declared.prompt.wrongs.Wrong.{Wrong}
use Rattle.nq_script.specs.WordsReading.{word_at}

-- where no word is left for a field, a word is missing
pub none-left : (fields : List Field) (k : ℕ) (words : List (List ℕ)) → k < length fields → word_at words ≡ None
    → Some Wrong.Few ≡ wrong_words (drop k fields) words
unfolding wrong_words
none-left [] k words below none = absurd (omega arith)
none-left (field ∷ fields) zero [] below none = refl
none-left (field ∷ fields) zero (word ∷ words) below none = absurd (cc)
none-left (field ∷ fields) (suc k) words below none = none-left fields k words (omega arith) none
