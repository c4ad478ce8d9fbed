-- The lines of files, read one after another.
use Rattle.std.proofs.Common.{◌≡◌, ◌≢◌, ℕ, ◌+◌, ◌<◌, List, [], ◌∷◌, ◌++◌, length, map, Some, None, refl, ap, sym, ◌∙◌, arith, subst, append_assoc}
use Rattle.std.proofs.Common.{codes, length-append}
use Rattle.std.proofs.lemmas.List.{map-append}
use Rattle.std.proofs.lemmas.List.Sums.{sum_by-append}
use Rattle.std.proofs.lemmas.Option.{none-some, some_pair_parts}
use Rattle.nq_script.specs.Heads.{FitFiles, blocks_of, file_line, file_lines}
use Rattle.nq_script.specs.Progress.{WrongFile}
use Rattle.nq_script.specs.WordsReading.{cut as cut_at}
use Rattle.nq_script.specs.Text.{Lacks, text_of}
use Rattle.nq_script.proofs.Cuts.{cut-again, cut-found}

-- the text of some lines and others is that of the ones and then that of the others
pub text_of-append : (xs ys : List (List ℕ)) → text_of (xs ++ ys) ≡ text_of xs ++ text_of ys
text_of-append [] ys = refl
text_of-append (x ∷ xs) ys = ap (λ t. x ++ 10 ∷ t) (text_of-append xs ys) ∙ sym (append_assoc x (10 ∷ text_of xs) (text_of ys))

-- one more line is read
pub text-more : (text : List ℕ) (lines : List (List ℕ)) (rest line after : List ℕ) → text ≡ text_of lines ++ rest
    → cut_at 10 rest ≡ Some (line, after) → text ≡ text_of (lines ++ line ∷ []) ++ after
text-more text lines rest line after split cut =
    split ∙ ap (λ r. text_of lines ++ r) (cut-found 10 rest line after cut).0
    ∙ ap (λ r. text_of lines ++ r) (sym (append_assoc line (10 ∷ []) after))
    ∙ sym (append_assoc (text_of lines) (line ++ 10 ∷ []) after)
    ∙ ap (λ t. t ++ after) (sym (text_of-append lines (line ∷ [])))

-- what is left after a line is less than what was left before it
pub after-shorter : (rest line after : List ℕ) → cut_at 10 rest ≡ Some (line, after) → length after < length rest
after-shorter rest line after cut =
    let whole = ap length (cut-found 10 rest line after cut).0 in
    let long = length-append line (10 ∷ after) in omega arith

-- where a text has no line, it is not a line and more
pub no-line : (rest line after : List ℕ) → cut_at 10 rest ≡ None → rest ≡ line ++ 10 ∷ after → Lacks 10 line → ⊥
no-line rest line after none split lacks =
    none-some (line, after) (sym none ∙ ap (cut_at 10) split ∙ cut-again 10 line after lacks)

-- the first line of a text is one
pub one-line : (rest line after line' after' : List ℕ) → cut_at 10 rest ≡ Some (line, after) → rest ≡ line' ++ 10 ∷ after' → Lacks 10 line'
    → (line ≡ line') × (after ≡ after')
one-line rest line after line' after' cut split lacks =
    some_pair_parts line line' after after' (sym cut ∙ ap (cut_at 10) split ∙ cut-again 10 line' after' lacks)

pub files-no-line : (first : ℕ) (text : List ℕ) (files : List (List ℕ × ℕ)) (rest : List ℕ) (number : ℕ) → text ≡ text_of (map file_line files)
    ++ rest → FitFiles files
    → number ≡ first + length files → cut_at 10 rest ≡ None → WrongFile first text number
files-no-line first text files rest number split fit place none = record {
  files = files;
  rest = rest;
  split = split;
  fit = fit;
  place = place;
  stuck = λ line after here lacks. absurd (no-line rest line after none here lacks);
}

pub files-no-file : (first : ℕ) (text : List ℕ) (files : List (List ℕ × ℕ)) (rest line after : List ℕ) (number : ℕ)
    → text ≡ text_of (map file_line files) ++ rest
    → FitFiles files → number ≡ first + length files → cut_at 10 rest ≡ Some (line, after) → line ≢ codes "begin"
    → ((f : List ℕ × ℕ) → line ≡ file_line f → FitFiles (files ++ f ∷ []) → ⊥) → WrongFile first text number
files-no-file first text files rest line after number split fit place cut other none = record {
  files = files;
  rest = rest;
  split = split;
  fit = fit;
  place = place;
  stuck = λ line' after' here lacks.
      let same = (one-line rest line after line' after' cut here lacks).0 in
      (λ begin. other (same ∙ begin), λ f spelled fits. none f (same ∙ spelled) fits);
}

pub files-begin : (text : List ℕ) (files : List (List ℕ × ℕ)) (rest line after : List ℕ) → text ≡ text_of (map file_line files) ++ rest
    → cut_at 10 rest ≡ Some (line, after) → line ≡ codes "begin" → text ≡ text_of (file_lines files) ++ after
files-begin text files rest line after split cut begin =
    subst (λ l. text ≡ text_of (map file_line files ++ l ∷ []) ++ after) begin (text-more text (map file_line files) rest line after split cut)

pub files-more : (text : List ℕ) (files new : List (List ℕ × ℕ)) (rest line after : List ℕ) (f : List ℕ × ℕ) (blocks : ℕ)
    → text ≡ text_of (map file_line files) ++ rest → cut_at 10 rest ≡ Some (line, after) → (line ≡ file_line f) × FitFiles (files ++ f ∷ [])
    → blocks ≡ blocks_of files → new ≡ files ++ f ∷ []
    → (text ≡ text_of (map file_line new) ++ after) × FitFiles new × (blocks + f.1 ≡ blocks_of new)
files-more text files new rest line after f blocks split cut found sum more =
    let sums = sum_by-append (λ g. g.1) files (f ∷ []) in
    subst (λ xs. (text ≡ text_of (map file_line xs) ++ after) × FitFiles xs × (blocks + f.1 ≡ blocks_of xs)) (sym more) (
      rw (map-append file_line files (f ∷ []))
          (subst (λ l. text ≡ text_of (map file_line files ++ l ∷ []) ++ after) found.0 (text-more text (map file_line files) rest line after split cut)),
      found.1,
      omega arith,
    )

-- lines behind lines
pub text-behind : (text : List ℕ) (xs ys : List (List ℕ)) (rest rest' : List ℕ) → text ≡ text_of xs ++ rest → rest ≡ text_of ys ++ rest'
    → text ≡ text_of (xs ++ ys) ++ rest'
text-behind text xs ys rest rest' first second =
    first ∙ ap (λ r. text_of xs ++ r) second ∙ sym (append_assoc (text_of xs) (text_of ys) rest') ∙ ap (λ t. t ++ rest') (sym (text_of-append xs ys))

-- the first line of a text, if it is this one
pub text-first : (text line after word : List ℕ) → cut_at 10 text ≡ Some (line, after) → line ≡ word → text ≡ text_of (word ∷ []) ++ after
text-first text line after word cut is =
    subst (λ l. text ≡ text_of (l ∷ []) ++ after) is (text-more text [] text line after refl cut)
