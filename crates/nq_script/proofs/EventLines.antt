-- The lines of events, read one after another.
use Rattle.std.proofs.Common.{◌≡◌, ◌≢◌, ℕ, ◌+◌, ◌≤◌, List, [], ◌∷◌, ◌++◌, length, Some, None, refl, ap, sym, ◌∙◌, arith, subst, codes, length-append}
use Rattle.std.proofs.lemmas.List.{append-nil}
use Rattle.nq_script.specs.Lines.{SpellsLine, line_of}
use Rattle.nq_script.specs.Progress.{ReadSoFar, EndsWith, WrongLine, WrongEnd}
use Rattle.nq_script.specs.Reading.{told_line}
use Rattle.nq_script.specs.WordsReading.{cut as cut_at}
use Rattle.nq_script.specs.Schedule.{NamesEvents}
use Rattle.nq_script.specs.Text.{text_of}
use Rattle.nq_script.specs.declared.heads.Head.{Head}
use Rattle.nq_script.specs.declared.lines.Line.{Line}
use Rattle.nq_script.specs.declared.lines.ToldLine.{ToldLine}
use Rattle.nq_script.proofs.FileLines.{text-more, no-line, one-line}
use Rattle.nq_script.proofs.LineReading.{line-found, line-none}
use Rattle.nq_script.proofs.LineTexts.{as-many, lines-more}

-- each line has a byte at least, its line feed
long-enough : (lines : List (List ℕ)) → length lines ≤ length (text_of lines)
long-enough [] = omega arith
long-enough (line ∷ lines) = let long = length-append line (10 ∷ text_of lines) in let others = long-enough lines in omega arith

-- there are no more lines than bytes
pub so-far-size : (head : Head) (lines : List Line) (text rest : List ℕ) → ReadSoFar head lines text rest → length lines + length rest ≤ length text
so-far-size head lines text rest r =
    let many = as-many head lines r.texts r.spelled in
    let bytes = long-enough r.texts in
    let whole = ap length r.split in
    let long = length-append (text_of r.texts) rest in omega arith

pub wrong-no-line : (head : Head) (first : ℕ) (lines : List Line) (text rest : List ℕ) (number : ℕ) → ReadSoFar head lines text rest → number ≡ first
    + length lines
    → cut_at 10 rest ≡ None → WrongLine head first text number
wrong-no-line head first lines text rest number r place none = record {
  lines = lines;
  rest = rest;
  read = r;
  place = place;
  stuck = λ line after here lacks spelled s. no-line rest line after none here lacks;
}

pub wrong-no-read : (head : Head) (first : ℕ) (lines : List Line) (text rest line after : List ℕ) (number : ℕ) → ReadSoFar head lines text rest
    → number ≡ first + length lines → cut_at 10 rest ≡ Some (line, after) → told_line head line ≡ None → WrongLine head first text number
wrong-no-read head first lines text rest line after number r place cut none = record {
  lines = lines;
  rest = rest;
  read = r;
  place = place;
  stuck = λ line' after' here lacks spelled s.
      line-none head line spelled none (subst (SpellsLine head spelled) (sym (one-line rest line after line' after' cut here lacks).0) s);
}

end-split : (head : Head) (lines : List Line) (text rest line after : List ℕ) (r : ReadSoFar head lines text rest) → cut_at 10 rest ≡ Some (line, after)
    → told_line head line ≡ Some ToldLine.End → text ≡ text_of (r.texts ++ codes "end" ∷ []) ++ after
end-split head lines text rest line after r cut read =
    subst (λ l. text ≡ text_of (r.texts ++ l ∷ []) ++ after) (line-found head line ToldLine.End read).1 (text-more text r.texts rest line after r.split cut)

pub ended : (head : Head) (lines : List Line) (text rest line after : List ℕ) (told : ToldLine) → ReadSoFar head lines text rest → cut_at 10 rest
    ≡ Some (line, after)
    → told_line head line ≡ Some told → told ≡ ToldLine.End → after ≡ [] → EndsWith head lines text
ended head lines text rest line after told r cut read is none = (
  r.texts,
  r.spelled,
  end-split head lines text rest line after r cut (read ∙ ap (λ t. Some t) is)
      ∙ ap (λ a. text_of (r.texts ++ codes "end" ∷ []) ++ a) none ∙ append-nil (text_of (r.texts ++ codes "end" ∷ [])),
)

pub wrong-end : (head : Head) (first : ℕ) (lines : List Line) (text rest line after : List ℕ) (told : ToldLine) (number : ℕ) → ReadSoFar head lines text rest
    → number ≡ first + length lines → cut_at 10 rest ≡ Some (line, after) → told_line head line ≡ Some told → told ≡ ToldLine.End → (after ≡ [] → ⊥)
    → WrongEnd head first text (number + 1)
wrong-end head first lines text rest line after told number r place cut read is some = record {
  lines = lines;
  texts = r.texts;
  rest = after;
  spelled = r.spelled;
  split = end-split head lines text rest line after r cut (read ∙ ap (λ t. Some t) is);
  place = ap (λ n. n + 1) place;
  more = some;
}

names-events : (told : ToldLine) → told ≢ ToldLine.End → NamesEvents (line_of told)
names-events ToldLine.End other = absurd (other refl)
names-events told other = tt

pub so-far-more : (head : Head) (lines new : List Line) (text rest line after : List ℕ) (told : ToldLine) → ReadSoFar head lines text rest
    → cut_at 10 rest ≡ Some (line, after) → told_line head line ≡ Some told → told ≢ ToldLine.End → new ≡ lines ++ line_of told ∷ []
    → ReadSoFar head new text after
so-far-more head lines new text rest line after told r cut read other more =
    subst (λ ls. ReadSoFar head ls text after) (sym more) (record {
      texts = r.texts ++ line ∷ [];
      spelled = lines-more head lines r.texts (line_of told) line r.spelled (names-events told other) (line-found head line told read);
      split = text-more text r.texts rest line after r.split cut;
    })
