-- One line more of a book.
use Rattle.std.proofs.Common.{◌≡◌, ◌≤◌, ◌<◌, length, ◌+◌, ◌-◌, ◌^◌, ℕ, List, [], ◌∷◌, ◌++◌, Some, None, Option, Ok, Err}
use Rattle.std.proofs.Common.{refl, sym, ap, ◌∙◌, subst, min, append-nil, arith}
use Rattle.std.proofs.lemmas.List.{length-append}
use Rattle.nq_book.specs.Lines.{TakesLine}
use Rattle.nq_book.specs.Texts.{ReadsOn, StopsOn}
use Rattle.nq_book.specs.declared.lines.Why.{Why}
use Rattle.nq_book.specs.declared.texts.BadLine.{BadLine}
use Rattle.nq_script.proofs.Cuts.{cut-found}
use Rattle.nq_script.proofs.LineWords.{IsCut, cut_found}
use Rattle.nq_script.specs.Text.{Lacks}
use Rattle.nq_script.specs.WordsReading.{cut}
use Rattle.nq_udp.specs.Book.{Listed}

-- a text that is not cut lacks a line feed
pub uncut : (rest : List ℕ) → None ≡ cut 10 rest → Lacks 10 rest
uncut rest none = let P : Option (List ℕ × List ℕ) → Type 0 = IsCut 10 rest in subst P (sym none) (cut_found 10 rest)

-- what stands behind a line is shorter than the line with it
pub shorter : (rest line after : List ℕ) → Some (line, after) ≡ cut 10 rest → length after < length rest
shorter rest line after cuts =
    let split = cut-found 10 rest line after (sym cuts) in
    omega (arith, ap length split.0, length-append line (10 ∷ after))

-- what is read behind a line is read with it
pub goes_on : (book between : Listed) (rest line after : List ℕ) → Some (line, after) ≡ cut 10 rest → TakesLine (Ok tt) line book between → (end : Listed)
    → ReadsOn after between end → ReadsOn rest book end
goes_on book between rest line after cuts takes end on =
    let split = cut-found 10 rest line after (sym cuts) in
    record {
      lines = line ∷ on.lines;
      last = on.last;
      between = on.between;
      whole = split.0 ∙ ap (λ xs. line ++ 10 ∷ xs) on.whole;
      unbroken = ((split.1, on.unbroken.0), on.unbroken.1);
      follows = (between, (takes, on.follows));
      ends = on.ends;
    }

-- what stops behind a line stops with it, counted from one before
pub stops_on : (book between : Listed) (number next : ℕ) (rest line after : List ℕ) → Some (line, after) ≡ cut 10 rest
    → TakesLine (Ok tt) line book between → next ≡ min (number + 1) (2 ^ 32 - 1) → (bad : BadLine) → StopsOn after between next bad
    → StopsOn rest book number bad
stops_on book between number next rest line after cuts takes counts bad on =
    let split = cut-found 10 rest line after (sym cuts) in
    record {
      lines = line ∷ on.lines;
      line = on.line;
      behind = on.behind;
      between = on.between;
      left = on.left;
      whole = split.0 ∙ ap (λ xs. line ++ 10 ∷ xs) on.whole;
      unbroken = ((split.1, on.unbroken.0), on.unbroken.1);
      follows = (between, (takes, on.follows));
      wrong = on.wrong;
      named = omega (arith, on.named, counts);
    }

-- a line that cannot be taken in stops
pub stops_here : (book left : Listed) (number : ℕ) (rest line after : List ℕ) (why : Why) → Some (line, after) ≡ cut 10 rest → number ≤ 2 ^ 32 - 1
    → TakesLine (Err why) line book left → StopsOn rest book number (record { number = number; why = why })
stops_here book left number rest line after why cuts bound takes =
    let split = cut-found 10 rest line after (sym cuts) in
    record {
      lines = [];
      line = line;
      behind = 10 ∷ after;
      between = book;
      left = left;
      whole = split.0;
      unbroken = (tt, split.1);
      follows = refl;
      wrong = takes;
      named = omega (arith, bound);
    }

-- the last line ends a book
pub ends_here : (book end : Listed) (rest : List ℕ) → None ≡ cut 10 rest → TakesLine (Ok tt) rest book end → ReadsOn rest book end
ends_here book end rest none takes = record {
  lines = [];
  last = rest;
  between = book;
  whole = refl;
  unbroken = (tt, uncut rest none);
  follows = refl;
  ends = takes;
}

-- the last line may stop, too
pub stops_last : (book left : Listed) (number : ℕ) (rest : List ℕ) (why : Why) → None ≡ cut 10 rest → number ≤ 2 ^ 32 - 1 → TakesLine (Err why) rest book left
    → StopsOn rest book number (record { number = number; why = why })
stops_last book left number rest why none bound takes = record {
  lines = [];
  line = rest;
  behind = [];
  between = book;
  left = left;
  whole = sym (append-nil rest);
  unbroken = (tt, uncut rest none);
  follows = refl;
  wrong = takes;
  named = omega (arith, bound);
}
