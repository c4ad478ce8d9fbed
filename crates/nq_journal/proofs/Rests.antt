-- Steps of parsing what stands behind the first line.
use Rattle.std.proofs.Common.{◌≡◌, ◌≢◌, ℕ, ◌+◌, ◌-◌, ◌<◌, ◌^◌, min, ◌==◌, true, false, List, [], ◌∷◌, ◌++◌, length, codes, Option, Some, None, refl}
use Rattle.std.proofs.Common.{ap, sym, ◌∙◌, subst, inl, inr, append_assoc, append-nil, arith}
use Rattle.std.proofs.lemmas.Bool.{ne_eqb, true≢false}
use Rattle.std.proofs.lemmas.List.{length-append, append_cancel_right}
use Rattle.std.proofs.lemmas.List.Concat.{flat_map-append}
use Rattle.std.proofs.lemmas.List.Elements.{All-push}
use Rattle.nq_base.specs.declared.Entry.{Entry}
use Rattle.nq_journal.specs.Fault.{IsUnbroken, ended}
use Rattle.nq_journal.specs.Parsing.{named, IsFault, IsTextOf, AreEntries, StopsAt, Ends}
use Rattle.nq_script.specs.WordsReading.{cut, words_of}
use Rattle.nq_journal.specs.ReadingEntries.{entry_of}
use Rattle.nq_journal.specs.Text.{Has, Fits, entry_words, entry_line, head_line, IsVersion}
use Rattle.nq_script.specs.Words.{joined}
use Rattle.nq_journal.proofs.Faulty.{free, wrong_line, long_text}
use Rattle.nq_script.proofs.LineWords.{IsFree, IsCut, cut_found, joined-words_of}
use Rattle.nq_journal.proofs.Tails.{lines, text_split}
use Rattle.nq_journal.proofs.TextLines.{line_in_front, first_line, head, head_is, end_is, body, entry_is, body_again}

-- a cut gives the first line
pub cut_line : (rest line after : List ℕ) → Some (line, after) ≡ cut 10 rest → (rest ≡ ended line ++ after) × IsFree 10 line
cut_line rest line after cuts =
    let P : Option (List ℕ × List ℕ) → Type 0 = IsCut 10 rest in
    let found = subst P (sym cuts) (cut_found 10 rest) in
    (found.0 ∙ sym (line_in_front line after), found.1)

-- the rest behind a line is shorter
pub shorter : (rest line after : List ℕ) → Some (line, after) ≡ cut 10 rest → length after < length rest
shorter rest line after cuts =
    let split = (cut_line rest line after cuts).0 ∙ line_in_front line after in
    omega (arith, ap length split, length-append line (10 ∷ after))

-- the text ends here
pub ends_here : (version : ℕ) (entries : List Entry) (bytes rest line after : List ℕ) → AreEntries version entries
    → bytes ≡ lines version entries ++ rest → Some (line, after) ≡ cut 10 rest → line ≡ codes "end" → after ≡ [] → Ends version entries bytes
ends_here version entries bytes rest line after are split cuts last none = record {
  are = are;
  split =
      split
      ∙ ap (λ xs. lines version entries ++ xs)
      ((cut_line rest line after cuts).0 ∙ ap (λ xs. ended line ++ xs) none ∙ append-nil (ended line) ∙ ap ended last ∙ sym end_is);
}

-- something stands behind the end
pub goes_on : (version : ℕ) (entries : List Entry) (number next : ℕ) (bytes rest line after : List ℕ) → AreEntries version entries
    → number ≡ named (length entries + 2) → next ≡ min (number + 1) (2 ^ 32 - 1) → bytes ≡ lines version entries ++ rest
    → Some (line, after) ≡ cut 10 rest → line ≡ codes "end" → after ≢ [] → StopsAt version next bytes
goes_on version entries number next bytes rest line after are at next_is split cuts last some = record {
  entries = entries;
  are = are;
  left = rest;
  split = split;
  why =
      inr (
        omega arith,
        record {
          after = after;
          some = some;
          split = (cut_line rest line after cuts).0 ∙ ap (λ xs. ended xs ++ after) last ∙ ap (λ xs. xs ++ after) (sym end_is);
        },
      );
}

-- a line that is not read
pub not_read : (version : ℕ) (entries : List Entry) (number : ℕ) (bytes rest line after : List ℕ) → AreEntries version entries
    → number ≡ named (length entries + 2) → bytes ≡ lines version entries ++ rest → Some (line, after) ≡ cut 10 rest → line ≢ codes "end"
    → entry_of version (words_of line) ≡ None → StopsAt version number bytes
not_read version entries number bytes rest line after are at split cuts other none =
    let cut_here = cut_line rest line after cuts in
    let same = λ (line' after' : List ℕ) (is : IsUnbroken line') (split' : rest ≡ ended line' ++ after').
    (first_line line line' after after' cut_here.1 (free line' is) (sym cut_here.0 ∙ split')).0 in
    record {
      entries = entries;
      are = are;
      left = rest;
      split = split;
      why =
          inl (
            at,
            record {
              no_end = λ line' after' is split' last.
                  other (same line' after' is split' ∙ append_cancel_right line' (codes "end") (10 ∷ []) (last ∙ end_is));
              no_entry = λ line' after' entry is split' fits has spelled.
                  let spelling = append_cancel_right line' (body version entry) (10 ∷ []) (spelled ∙ entry_is version entry) in
                  let read =
                  sym none
                  ∙ ap (λ xs. entry_of version (words_of xs)) (same line' after' is split' ∙ spelling)
                  ∙ body_again version entry (has, fits) in
                  cc;
            },
          );
    }

pub not_free : (line after : List ℕ) → IsFree 10 (line ++ 10 ∷ after) → ⊥
not_free [] after is = is.0 refl
not_free (b ∷ line) after is = not_free line after is.1

-- no whole line is left
pub unfinished : (version : ℕ) (entries : List Entry) (number : ℕ) (bytes rest : List ℕ) → AreEntries version entries
    → number ≡ named (length entries + 2) → bytes ≡ lines version entries ++ rest → None ≡ cut 10 rest → StopsAt version number bytes
unfinished version entries number bytes rest are at split none =
    let P : Option (List ℕ × List ℕ) → Type 0 = IsCut 10 rest in
    let whole : IsFree 10 rest = subst P (sym none) (cut_found 10 rest) in
    let Q : List ℕ → Type 0 = IsFree 10 in
    let never = λ (line after : List ℕ) (split' : rest ≡ ended line ++ after).
    not_free line after (subst Q (split' ∙ line_in_front line after) whole) in
    record {
      entries = entries;
      are = are;
      left = rest;
      split = split;
      why =
          inl (
            at,
            record {
              no_end = λ line after is split' last. never line after split';
              no_entry = λ line after entry is split' fits has spelled. never line after split';
            },
          );
    }

-- a line that is read
pub one_more : (version : ℕ) (entries : List Entry) (entry : Entry) (bytes rest line after : List ℕ) → bytes ≡ lines version entries ++ rest
    → Some (line, after) ≡ cut 10 rest → words_of line ≡ entry_words version entry ++ [] → bytes ≡ lines version (entries ++ entry ∷ []) ++ after
one_more version entries entry bytes rest line after split cuts spelled =
    let is : line ≡ body version entry =
    sym (joined-words_of line) ∙ ap joined (spelled ∙ append-nil (entry_words version entry)) in
    split
    ∙ ap (λ xs. lines version entries ++ xs)
    ((cut_line rest line after cuts).0 ∙ ap (λ xs. ended xs ++ after) is ∙ ap (λ xs. xs ++ after) (sym (entry_is version entry)))
    ∙ sym (append_assoc (lines version entries) (entry_line version entry) after)
    ∙ ap (λ xs. (lines version entries ++ xs) ++ after) (sym (append-nil (entry_line version entry)))
    ∙ ap (λ xs. xs ++ after) (sym (flat_map-append (entry_line version) entries (entry ∷ [])))

pub entries_more : (version : ℕ) (entries : List Entry) (entry : Entry) → AreEntries version entries → Has version entry → Fits entry
    → AreEntries version (entries ++ entry ∷ [])
entries_more version entries entry are has fits = record {
  has = All-push (Has version) entries entry are.has has;
  fits = All-push Fits entries entry are.fits fits;
}

-- whole texts

-- a rest that stops makes a text that does
pub stops : (version number : ℕ) (bytes line rest : List ℕ) → IsVersion version → ended line ≡ head_line version → bytes ≡ ended line ++ rest
    → StopsAt version number rest → IsFault number bytes
stops version number bytes line rest is first split stop =
    let whole =
    split
    ∙ ap (λ xs. xs ++ rest) (first ∙ head_is version)
    ∙ ap (λ xs. ended (head version) ++ xs) stop.split in
    elim stop.why [
      | inl wrong ↦ record {
        line = length stop.entries + 2;
        faulty = wrong_line version stop.entries stop.left bytes is stop.are whole wrong.1;
        is_named = wrong.0;
      }
      | inr long ↦ record {
        line = length stop.entries + 3;
        faulty = long_text version stop.entries stop.left bytes is stop.are whole long.1;
        is_named = long.0;
      }
    ]

-- a rest that ends makes a text
pub ends : (version : ℕ) (entries : List Entry) (bytes line rest : List ℕ) → IsVersion version → ended line ≡ head_line version
    → bytes ≡ ended line ++ rest → Ends version entries rest → IsTextOf entries bytes
ends version entries bytes line rest is first split end = record {
  version = version;
  text = record {
    version_known = is;
    has = end.are.has;
    fits = end.are.fits;
    spelled =
        split
        ∙ ap (λ xs. xs ++ rest) (first ∙ head_is version)
        ∙ ap (λ xs. ended (head version) ++ xs) end.split
        ∙ sym (text_split version entries);
  };
}

-- tests

pub emptied : (xs : List ℕ) → true ≡ (length xs == 0) → xs ≡ []
emptied [] is = refl
emptied (x ∷ xs) is = absurd (true≢false (is ∙ ne_eqb (length (x ∷ xs)) 0 (λ none. omega arith)))

pub not_emptied : (xs : List ℕ) → false ≡ (length xs == 0) → xs ≢ []
not_emptied xs is = λ none. true≢false (sym (ap (λ ys. length ys == 0) none) ∙ sym is)
