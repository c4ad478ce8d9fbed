-- The first faulty line of a text that is no journal's.
use Rattle.std.proofs.Common.{◌≡◌, ◌≢◌, ℕ, ◌+◌, ◌<◌, ◌≤◌, List, [], ◌∷◌, ◌++◌, length, map, codes, refl, ap, sym, ◌∙◌, subst, inl, inr, ◌⊎◌}
use Rattle.std.proofs.Common.{append_assoc, append-nil, arith}
use Rattle.std.specs.List.{AllByRecursion, flat_map}
use Rattle.std.proofs.lemmas.Bool.Decides.{leb_tells}
use Rattle.std.proofs.lemmas.List.{length-append, length-map}
use Rattle.std.proofs.lemmas.List.Concat.{flat_map-append}
use Rattle.std.proofs.lemmas.List.Elements.{All-nil, All-push, recursion_from_All, All-from_recursion}
use Rattle.nq_base.specs.declared.Entry.{Entry}
use Rattle.nq_journal.specs.Fault.{IsUnbroken, ended, AreLines, IsJournal, IsFaultyAt}
use Rattle.nq_journal.specs.Parsing.{AreEntries, IsWrong, IsTooLong}
use Rattle.nq_journal.specs.Text.{Has, Fits, end_line, journal_text, IsVersion}
use Rattle.nq_script.proofs.LineWords.{IsFree}
use Rattle.nq_journal.proofs.Tails.{free_end, lines, IsLine, left_line, nothing_after, head_free, text_split, IsTail, journal_tail}
use Rattle.nq_journal.proofs.TextLines.{first_line, head, end_is, IsEntry, each, body, entry_is, body_free}

unbroken : (bytes : List ℕ) → IsFree 10 bytes → IsUnbroken bytes
unbroken bytes free = All-from_recursion (λ b. b ≢ 10) bytes free

pub free : (bytes : List ℕ) → IsUnbroken bytes → IsFree 10 bytes
free bytes is = recursion_from_All (λ b. b ≢ 10) bytes is

-- a text of two lines, to have one
least : IsJournal (journal_text 1 [])
least = record {
  version = 1;
  entries = [];
  text = record {
    version_known = inl refl;
    has = All-nil (Has 1);
    fits = All-nil Fits;
    spelled = refl;
  };
}

-- the first line of a journal's text
record HasHead (bytes : List ℕ) : Type 0 where
  version : ℕ
  is : IsVersion version
  rest : List ℕ
  split : bytes ≡ ended (head version) ++ rest

journal_head : (bytes : List ℕ) → IsJournal bytes → HasHead bytes
journal_head bytes journal = record {
  version = journal.version;
  is = journal.text.version_known;
  rest = lines journal.version journal.entries ++ end_line;
  split = journal.text.spelled ∙ text_split journal.version journal.entries;
}

-- a text whose first line names no version is faulty there
pub no_head : (bytes : List ℕ) → ((line after : List ℕ) → IsFree 10 line → bytes ≡ ended line ++ after → (version : ℕ) → IsVersion version
    → line ≢ head version) → IsFaultyAt 1 bytes
no_head bytes none = record {
  count = 0;
  numbered = omega arith;
  front = [];
  rest = bytes;
  split = refl;
  before = record { lines = []; counted = refl; unbroken = All-nil IsUnbroken; whole = refl };
  begins = record { more = journal_text 1 []; journal = least };
  wrong = λ line after is split begins.
      let found = journal_head (ended line ++ begins.more) begins.journal in
      let parts = first_line line (head found.version) begins.more found.rest (free line is) (head_free found.version found.is) found.split in
      none line after (free line is) split found.version found.is parts.0;
  no_journal = λ journal.
      let found = journal_head bytes journal in
      none (head found.version) found.rest (head_free found.version found.is) found.split found.version found.is refl;
}

-- the lines of entries, one by one
abbrev bodies : ℕ → List Entry → List (List ℕ)
bodies version entries = map (body version) entries

lines_are : (version : ℕ) (entries : List Entry) → lines version entries ≡ flat_map ended (bodies version entries)
lines_are version [] = refl
lines_are version (entry ∷ entries) =
    ap (λ xs. xs ++ lines version entries) (entry_is version entry) ∙ ap (λ xs. ended (body version entry) ++ xs) (lines_are version entries)

bodies_free : (version : ℕ) (entries : List Entry) → AllByRecursion (IsEntry version) entries → AllByRecursion IsUnbroken (bodies version entries)
bodies_free version [] are = tt
bodies_free version (entry ∷ entries) are =
    (unbroken (body version entry) (body_free version entry are.0.1), bodies_free version entries are.1)

-- the first line and those of some entries are whole lines
front_lines : (version : ℕ) (entries : List Entry) → IsVersion version → AllByRecursion (IsEntry version) entries
    → AreLines (length entries + 1) (ended (head version) ++ lines version entries)
front_lines version entries is are = record {
  lines = head version ∷ bodies version entries;
  counted = omega (arith, length-map entries (body version));
  unbroken =
      All-from_recursion IsUnbroken (head version ∷ bodies version entries) (unbroken (head version) (head_free version is), bodies_free version entries are);
  whole = ap (λ xs. ended (head version) ++ xs) (lines_are version entries);
}

-- one line more
more_lines : (count : ℕ) (bytes line : List ℕ) → AreLines count bytes → IsFree 10 line → AreLines (count + 1) (bytes ++ ended line)
more_lines count bytes line are is = record {
  lines = are.lines ++ line ∷ [];
  counted = omega (arith, length-append are.lines (line ∷ []), are.counted);
  unbroken = All-push IsUnbroken are.lines line are.unbroken (unbroken line is);
  whole =
      ap (λ xs. xs ++ ended line) are.whole
      ∙ sym
      (flat_map-append ended are.lines (line ∷ []) ∙ ap (λ xs. flat_map ended are.lines ++ xs) (append-nil (ended line)));
}

same_lines : (m n : ℕ) (xs ys : List ℕ) → AreLines m xs → m ≡ n → xs ≡ ys → AreLines n ys
same_lines m n xs ys are count same =
    record { lines = are.lines; counted = are.counted ∙ count; unbroken = are.unbroken; whole = sym same ∙ are.whole }

-- a journal of these entries
journal_of : (version : ℕ) (entries : List Entry) (bytes : List ℕ) → IsVersion version → AreEntries version entries
    → bytes ≡ ended (head version) ++ (lines version entries ++ end_line) → IsJournal bytes
journal_of version entries bytes is are split = record {
  version = version;
  entries = entries;
  text = record {
    version_known = is;
    has = are.has;
    fits = are.fits;
    spelled = split ∙ sym (text_split version entries);
  };
}

-- what a journal has behind some of its lines
behind : (version : ℕ) (entries : List Entry) (left bytes : List ℕ) → IsVersion version
    → bytes ≡ ended (head version) ++ (lines version entries ++ left) → IsJournal bytes → IsTail version (lines version entries ++ left)
behind version entries left bytes is split journal =
    let P : List ℕ → Type 0 = IsJournal in
    journal_tail version (lines version entries ++ left) is (subst P split journal)

-- a line of a journal is not wrong
never_wrong : (version : ℕ) (left line after : List ℕ) → IsWrong version left → IsFree 10 line → left ≡ ended line ++ after → IsLine version line → ⊥
never_wrong version left line after wrong is split (inl end) =
    wrong.no_end line after (unbroken line is) split (ap ended end ∙ sym end_is)
never_wrong version left line after wrong is split (inr found) =
    wrong.no_entry line after found.0 (unbroken line is) split found.1.1 found.1.0
    (ap ended found.2 ∙ sym (entry_is version found.0))

-- a line that is no entry's and not the last is the first faulty one
pub wrong_line : (version : ℕ) (entries : List Entry) (left bytes : List ℕ) → IsVersion version → AreEntries version entries
    → bytes ≡ ended (head version) ++ (lines version entries ++ left) → IsWrong version left → IsFaultyAt (length entries + 2) bytes
wrong_line version entries left bytes is are split wrong =
    let good = each version entries are in
    let front = ended (head version) ++ lines version entries in
    record {
      count = length entries + 1;
      numbered = omega arith;
      front = front;
      rest = left;
      split = split ∙ sym (append_assoc (ended (head version)) (lines version entries) left);
      before = front_lines version entries is good;
      begins = record {
        more = end_line;
        journal =
            journal_of version entries (front ++ end_line) is are (append_assoc (ended (head version)) (lines version entries) end_line);
      };
      wrong = λ line after free_line at begins.
          let regrouped =
          append_assoc front (ended line) begins.more
          ∙ append_assoc (ended (head version)) (lines version entries) (ended line ++ begins.more) in
          let tail = behind version entries (ended line ++ begins.more) ((front ++ ended line) ++ begins.more) is regrouped begins.journal in
          let next = left_line version entries tail.entries (ended line ++ begins.more) good tail.are tail.split in
          let parts = first_line line next.line begins.more next.after (free line free_line) next.free next.split in
          let P : List ℕ → Type 0 = IsLine version in
          never_wrong version left line after wrong (free line free_line) at (subst P (sym parts.0) next.is);
      no_journal = λ journal.
          let tail = behind version entries left bytes is split journal in
          let next = left_line version entries tail.entries left good tail.are tail.split in
          never_wrong version left next.line next.after wrong next.free next.split next.is;
    }

not_empty : (line more : List ℕ) → ended line ++ more ≡ [] → ⊥
not_empty [] more none = cc
not_empty (b ∷ line) more none = cc

-- what stands behind the last line is in a faulty one
pub long_text : (version : ℕ) (entries : List Entry) (left bytes : List ℕ) → IsVersion version → AreEntries version entries
    → bytes ≡ ended (head version) ++ (lines version entries ++ left) → IsTooLong left → IsFaultyAt (length entries + 3) bytes
long_text version entries left bytes is are split long =
    let good = each version entries are in
    let front = ended (head version) ++ lines version entries in
    let whole = ended (head version) ++ (lines version entries ++ end_line) in
    let cut_off = λ (after : List ℕ).
    append_assoc (ended (head version)) (lines version entries ++ end_line) after
    ∙ ap (λ xs. ended (head version) ++ xs) (append_assoc (lines version entries) end_line after) in
    record {
      count = length entries + 2;
      numbered = omega arith;
      front = whole;
      rest = long.after;
      split = split ∙ ap (λ xs. ended (head version) ++ (lines version entries ++ xs)) long.split ∙ sym (cut_off long.after);
      before =
          same_lines (length entries + 1 + 1) (length entries + 2) (front ++ ended (codes "end")) whole
          (more_lines (length entries + 1) front (codes "end") (front_lines version entries is good) free_end) (omega arith)
          (ap (λ xs. front ++ xs) (sym end_is) ∙ append_assoc (ended (head version)) (lines version entries) end_line);
      begins = record {
        more = [];
        journal = journal_of version entries (whole ++ []) is are (append-nil whole);
      };
      wrong = λ line after free_line at begins.
          let regrouped = append_assoc whole (ended line) begins.more ∙ cut_off (ended line ++ begins.more) in
          let tail = behind version entries (end_line ++ (ended line ++ begins.more)) ((whole ++ ended line) ++ begins.more) is regrouped begins.journal in
          not_empty line begins.more
          (nothing_after version entries tail.entries (ended line ++ begins.more) good tail.are tail.split);
      no_journal = λ journal.
          let tail = behind version entries left bytes is split journal in
          let none = nothing_after version entries tail.entries long.after good tail.are
          (ap (λ xs. lines version entries ++ xs) (sym long.split) ∙ tail.split) in
          long.some none;
    }

-- one faulty line

-- the line behind the fewer of two fronts of a text
record NextLine (fewer more : List (List ℕ)) (rest after : List ℕ) : Type 0 where
  line : List ℕ
  lines_after : List (List ℕ)
  is : IsFree 10 line
  front : flat_map ended more ≡ flat_map ended fewer ++ (ended line ++ flat_map ended lines_after)
  split : rest ≡ ended line ++ (flat_map ended lines_after ++ after)

next_line : (fewer more : List (List ℕ)) (rest after : List ℕ) → AllByRecursion IsUnbroken fewer → AllByRecursion IsUnbroken more
    → flat_map ended fewer ++ rest ≡ flat_map ended more ++ after → length fewer < length more → NextLine fewer more rest after
next_line fewer [] rest after are_fewer are_more same less = absurd (omega arith)
next_line [] (line ∷ more) rest after are_fewer are_more same less = record {
  line = line;
  lines_after = more;
  is = free line are_more.0;
  front = refl;
  split = same ∙ append_assoc (ended line) (flat_map ended more) after;
}
next_line (first ∷ fewer) (line ∷ more) rest after are_fewer are_more same less =
    let split =
    sym (append_assoc (ended first) (flat_map ended fewer) rest) ∙ same ∙ append_assoc (ended line) (flat_map ended more) after in
    let parts = first_line first line (flat_map ended fewer ++ rest) (flat_map ended more ++ after) (free first are_fewer.0) (free line are_more.0) split in
    let next = next_line fewer more rest after are_fewer.1 are_more.1 parts.1 (omega arith) in
    record {
      line = next.line;
      lines_after = next.lines_after;
      is = next.is;
      front =
          ap (λ xs. ended line ++ xs) next.front
          ∙ ap (λ xs. ended xs ++ (flat_map ended fewer ++ (ended next.line ++ flat_map ended next.lines_after))) (sym parts.0)
          ∙ sym (append_assoc (ended first) (flat_map ended fewer) (ended next.line ++ flat_map ended next.lines_after));
      split = next.split;
    }

no_earlier : (m n : ℕ) (bytes : List ℕ) (x : IsFaultyAt m bytes) (y : IsFaultyAt n bytes) → x.count < y.count → ⊥
no_earlier m n bytes x y less =
    let fewer = x.before.lines in
    let more = y.before.lines in
    let same =
    ap (λ xs. xs ++ x.rest) (sym x.before.whole)
    ∙ sym x.split
    ∙ y.split
    ∙ ap (λ xs. xs ++ y.rest) y.before.whole in
    let shorter : length fewer < length more = omega (arith, x.before.counted, y.before.counted) in
    let next = next_line fewer more x.rest y.rest (recursion_from_All IsUnbroken fewer x.before.unbroken)
    (recursion_from_All IsUnbroken more y.before.unbroken) same shorter in
    let tail = flat_map ended next.lines_after in
    let regrouped =
    ap (λ xs. xs ++ y.begins.more) (y.before.whole ∙ next.front)
    ∙ append_assoc (flat_map ended fewer) (ended next.line ++ tail) y.begins.more
    ∙ ap (λ xs. flat_map ended fewer ++ xs) (append_assoc (ended next.line) tail y.begins.more)
    ∙ sym (append_assoc (flat_map ended fewer) (ended next.line) (tail ++ y.begins.more))
    ∙ ap (λ xs. (xs ++ ended next.line) ++ (tail ++ y.begins.more)) (sym x.before.whole) in
    let P : List ℕ → Type 0 = IsJournal in
    x.wrong next.line (tail ++ y.rest) (unbroken next.line next.is) next.split
    (record { more = tail ++ y.begins.more; journal = subst P regrouped y.begins.journal })

ltb_or : (a b : ℕ) → (a < b) ⊎ (b ≤ a)
ltb_or a b = elim (leb_tells b a) [
  | inl le ↦ inr le.1
  | inr lt ↦ inl lt.1
]

-- a text has one first faulty line
pub one_fault : (m n : ℕ) (bytes : List ℕ) → IsFaultyAt m bytes → IsFaultyAt n bytes → m ≡ n
one_fault m n bytes x y = elim (ltb_or x.count y.count) [
  | inl less ↦ absurd (no_earlier m n bytes x y less)
  | inr more ↦ elim (ltb_or y.count x.count) [
    | inl less ↦ absurd (no_earlier n m bytes y x less)
    | inr same ↦ omega (arith, x.numbered, y.numbered)
  ]
]
