-- Each text is a schedule or goes wrong at some line.
use Rattle.std.proofs.Common.{◌≡◌, ◌≢◌, ◌⊎◌, inl, inr, ℕ, ◌+◌, ◌<◌, ◌≤◌, ◌^◌, true, false, List, [], ◌∷◌, ◌++◌, length, drop, map, Option, Some, None}
use Rattle.std.proofs.Common.{zero, suc, refl, ap, sym, ◌∙◌, arith, lit<, lit≤, eq-eqb, if◌then◌else◌, subst, codes}
use Rattle.std.specs.List.{AllByRecursion}
use Rattle.std.specs.Fmt.{decimal}
use Rattle.std.specs.Str.{bytes_eq}
use Rattle.std.proofs.lemmas.Bool.{cases_lt, cases_eq, cases_Bool, both_ways, ne_eqb}
use Rattle.std.proofs.lemmas.List.{drop_at}
use Rattle.std.proofs.lemmas.List.Elements.{recursion_from_All, All-from_recursion}
use Rattle.std.proofs.lemmas.Slice.Eq.{bytes_eq-Decides}
use Rattle.nq_base.specs.Name.{IsName, IsNameByte, IsNew}
use Rattle.nq_script.specs.Heads.{FitFiles, FitsHead, AreSettings, blocks_of, file_line, file_lines, first_file, version_line, hosts_line, term_line}
use Rattle.nq_script.specs.Heads.{longest_line, most_term, settings_lines, head_lines}
use Rattle.nq_script.specs.Lines.{line_of}
use Rattle.nq_script.specs.Progress.{NoNumber, WrongFile, WrongLine, WrongEnd, ReadSoFar, EndsWith}
use Rattle.nq_script.specs.Reading.{told_line, file_of, ranged_of}
use Rattle.nq_script.specs.WordsReading.{cut as cut_at}
use Rattle.nq_script.specs.Schedule.{NamesEvents, SpellsSchedule, FirstBadHeadLine, FirstBadLine, StandsInFront}
use Rattle.nq_script.specs.Text.{IsVersion, text_of}
use Rattle.nq_script.specs.declared.heads.Head.{Head}
use Rattle.nq_script.specs.declared.lines.Line.{Line}
use Rattle.nq_script.specs.declared.lines.ToldLine.{ToldLine}
use Rattle.nq_script.proofs.EventLines.{wrong-no-line, wrong-no-read, ended, wrong-end, so-far-more}
use Rattle.nq_script.proofs.FileLines.{after-shorter, files-no-line, files-no-file, files-begin, files-more, no-line, one-line, text-first, text-behind}
use Rattle.nq_script.proofs.Fitting.{fit-more, fit-last, fit-none}
use Rattle.nq_script.proofs.HeadLines.{known-version, are-settings, term-low, wrong-version, wrong-hosts, wrong-term, wrong-longest, wrong-file}
use Rattle.nq_script.proofs.HeadReading.{file-found, file-none, file-same, ranged-found, ranged-none}
use Rattle.nq_script.proofs.Splitting.{nil-cons}
use Rattle.nq_script.proofs.Whole.{head-wrong, schedule-found, lines-wrong}

both : (P Q : Type 0) → P ⊎ (P → ⊥) → Q ⊎ (Q → ⊥) → (P × Q) ⊎ ((P × Q) → ⊥)
both P Q (inl p) (inl q) = inl (p, q)
both P Q (inl p) (inr q) = inr (λ w. q w.1)
both P Q (inr p) q = inr (λ w. p w.0)

at-most : (m n : ℕ) → (m ≤ n) ⊎ ((m ≤ n) → ⊥)
at-most m n = by_order (cases_lt n m) where
  by_order : (n < m) ⊎ (m ≤ n) → (m ≤ n) ⊎ ((m ≤ n) → ⊥)
  by_order (inl above) = inr (λ low. absurd (omega arith))
  by_order (inr low) = inl low

same-bytes : (xs ys : List ℕ) → (xs ≡ ys) ⊎ ((xs ≡ ys) → ⊥)
same-bytes xs ys = by_test (cases_Bool (bytes_eq xs ys)) where
  by_test : (bytes_eq xs ys ≡ true) ⊎ (bytes_eq xs ys ≡ false) → (xs ≡ ys) ⊎ ((xs ≡ ys) → ⊥)
  by_test (inl same) = inl ((bytes_eq-Decides xs ys).0 same)
  by_test (inr other) = inr (λ same. both_ways (bytes_eq xs ys) other ((bytes_eq-Decides xs ys).1 same))

each : {A : Type 0} (P : A → Type 0) → ((x : A) → P x ⊎ (P x → ⊥)) → (xs : List A) → AllByRecursion P xs ⊎ (AllByRecursion P xs → ⊥)
each P decide [] = inl tt
each P decide (x ∷ xs) = both (P x) (AllByRecursion P xs) (decide x) (each P decide xs)

name-byte : (b : ℕ) → IsNameByte b ⊎ (IsNameByte b → ⊥)
name-byte b = by_parts (at-most 33 b) (at-most b 126) (cases_eq b 47) where
  by_parts : (33 ≤ b) ⊎ ((33 ≤ b) → ⊥) → (b ≤ 126) ⊎ ((b ≤ 126) → ⊥) → (b ≡ 47) ⊎ ((b ≡ 47) → ⊥) → IsNameByte b ⊎ (IsNameByte b → ⊥)
  by_parts (inl low) (inl high) (inr other) = inl (low, high, other)
  by_parts (inl low) (inl high) (inl slash) = inr (λ is. is.2 slash)
  by_parts (inl low) (inr high) slash = inr (λ is. high is.1)
  by_parts (inr low) high slash = inr (λ is. low is.0)

name-decided : (name : List ℕ) → IsName name ⊎ (IsName name → ⊥)
name-decided name = by_parts (at-most 1 (length name)) (at-most (length name) 64) (each IsNameByte name-byte name) where
  by_parts : (1 ≤ length name) ⊎ ((1 ≤ length name) → ⊥) → (length name ≤ 64) ⊎ ((length name ≤ 64) → ⊥)
      → AllByRecursion IsNameByte name ⊎ (AllByRecursion IsNameByte name → ⊥) → IsName name ⊎ (IsName name → ⊥)
  by_parts (inl low) (inl high) (inl bytes) = inl (low, high, All-from_recursion IsNameByte name bytes)
  by_parts (inl low) (inl high) (inr bytes) = inr (λ is. bytes (recursion_from_All IsNameByte name is.2))
  by_parts (inl low) (inr high) bytes = inr (λ is. high is.1)
  by_parts (inr low) high bytes = inr (λ is. low is.0)

not : (P : Type 0) → P ⊎ (P → ⊥) → (P → ⊥) ⊎ ((P → ⊥) → ⊥)
not P (inl p) = inr (λ never. never p)
not P (inr never) = inl never

new-decided : (name : List ℕ) (files : List (List ℕ × ℕ)) → IsNew name files ⊎ (IsNew name files → ⊥)
new-decided name [] = inl tt
new-decided name (f ∷ files) =
    both (f.0 ≢ name) (IsNew name files) (not (f.0 ≡ name) (same-bytes f.0 name)) (new-decided name files)

-- whether one file more fits
more-decided : (files : List (List ℕ × ℕ)) (f : List ℕ × ℕ) → FitFiles files → (1 ≤ f.1) × (f.1 ≤ 1024)
    → FitFiles (files ++ f ∷ []) ⊎ (FitFiles (files ++ f ∷ []) → ⊥)
more-decided files f fit sized =
    by_parts (name-decided f.0) (at-most (length files + 1) 256) (at-most (blocks_of files + f.1) 16384) (new-decided f.0 files) where
      by_parts : IsName f.0 ⊎ (IsName f.0 → ⊥) → (length files + 1 ≤ 256) ⊎ ((length files + 1 ≤ 256) → ⊥)
          → (blocks_of files + f.1 ≤ 16384) ⊎ ((blocks_of files + f.1 ≤ 16384) → ⊥) → IsNew f.0 files ⊎ (IsNew f.0 files → ⊥)
          → FitFiles (files ++ f ∷ []) ⊎ (FitFiles (files ++ f ∷ []) → ⊥)
      by_parts (inl name) (inl few) (inl small) (inl new) =
          inl (fit-more files f fit (name, sized.0, sized.1) (omega arith) small new)
      by_parts (inl name) (inl few) (inl small) (inr new) = inr (λ fits. new (fit-last files f fits).3)
      by_parts (inl name) (inl few) (inr small) new = inr (λ fits. small (fit-last files f fits).2)
      by_parts (inl name) (inr few) small new = inr (λ fits. few (let room : length files < 256 = (fit-last files f fits).1 in omega arith))
      by_parts (inr name) few small new = inr (λ fits. name (fit-last files f fits).0.0)

-- the lines of events behind those that were read, with as much fuel as bytes are left
Ends : Head → (first : ℕ) → List ℕ → Type 0
Ends head first text =
    ((lines : List Line) × EndsWith head lines text)
    ⊎ ((number : ℕ) × (WrongLine head first text number ⊎ WrongEnd head first text number))

lines-step : (head : Head) (first : ℕ) (lines : List Line) (text rest : List ℕ) → ReadSoFar head lines text rest
    → ((more : List Line) (after : List ℕ) → ReadSoFar head more text after → length after < length rest → Ends head first text) → Ends head first text
unfolding Ends
lines-step head first lines text rest r next = by_cut (cut_at 10 rest) refl where
  by_after : (line after : List ℕ) → cut_at 10 rest ≡ Some (line, after) → told_line head line ≡ Some ToldLine.End → (left : List ℕ) → after ≡ left
      → Ends head first text
  by_after line after cut read [] none = inl (lines, ended head lines text rest line after ToldLine.End r cut read refl none)
  by_after line after cut read (b ∷ left) some =
      inr (
        first + length lines + 1,
        inr (wrong-end head first lines text rest line after ToldLine.End (first + length lines) r refl cut read refl
            (λ none. nil-cons (sym none ∙ some))),
      )

  more : (line after : List ℕ) → cut_at 10 rest ≡ Some (line, after) → (told : ToldLine) → told_line head line ≡ Some told → told ≢ ToldLine.End
      → Ends head first text
  more line after cut told read other =
      next (lines ++ line_of told ∷ []) after (so-far-more head lines (lines ++ line_of told ∷ []) text rest line after told r cut read other refl)
      (after-shorter rest line after cut)

  by_told : (line after : List ℕ) → cut_at 10 rest ≡ Some (line, after) → (told : ToldLine) → told_line head line ≡ Some told → Ends head first text
  by_told line after cut ToldLine.End read = by_after line after cut read after refl
  by_told line after cut told read = more line after cut told read (λ same. subst (λ t. NamesEvents (line_of t)) same tt)

  by_read : (line after : List ℕ) → cut_at 10 rest ≡ Some (line, after) → (o : Option ToldLine) → told_line head line ≡ o → Ends head first text
  by_read line after cut None none =
      inr (first + length lines, inl (wrong-no-read head first lines text rest line after (first + length lines) r refl cut none))
  by_read line after cut (Some told) read = by_told line after cut told read

  by_cut : (o : Option (List ℕ × List ℕ)) → cut_at 10 rest ≡ o → Ends head first text
  by_cut None none = inr (first + length lines, inl (wrong-no-line head first lines text rest (first + length lines) r refl none))
  by_cut (Some p) cut = by_read p.0 p.1 cut (told_line head p.0) refl

lines-decided : (fuel : ℕ) (head : Head) (first : ℕ) (lines : List Line) (text rest : List ℕ) → ReadSoFar head lines text rest → length rest ≤ fuel
    → Ends head first text
lines-decided zero head first lines text rest r enough =
    lines-step head first lines text rest r (λ more after s shorter. absurd (omega arith))
lines-decided (suc fuel) head first lines text rest r enough =
    lines-step head first lines text rest r (λ more after s shorter. lines-decided fuel head first more text after s (omega arith))

-- the lines of files behind those that were read
Files : (first : ℕ) → List ℕ → Type 0
Files first text =
    ((files : List (List ℕ × ℕ)) × (rest : List ℕ) × FitFiles files × (text ≡ text_of (file_lines files) ++ rest))
    ⊎ ((number : ℕ) × WrongFile first text number)

files-step : (first : ℕ) (files : List (List ℕ × ℕ)) (text rest : List ℕ) → text ≡ text_of (map file_line files) ++ rest → FitFiles files
    → ((more : List (List ℕ × ℕ)) (after : List ℕ) → text ≡ text_of (map file_line more) ++ after → FitFiles more → length after < length rest
    → Files first text)
    → Files first text
unfolding Files
files-step first files text rest split fit next = by_cut (cut_at 10 rest) refl where
  by_fit : (line after : List ℕ) → cut_at 10 rest ≡ Some (line, after) → line ≢ codes "begin" → (f : List ℕ × ℕ) → file_of line ≡ Some f
      → FitFiles (files ++ f ∷ []) ⊎ (FitFiles (files ++ f ∷ []) → ⊥) → Files first text
  by_fit line after cut other f read (inl fits) =
      let more = files-more text files (files ++ f ∷ []) rest line after f (blocks_of files) split cut ((file-found line f read).0, fits) refl refl in
      next (files ++ f ∷ []) after more.0 fits (after-shorter rest line after cut)
  by_fit line after cut other f read (inr wrong) =
      inr (
        first + length files,
        files-no-file first text files rest line after (first + length files) split fit refl cut other
            (λ g spelled fits. wrong (subst (λ h. FitFiles (files ++ h ∷ [])) (sym (file-same line f g read (fit-last files g fits).0 spelled)) fits)),
      )

  by_file : (line after : List ℕ) → cut_at 10 rest ≡ Some (line, after) → line ≢ codes "begin" → (o : Option (List ℕ × ℕ)) → file_of line ≡ o
      → Files first text
  by_file line after cut other None none =
      inr (
        first + length files,
        files-no-file first text files rest line after (first + length files) split fit refl cut other
            (λ g spelled fits. file-none line none g (fit-last files g fits).0 spelled),
      )
  by_file line after cut other (Some f) read =
      let found = file-found line f read in by_fit line after cut other f read (more-decided files f fit (found.1, found.2))

  by_line : (line after : List ℕ) → cut_at 10 rest ≡ Some (line, after) → (line ≡ codes "begin") ⊎ (line ≢ codes "begin") → Files first text
  by_line line after cut (inl begin) = inl (files, after, fit, files-begin text files rest line after split cut begin)
  by_line line after cut (inr other) = by_file line after cut other (file_of line) refl

  by_cut : (o : Option (List ℕ × List ℕ)) → cut_at 10 rest ≡ o → Files first text
  by_cut None none = inr (first + length files, files-no-line first text files rest (first + length files) split fit refl none)
  by_cut (Some p) cut = by_line p.0 p.1 cut (same-bytes p.0 (codes "begin"))

files-decided : (fuel first : ℕ) (files : List (List ℕ × ℕ)) (text rest : List ℕ) → text ≡ text_of (map file_line files) ++ rest → FitFiles files
    → length rest ≤ fuel → Files first text
files-decided zero first files text rest split fit enough =
    files-step first files text rest split fit (λ more after s f shorter. absurd (omega arith))
files-decided (suc fuel) first files text rest split fit enough =
    files-step first files text rest split fit (λ more after s f shorter. files-decided fuel first more text after s f (omega arith))

-- the first line is a number from `least` to `most` behind the prefix, or none is
numbered : (prefix : List ℕ) (least most : ℕ) (text : List ℕ) → most < 2 ^ 64
    → ((value : ℕ) × (after : List ℕ) × (least ≤ value) × (value ≤ most) × (text ≡ text_of ((prefix ++ decimal value) ∷ []) ++ after))
    ⊎ NoNumber prefix least most text
numbered prefix least most text wide = by_cut (cut_at 10 text) refl where
  Numbered : Type 0
  Numbered =
      ((value : ℕ) × (after : List ℕ) × (least ≤ value) × (value ≤ most) × (text ≡ text_of ((prefix ++ decimal value) ∷ []) ++ after))
      ⊎ NoNumber prefix least most text

  by_number : (line after : List ℕ) → cut_at 10 text ≡ Some (line, after) → (o : Option ℕ) → ranged_of prefix least most line ≡ o → Numbered
  by_number line after cut None none =
      inr (λ value line' after' low high here lacks spelled.
      ranged-none prefix least most line wide none value low high ((one-line text line after line' after' cut here lacks).0 ∙ spelled))
  by_number line after cut (Some value) read =
      let found = ranged-found prefix least most line value wide read in
      inl (value, after, found.1, found.2, text-first text line after (prefix ++ decimal value) cut found.0)

  by_cut : (o : Option (List ℕ × List ℕ)) → cut_at 10 text ≡ o → Numbered
  by_cut None none = inr (λ value line after low high here lacks spelled. no-line text line after none here lacks)
  by_cut (Some p) cut = by_number p.0 p.1 cut (ranged_of prefix least most p.0) refl

-- a head in front, or the first line that is wrong in it
Front : List ℕ → Type 0
Front text =
    ((head : Head) × (rest : List ℕ) × FitsHead head × (text ≡ text_of (head_lines head) ++ rest))
    ⊎ ((number : ℕ) × FirstBadHeadLine text number)

front-files : (text rest : List ℕ) (version hosts term longest : ℕ) → AreSettings version hosts term longest
    → text ≡ text_of (settings_lines version hosts term longest) ++ rest → Files (first_file version) rest → Front text
unfolding Files Front
front-files text rest version hosts term longest settings split (inl found) =
    inl (
      head,
      found.1,
      record { settings = settings; files = found.2 },
      text-behind text (settings_lines version hosts term longest) (file_lines found.0) rest found.1 split found.3,
    ) where
      head : Head
      head = record { version = version; hosts = hosts; term = term; longest = longest; files = found.0 }
front-files text rest version hosts term longest settings split (inr wrong) =
    inr (wrong.0, wrong-file text rest version hosts term longest wrong.0 settings split wrong.1)

front-settings : (text rest : List ℕ) (version hosts term longest : ℕ) → AreSettings version hosts term longest
    → text ≡ text_of (settings_lines version hosts term longest) ++ rest → Front text
front-settings text rest version hosts term longest settings split =
    front-files text rest version hosts term longest settings split
    (files-decided (length rest) (first_file version) [] rest rest refl fit-none (omega arith))

front-longest : (text rest : List ℕ) (version hosts term : ℕ) → IsVersion version → 1 ≤ hosts → hosts ≤ 64 → 5 ≤ term → term ≤ most_term version
    → text ≡ text_of (version_line version ∷ hosts_line hosts ∷ term_line term ∷ []) ++ rest → Front text
unfolding Front
front-longest text rest version hosts term known some few long short split = by_version known where
  by_number : version ≢ 1
      → ((value : ℕ) × (after : List ℕ) × (5 ≤ value) × (value ≤ 600) × (rest ≡ text_of ((codes "longest " ++ decimal value) ∷ []) ++ after))
      ⊎ NoNumber (codes "longest ") 5 600 rest → Front text
  by_number other (inl found) =
      front-settings text found.1 version hosts term found.0
      (are-settings version hosts term found.0 known some few long short (found.2, found.3, λ first. absurd (other first)))
      (subst (λ test. text ≡ text_of (version_line version ∷ hosts_line hosts ∷ term_line term ∷ (if test then [] else longest_line found.0 ∷ [])) ++ found.1)
      (sym (ne_eqb version 1 other))
      (text-behind text (version_line version ∷ hosts_line hosts ∷ term_line term ∷ []) (longest_line found.0 ∷ []) rest found.1 split found.4))
  by_number other (inr none) = inr (4, wrong-longest text rest version hosts term known some few long short other split none)

  by_version : IsVersion version → Front text
  by_version (inl first) =
      front-settings text rest version hosts term 60
      (are-settings version hosts term 60 known some few long short (lit≤ tt, lit≤ tt, λ is. refl))
      (subst (λ test. text ≡ text_of (version_line version ∷ hosts_line hosts ∷ term_line term ∷ (if test then [] else longest_line 60 ∷ [])) ++ rest)
      (sym (eq-eqb version 1 first)) split)
  by_version (inr second) = by_number (λ first. absurd (omega arith)) (numbered (codes "longest ") 5 600 rest (lit< tt))

front-term : (text rest : List ℕ) (version hosts : ℕ) → IsVersion version → 1 ≤ hosts → hosts ≤ 64
    → text ≡ text_of (version_line version ∷ hosts_line hosts ∷ []) ++ rest → Front text
unfolding Front
front-term text rest version hosts known some few split =
    by_number (numbered (codes "term ") 5 (most_term version) rest (let low = term-low version (most_term version) (omega arith) in omega arith)) where
      by_number : ((value : ℕ) × (after : List ℕ) × (5 ≤ value) × (value ≤ most_term version)
          × (rest ≡ text_of ((codes "term " ++ decimal value) ∷ []) ++ after))
          ⊎ NoNumber (codes "term ") 5 (most_term version) rest → Front text
      by_number (inl found) =
          front-longest text found.1 version hosts found.0 known some few found.2 found.3
          (text-behind text (version_line version ∷ hosts_line hosts ∷ []) (term_line found.0 ∷ []) rest found.1 split found.4)
      by_number (inr none) = inr (3, wrong-term text rest version hosts known some few split none)

front-hosts : (text rest : List ℕ) (version : ℕ) → IsVersion version → text ≡ text_of (version_line version ∷ []) ++ rest → Front text
unfolding Front
front-hosts text rest version known split = by_number (numbered (codes "hosts ") 1 64 rest (lit< tt)) where
  by_number : ((value : ℕ) × (after : List ℕ) × (1 ≤ value) × (value ≤ 64) × (rest ≡ text_of ((codes "hosts " ++ decimal value) ∷ []) ++ after))
      ⊎ NoNumber (codes "hosts ") 1 64 rest → Front text
  by_number (inl found) =
      front-term text found.1 version found.0 known found.2 found.3
      (text-behind text (version_line version ∷ []) (hosts_line found.0 ∷ []) rest found.1 split found.4)
  by_number (inr none) = inr (2, wrong-hosts text rest version known split none)

front-decided : (text : List ℕ) → Front text
unfolding Front
front-decided text = by_number (numbered (codes "nqnfs-schedule ") 1 2 text (lit< tt)) where
  by_number : ((value : ℕ) × (after : List ℕ) × (1 ≤ value) × (value ≤ 2) × (text ≡ text_of ((codes "nqnfs-schedule " ++ decimal value) ∷ []) ++ after))
      ⊎ NoNumber (codes "nqnfs-schedule ") 1 2 text → Front text
  by_number (inl found) = front-hosts text found.1 found.0 (known-version found.0 found.2 found.3) found.4
  by_number (inr none) = inr (1, wrong-version text none)

stands : (head : Head) (text rest : List ℕ) → FitsHead head → text ≡ text_of (head_lines head) ++ rest
    → StandsInFront head (length (head_lines head)) (length (text_of (head_lines head))) text
stands head text rest fits split = record {
  fits = fits;
  split = split ∙ ap (λ r. text_of (head_lines head) ++ r)
      (sym (ap (drop (length (text_of (head_lines head)))) split ∙ drop_at (text_of (head_lines head)) rest (length (text_of (head_lines head))) refl));
  bytes = refl;
  lines = refl;
}

ends-decided : (head : Head) (text : List ℕ) → StandsInFront head (length (head_lines head)) (length (text_of (head_lines head))) text
    → Ends head (length (head_lines head) + 1) (drop (length (text_of (head_lines head))) text)
    → ((g : Head) × (lines : List Line) × SpellsSchedule g lines text) ⊎ ((number : ℕ) × FirstBadLine text number)
unfolding Ends
ends-decided head text front (inl found) =
    inl (head, found.0, schedule-found head (length (head_lines head)) (length (text_of (head_lines head))) text found.0 front found.1)
ends-decided head text front (inr wrong) =
    inr (wrong.0, lines-wrong head (length (head_lines head)) (length (text_of (head_lines head))) text wrong.0 front wrong.1)

-- each text spells a schedule, or has a first line that is wrong
pub decided : (text : List ℕ) → ((head : Head) × (lines : List Line) × SpellsSchedule head lines text) ⊎ ((number : ℕ) × FirstBadLine text number)
unfolding Front
decided text = by_front (front-decided text) where
  by_front : Front text → ((head : Head) × (lines : List Line) × SpellsSchedule head lines text) ⊎ ((number : ℕ) × FirstBadLine text number)
  by_front (inl found) =
      let head = found.0 in
      let rest = drop (length (text_of (head_lines head))) text in
      let front = stands head text found.1 found.2 found.3 in
      ends-decided head text front
      (lines-decided (length rest) head (length (head_lines head) + 1) [] rest rest (record { texts = []; spelled = tt; split = refl }) (omega arith))
  by_front (inr wrong) = inr (wrong.0, head-wrong text wrong.0 wrong.1)
