-- The lines of a journal's text.
use Rattle.std.proofs.Common.{◌≡◌, ◌≢◌, ℕ, List, [], ◌∷◌, ◌++◌, codes, Some, None, refl, ap, sym, ◌∙◌, append_assoc, lit<}
use Rattle.std.specs.Fmt.{decimal}
use Rattle.std.specs.List.{AllByRecursion}
use Rattle.std.proofs.lemmas.Fmt.{decimal_digit}
use Rattle.std.proofs.lemmas.List.Elements.{recursion_from_All}
use Rattle.nq_base.specs.declared.Entry.{Entry}
use Rattle.nq_journal.specs.Fault.{ended}
use Rattle.nq_base.specs.Plain.{plain}
use Rattle.nq_journal.specs.Parsing.{AreEntries}
use Rattle.nq_script.specs.WordsReading.{cut, words_of}
use Rattle.nq_journal.specs.ReadingEntries.{kind_of, entry_of}
use Rattle.nq_journal.specs.Text.{Has, Fits, entry_words, entry_line, head_line, end_line}
use Rattle.nq_script.specs.Words.{joined, line}
use Rattle.nq_journal.proofs.Again.{entry_again}
use Rattle.nq_script.proofs.Clean.{AreWords}
use Rattle.nq_journal.proofs.Clean.{of_entry}
use Rattle.nq_script.proofs.LineWords.{IsFree, cut_again, free_joined, words_of-joined}

-- the first lines of two texts

pub line_in_front : (bytes rest : List ℕ) → ended bytes ++ rest ≡ bytes ++ 10 ∷ rest
line_in_front bytes rest = append_assoc bytes (10 ∷ []) rest

-- texts that are one have one first line
pub first_line : (a b x y : List ℕ) → IsFree 10 a → IsFree 10 b → ended a ++ x ≡ ended b ++ y → (a ≡ b) × (x ≡ y)
first_line a b x y free_a free_b same =
    let left = sym (cut_again 10 a x free_a) ∙ ap (cut 10) (sym (line_in_front a x) ∙ same ∙ line_in_front b y) ∙ cut_again 10 b y free_b in
    let parts : ◌≡◌ {A = List ℕ × List ℕ} (a, x) (b, y) = cc in
    (ap (λ (p : List ℕ × List ℕ). p.0) parts, ap (λ (p : List ℕ × List ℕ). p.1) parts)

-- heads

abbrev pub head : ℕ → List ℕ
head version = joined (codes "nqnfs-journal" ∷ decimal version ∷ [])

pub head_is : (version : ℕ) → head_line version ≡ ended (head version)
unfolding head_line line
head_is version = refl

pub head_1 : head 1 ≡ codes "nqnfs-journal 1"
unfolding joined
head_1 = rw (decimal_digit 1 (lit< tt)) refl

pub head_2 : head 2 ≡ codes "nqnfs-journal 2"
unfolding joined
head_2 = rw (decimal_digit 2 (lit< tt)) refl

-- the end

pub end_is : end_line ≡ ended (codes "end")
unfolding end_line line joined
end_is = refl

-- entries

-- an entry that a version has, and whose numbers are in their ranges
abbrev pub IsEntry : (version : ℕ) → Entry → Type 0
IsEntry version entry = Has version entry × Fits entry

both : (version : ℕ) (entries : List Entry) → AllByRecursion (Has version) entries → AllByRecursion Fits entries → AllByRecursion (IsEntry version) entries
both version [] has fits = tt
both version (entry ∷ entries) has fits = ((has.0, fits.0), both version entries has.1 fits.1)

pub each : (version : ℕ) (entries : List Entry) → AreEntries version entries → AllByRecursion (IsEntry version) entries
each version entries are =
    both version entries (recursion_from_All (Has version) entries are.has) (recursion_from_All Fits entries are.fits)

abbrev pub body : ℕ → Entry → List ℕ
body version entry = joined (entry_words version entry)

pub entry_is : (version : ℕ) (entry : Entry) → entry_line version entry ≡ ended (body version entry)
unfolding entry_line line
entry_is version entry = refl

pub body_free : (version : ℕ) (entry : Entry) → Fits entry → IsFree 10 (body version entry)
body_free version entry fits = free_joined (entry_words version entry) (of_entry version entry fits)

words_again : (words : List (List ℕ)) → AreWords words → words ≢ [] → words_of (joined words) ≡ words
words_again [] are some = absurd (some refl)
words_again (word ∷ words) are some = words_of-joined word words are

some_words : (version : ℕ) (entry : Entry) → IsEntry version entry → entry_words version entry ≢ []
unfolding entry_of
some_words version entry is = λ none.
    let read = entry_again version entry is.1 is.0 in
    let bare = ap (entry_of version) none in
    cc

pub words_of-body : (version : ℕ) (entry : Entry) → IsEntry version entry → words_of (body version entry) ≡ entry_words version entry
words_of-body version entry is =
    words_again (entry_words version entry) (of_entry version entry is.1) (some_words version entry is)

-- the line of an entry is read
pub body_again : (version : ℕ) (entry : Entry) → IsEntry version entry → entry_of version (words_of (body version entry)) ≡ Some (plain entry)
body_again version entry is =
    ap (entry_of version) (words_of-body version entry is) ∙ entry_again version entry is.1 is.0

no_entry_end : (version : ℕ) → entry_of version (words_of (codes "end")) ≡ None
unfolding words_of entry_of kind_of
no_entry_end version = refl

-- no entry has the last line
pub body_no_end : (version : ℕ) (entry : Entry) → IsEntry version entry → body version entry ≢ codes "end"
body_no_end version entry is = λ same.
    let read = body_again version entry is in
    let none = ap (λ xs. entry_of version (words_of xs)) same ∙ no_entry_end version in
    cc
