-- What a whole text gives.
use Rattle.std.proofs.Common.{◌≡◌, [], ◌∷◌, ◌≢◌, ℕ, List, ◌++◌, codes, map, Option, Some, None, Result, Ok, Err, refl, ap, sym, ◌∙◌, subst}
use Rattle.std.specs.List.{AllByRecursion}
use Rattle.nq_base.specs.declared.Entry.{Entry}
use Rattle.nq_base.specs.declared.Said.{Said}
use Rattle.std.specs.Fmt.{decimal}
use Rattle.nq_script.specs.Words.{line}
use Rattle.nq_base.specs.declared.Journal.{Journal}
use Rattle.nq_journal.specs.declared.parsing.JournalFault.{JournalFault}
use Rattle.nq_journal.specs.declared.parsing.JournalFault.TheVariants as fault
use Rattle.nq_journal.specs.Fault.{ended, IsJournal, IsFaultyAt}
use Rattle.nq_base.specs.Plain.{plain, plain_said}
use Rattle.nq_journal.specs.Parsing.{named, IsFault, Parses, GivesEntries, GivesFault, ParsesRest}
use Rattle.nq_script.specs.WordsReading.{cut}
use Rattle.nq_journal.specs.Text.{entry_words, entry_line, journal_text, of_who, IsText, IsVersion, head_line, end_line}
use Rattle.nq_script.specs.Forms.{said_words}
use Rattle.nq_journal.proofs.Faulty.{no_head, one_fault}
use Rattle.nq_script.proofs.LineWords.{IsFree, IsCut, cut_found}
use Rattle.nq_journal.proofs.Rests.{cut_line, not_free, stops, ends}
use Rattle.nq_journal.proofs.Tails.{lines, same_entries, text_split, text_tail}
use Rattle.nq_journal.proofs.TextLines.{line_in_front, first_line, head_is, IsEntry, each}

at_first : (bytes : List ℕ) → IsFaultyAt 1 bytes → IsFault 1 bytes
at_first bytes is = record { line = 1; faulty = is; is_named = refl }

-- a text with no whole line is faulty in the first
pub no_line : (bytes : List ℕ) → None ≡ cut 10 bytes → IsFault 1 bytes
no_line bytes none =
    let P : Option (List ℕ × List ℕ) → Type 0 = IsCut 10 bytes in
    let whole : IsFree 10 bytes = subst P (sym none) (cut_found 10 bytes) in
    let Q : List ℕ → Type 0 = IsFree 10 in
    at_first bytes
    (no_head bytes (λ line after is split. absurd (not_free line after (subst Q (split ∙ line_in_front line after) whole))))

-- so is one whose first line names no version
pub no_version : (bytes first rest : List ℕ) → Some (first, rest) ≡ cut 10 bytes → ((version : ℕ) → IsVersion version → ended first ≢ head_line version)
    → IsFault 1 bytes
no_version bytes first rest cuts none =
    let at = cut_line bytes first rest cuts in
    at_first bytes
    (no_head bytes
    (λ line after is split version is_version same.
    let parts = first_line first line rest after at.1 is (sym at.0 ∙ split) in
    none version is_version (ap ended (parts.0 ∙ same) ∙ sym (head_is version))))

-- behind a first line the rest decides
pub by_rest : (version : ℕ) (bytes first rest : List ℕ) (r : Result Journal JournalFault) → IsVersion version → ended first ≡ head_line version
    → Some (first, rest) ≡ cut 10 bytes → ParsesRest version rest r → Parses bytes r
by_rest version bytes first rest (Ok journal) is names cuts parsed =
    ends version journal.entries bytes first rest is names (cut_line bytes first rest cuts).0 parsed
by_rest version bytes first rest (Err (fault.Line number)) is names cuts parsed =
    stops version number bytes first rest is names (cut_line bytes first rest cuts).0 parsed
by_rest version bytes first rest (Err fault.Memory) is names cuts parsed = tt

-- a text is that of one journal
pub one_journal : (v w : ℕ) (xs ys : List Entry) (bytes : List ℕ) → IsText v xs bytes → IsText w ys bytes → (v ≡ w) × (map plain xs ≡ map plain ys)
one_journal v w xs ys bytes x y =
    let split = sym (text_split v xs) ∙ sym x.spelled ∙ y.spelled in
    let parts = text_tail v w (lines v xs ++ end_line) ys x.version_known y.version_known split in
    let are_x = each v xs (record { has = x.has; fits = x.fits }) in
    let are_y = each w ys (record { has = y.has; fits = y.fits }) in
    let P : ℕ → Type 0 = λ n. lines n xs ++ end_line ≡ lines w ys ++ end_line in
    let Q : ℕ → Type 0 = λ n. AllByRecursion (IsEntry n) xs in
    (parts.0, same_entries w xs ys (subst Q parts.0 are_x) are_y (subst P parts.0 parts.1))

journal_of : (version : ℕ) (entries : List Entry) (bytes : List ℕ) → IsText version entries bytes → IsJournal bytes
journal_of version entries bytes text = record { version = version; entries = entries; text = text }

-- what is spelled is parsed
pub only : (bytes : List ℕ) (r : Result Journal JournalFault) → Parses bytes r → (version : ℕ) (entries : List Entry) → IsText version entries bytes
    → GivesEntries entries r
only bytes (Ok journal) parsed version entries text =
    (one_journal parsed.version version journal.entries entries bytes parsed.text text).1
only bytes (Err (fault.Line number)) parsed version entries text =
    parsed.faulty.no_journal (journal_of version entries bytes text)
only bytes (Err fault.Memory) parsed version entries text = tt

-- a fault is found
pub only_fault : (bytes : List ℕ) (r : Result Journal JournalFault) → Parses bytes r → (line : ℕ) → IsFaultyAt line bytes → GivesFault line r
only_fault bytes (Ok journal) parsed line is =
    is.no_journal (journal_of parsed.version journal.entries bytes parsed.text)
only_fault bytes (Err (fault.Line number)) parsed line is =
    parsed.is_named ∙ ap named (one_fault parsed.line line bytes parsed.faulty is)
only_fault bytes (Err fault.Memory) parsed line is = tt

-- room is not in the text

plain_said_words : (said : Said) → said_words (plain_said said) ≡ said_words said
plain_said_words Said.Ok = refl
plain_said_words (Said.OkValue value) = refl
plain_said_words (Said.OkBy value packet) = refl
plain_said_words (Said.Lost spans) = refl
plain_said_words Said.Busy = refl
plain_said_words Said.Stale = refl
plain_said_words Said.NoEntry = refl
plain_said_words Said.Exists = refl
plain_said_words Said.NoSpace = refl
plain_said_words Said.Range = refl
plain_said_words Said.DirtyFull = refl

plain_words : (version : ℕ) (entry : Entry) → entry_words version (plain entry) ≡ entry_words version entry
plain_words version (Entry.C who q told) = refl
plain_words version (Entry.W who file block number value through) = refl
plain_words version (Entry.R who q file block value served) = refl
plain_words version (Entry.S who file block first last now) = refl
plain_words version (Entry.L who file block first last) = refl
plain_words version (Entry.G who file mode tag term now) = refl
plain_words version (Entry.F who file until heard now) = refl
plain_words version (Entry.O boot until heard now) = refl
plain_words version (Entry.B who) = refl
plain_words version (Entry.X boot now longest) = refl
plain_words version (Entry.Z who q file from to) = refl
plain_words version (Entry.A who q said) = ap (λ ws. of_who (codes "A") who (decimal q ∷ ws)) (plain_said_words said)

plain_lines : (version : ℕ) (entries : List Entry) → lines version (map plain entries) ≡ lines version entries
unfolding entry_line
plain_lines version [] = refl
plain_lines version (entry ∷ entries) =
    ap (λ ws. line ws ++ lines version (map plain entries)) (plain_words version entry)
    ∙ ap (λ xs. entry_line version entry ++ xs) (plain_lines version entries)

pub plain_text : (version : ℕ) (entries : List Entry) → journal_text version (map plain entries) ≡ journal_text version entries
unfolding journal_text
plain_text version entries = ap (λ xs. head_line version ++ xs ++ end_line) (plain_lines version entries)
