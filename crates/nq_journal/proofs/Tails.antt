-- What stands behind the first line of a journal's text.
use Rattle.std.proofs.Common.{◌≡◌, ℕ, ◌<◌, ◌^◌, List, [], ◌∷◌, ◌++◌, get_or, map, codes, Some, refl, ap, sym, ◌∙◌, subst, inl, inr, ◌⊎◌, append_assoc, arith}
use Rattle.std.specs.Fmt.{decimal}
use Rattle.std.specs.List.{AllByRecursion, flat_map}
use Rattle.nq_base.specs.declared.Entry.{Entry}
use Rattle.nq_journal.specs.Fault.{ended, IsJournal}
use Rattle.nq_base.specs.Plain.{plain}
use Rattle.nq_journal.specs.Parsing.{AreEntries}
use Rattle.nq_script.specs.WordsReading.{words_of}
use Rattle.nq_journal.specs.ReadingEntries.{entry_of}
use Rattle.nq_journal.specs.Text.{entry_line, head_line, end_line, journal_text, IsVersion, IsText}
use Rattle.nq_script.proofs.Clean.{literal}
use Rattle.nq_script.proofs.LineWords.{IsFree, free_joined}
use Rattle.nq_script.proofs.Numerals.{word_decimal}
use Rattle.nq_journal.proofs.TextLines.{first_line, head, head_is, head_1, head_2, end_is, IsEntry, each, body, entry_is, body_free, body_again, body_no_end}

abbrev pub lines : ℕ → List Entry → List ℕ
lines version entries = flat_map (entry_line version) entries

-- the first of some lines
pub lines_cons : (version : ℕ) (entry : Entry) (entries : List Entry) (rest : List ℕ)
    → lines version (entry ∷ entries) ++ rest ≡ ended (body version entry) ++ (lines version entries ++ rest)
lines_cons version entry entries rest =
    ap (λ xs. (xs ++ lines version entries) ++ rest) (entry_is version entry)
    ∙ append_assoc (ended (body version entry)) (lines version entries) rest

pub free_end : IsFree 10 (codes "end")
free_end = (λ h. omega arith, (λ h. omega arith, (λ h. omega arith, tt)))

end_cons : end_line ≡ ended (codes "end") ++ []
end_cons = end_is

-- a line is the last, or an entry's
abbrev pub IsLine : ℕ → List ℕ → Type 0
IsLine version line = (line ≡ codes "end") ⊎ ((entry : Entry) × IsEntry version entry × (line ≡ body version entry))

-- such a line is in front of these bytes
pub record HasLine (version : ℕ) (bytes : List ℕ) : Type 0 where
  pub line : List ℕ
  pub after : List ℕ
  pub free : IsFree 10 line
  pub split : bytes ≡ ended line ++ after
  pub is : IsLine version line

-- behind some lines of a journal stands a line of it
pub left_line : (version : ℕ) (front entries : List Entry) (left : List ℕ) → AllByRecursion (IsEntry version) front
    → AllByRecursion (IsEntry version) entries → lines version front ++ left ≡ lines version entries ++ end_line → HasLine version left
left_line version [] [] left fronts are same =
    record { line = codes "end"; after = []; free = free_end; split = same ∙ end_cons; is = inl refl }
left_line version [] (entry ∷ entries) left fronts are same = record {
  line = body version entry;
  after = lines version entries ++ end_line;
  free = body_free version entry are.0.1;
  split = same ∙ lines_cons version entry entries end_line;
  is = inr (entry, are.0, refl);
}
left_line version (first ∷ front) [] left fronts are same =
    let split = sym (lines_cons version first front left) ∙ same ∙ end_cons in
    let parts = first_line (body version first) (codes "end") (lines version front ++ left) [] (body_free version first fronts.0.1) free_end split in
    absurd (body_no_end version first fronts.0 parts.0)
left_line version (first ∷ front) (entry ∷ entries) left fronts are same =
    let split = sym (lines_cons version first front left) ∙ same ∙ lines_cons version entry entries end_line in
    let parts = first_line (body version first) (body version entry) (lines version front ++ left) (lines version entries ++ end_line)
    (body_free version first fronts.0.1) (body_free version entry are.0.1) split in
    left_line version front entries left fronts.1 are.1 parts.1

-- nothing stands behind the last line
pub nothing_after : (version : ℕ) (front entries : List Entry) (after : List ℕ) → AllByRecursion (IsEntry version) front
    → AllByRecursion (IsEntry version) entries → lines version front ++ (end_line ++ after) ≡ lines version entries ++ end_line → after ≡ []
nothing_after version [] [] after fronts are same =
    let split = ap (λ xs. xs ++ after) (sym end_is) ∙ same ∙ end_cons in
    (first_line (codes "end") (codes "end") after [] free_end free_end split).1
nothing_after version [] (entry ∷ entries) after fronts are same =
    let split = ap (λ xs. xs ++ after) (sym end_is) ∙ same ∙ lines_cons version entry entries end_line in
    let parts = first_line (codes "end") (body version entry) after (lines version entries ++ end_line) free_end (body_free version entry are.0.1) split in
    absurd (body_no_end version entry are.0 (sym parts.0))
nothing_after version (first ∷ front) [] after fronts are same =
    let split = sym (lines_cons version first front (end_line ++ after)) ∙ same ∙ end_cons in
    let parts = first_line (body version first) (codes "end") (lines version front ++ (end_line ++ after)) [] (body_free version first fronts.0.1)
    free_end split in
    absurd (body_no_end version first fronts.0 parts.0)
nothing_after version (first ∷ front) (entry ∷ entries) after fronts are same =
    let split = sym (lines_cons version first front (end_line ++ after)) ∙ same ∙ lines_cons version entry entries end_line in
    let parts = first_line (body version first) (body version entry) (lines version front ++ (end_line ++ after)) (lines version entries ++ end_line)
    (body_free version first fronts.0.1) (body_free version entry are.0.1) split in
    nothing_after version front entries after fronts.1 are.1 parts.1

same_body : (version : ℕ) (x y : Entry) → IsEntry version x → IsEntry version y → body version x ≡ body version y → plain x ≡ plain y
same_body version x y is_x is_y same =
    let read : Some (plain x) ≡ Some (plain y) =
    sym (body_again version x is_x) ∙ ap (λ xs. entry_of version (words_of xs)) same ∙ body_again version y is_y in
    cc

-- the same lines are those of the same entries
pub same_entries : (version : ℕ) (xs ys : List Entry) → AllByRecursion (IsEntry version) xs → AllByRecursion (IsEntry version) ys
    → lines version xs ++ end_line ≡ lines version ys ++ end_line → map plain xs ≡ map plain ys
same_entries version [] [] are_xs are_ys same = refl
same_entries version [] (y ∷ ys) are_xs are_ys same =
    let split = sym end_cons ∙ same ∙ lines_cons version y ys end_line in
    let parts = first_line (codes "end") (body version y) [] (lines version ys ++ end_line) free_end (body_free version y are_ys.0.1) split in
    absurd (body_no_end version y are_ys.0 (sym parts.0))
same_entries version (x ∷ xs) [] are_xs are_ys same =
    let split = sym (lines_cons version x xs end_line) ∙ same ∙ end_cons in
    let parts = first_line (body version x) (codes "end") (lines version xs ++ end_line) [] (body_free version x are_xs.0.1) free_end split in
    absurd (body_no_end version x are_xs.0 parts.0)
same_entries version (x ∷ xs) (y ∷ ys) are_xs are_ys same =
    let split = sym (lines_cons version x xs end_line) ∙ same ∙ lines_cons version y ys end_line in
    let parts = first_line (body version x) (body version y) (lines version xs ++ end_line) (lines version ys ++ end_line)
    (body_free version x are_xs.0.1) (body_free version y are_ys.0.1) split in
    let first = same_body version x y are_xs.0 are_ys.0 parts.0 in
    let rest = same_entries version xs ys are_xs.1 are_ys.1 parts.1 in
    ap (λ e. e ∷ map plain xs) first ∙ ap (λ es. plain y ∷ es) rest

-- whole texts

head_words : (version : ℕ) → version < 2 ^ 64 → IsFree 10 (head version)
head_words version small =
    free_joined (codes "nqnfs-journal" ∷ decimal version ∷ [])
    (literal (codes "nqnfs-journal") refl, (word_decimal version small, tt))

pub head_free : (version : ℕ) → IsVersion version → IsFree 10 (head version)
head_free version (inl one) = head_words version (omega arith)
head_free version (inr two) = head_words version (omega arith)

heads_apart : head 1 ≡ head 2 → ⊥
heads_apart same =
    let texts : codes "nqnfs-journal 1" ≡ codes "nqnfs-journal 2" = sym head_1 ∙ same ∙ head_2 in
    let digits : ◌≡◌ {A = ℕ} 49 50 = ap (λ (text : List ℕ). get_or text 14 0) texts in
    omega arith

-- a first line names one version
pub same_head : (v w : ℕ) → IsVersion v → IsVersion w → head v ≡ head w → v ≡ w
same_head v w (inl v1) (inl w1) same = v1 ∙ sym w1
same_head v w (inl v1) (inr w2) same = absurd (heads_apart (sym (ap head v1) ∙ same ∙ ap head w2))
same_head v w (inr v2) (inl w1) same = absurd (heads_apart (sym (ap head w1) ∙ sym same ∙ ap head v2))
same_head v w (inr v2) (inr w2) same = v2 ∙ sym w2

pub text_split : (version : ℕ) (entries : List Entry) → journal_text version entries ≡ ended (head version) ++ (lines version entries ++ end_line)
unfolding journal_text
text_split version entries =
    append_assoc (head_line version) (lines version entries) end_line
    ∙ ap (λ xs. xs ++ (lines version entries ++ end_line)) (head_is version)

-- the version of a text, and what stands behind its first line
pub text_tail : (v w : ℕ) (tail : List ℕ) (entries : List Entry) → IsVersion v → IsVersion w → ended (head v) ++ tail ≡ journal_text w entries
    → (v ≡ w) × (tail ≡ lines w entries ++ end_line)
text_tail v w tail entries is_v is_w same =
    let parts = first_line (head v) (head w) tail (lines w entries ++ end_line) (head_free v is_v) (head_free w is_w) (same ∙ text_split w entries) in
    (same_head v w is_v is_w parts.0, parts.1)

-- entries, behind whose first line these bytes stand
pub record IsTail (version : ℕ) (tail : List ℕ) : Type 0 where
  pub entries : List Entry
  pub are : AllByRecursion (IsEntry version) entries
  pub split : tail ≡ lines version entries ++ end_line

abbrev pub entries_of : {version : ℕ} {entries : List Entry} {bytes : List ℕ} → IsText version entries bytes → AreEntries version entries
entries_of text = record { has = text.has; fits = text.fits }

pub journal_tail : (version : ℕ) (tail : List ℕ) → IsVersion version → IsJournal (ended (head version) ++ tail) → IsTail version tail
journal_tail version tail is journal =
    let text = journal.text in
    let parts = text_tail version journal.version tail journal.entries is text.version_known text.spelled in
    let are = each journal.version journal.entries (record { has = text.has; fits = text.fits }) in
    let tail_of : IsTail journal.version tail = record { entries = journal.entries; are = are; split = parts.1 } in
    let P : ℕ → Type 0 = λ v. IsTail v tail in
    subst P (sym parts.0) tail_of
