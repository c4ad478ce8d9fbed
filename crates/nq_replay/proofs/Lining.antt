-- The lines of a text, and the text in which lines `flow` stand for asides.
use Rattle.std.proofs.Common.{◌≡◌, ◌≢◌, ℕ, false, List, [], ◌∷◌, ◌++◌, map, Option, Some, None, refl, sym, ap, subst, ◌∙◌, append_assoc}
use Rattle.std.proofs.lemmas.Bool.{ne_eqb}
use Rattle.std.specs.Prelude.{◌==◌, codes, if◌then◌else◌}
use Rattle.nq_replay.specs.Text.{asides_in, in_front, lines_in, new_line, plain_bytes, plain_line}
use Rattle.nq_script.proofs.Cuts.{cut-found}
use Rattle.nq_script.proofs.FileLines.{text_of-append}
use Rattle.nq_script.proofs.HeadLines.{one-text-head}
use Rattle.nq_script.specs.Heads.{FitsHead, head_lines}
use Rattle.nq_script.specs.Schedule.{SpellsSchedule}
use Rattle.nq_script.specs.Text.{Lacks, text_of}
use Rattle.nq_script.specs.declared.heads.Head.{Head}
use Rattle.nq_script.specs.declared.lines.Line.{Line}
use Rattle.nq_script.proofs.LineWords.{IsCut, cut_found}
use Rattle.nq_script.specs.WordsReading.{cut as cut_at}

other-byte : (b : ℕ) → b ≢ 10 → (b == 10) ≡ false
other-byte b other = ne_eqb b 10 other

-- a line, and those behind its line feed
pub lines-step : (line after : List ℕ) → Lacks 10 line → lines_in (line ++ 10 ∷ after) ≡ (line ∷ (lines_in after).0, (lines_in after).1)
lines-step [] after lacks = refl
lines-step (b ∷ line) after lacks =
    ap (λ t. if t then new_line (lines_in (line ++ 10 ∷ after)) else in_front b (lines_in (line ++ 10 ∷ after))) (other-byte b lacks.0)
    ∙ ap (in_front b) (lines-step line after lacks.1)

-- what has no line feed
pub lines-none : (rest : List ℕ) → Lacks 10 rest → lines_in rest ≡ ([], rest)
lines-none [] lacks = refl
lines-none (b ∷ rest) lacks =
    ap (λ t. if t then new_line (lines_in rest) else in_front b (lines_in rest)) (other-byte b lacks.0)
    ∙ ap (in_front b) (lines-none rest lacks.1)

abbrev bytes_of : {A : Type 0} → (read : List ℕ → Option A) → List (List ℕ) × List ℕ → List ℕ
bytes_of read p = text_of (map (plain_line read) p.0) ++ p.1

pub plain-step : {A : Type 0} (read : List ℕ → Option A) (line after : List ℕ) → Lacks 10 line
    → plain_bytes read (line ++ 10 ∷ after) ≡ plain_line read line ++ 10 ∷ plain_bytes read after
plain-step read line after lacks =
    ap (bytes_of read) (lines-step line after lacks)
    ∙ append_assoc (plain_line read line) (10 ∷ text_of (map (plain_line read) (lines_in after).0)) (lines_in after).1

pub plain-none : {A : Type 0} (read : List ℕ → Option A) (rest : List ℕ) → Lacks 10 rest → plain_bytes read rest ≡ rest
plain-none read rest lacks = ap (bytes_of read) (lines-none rest lacks)

pub asides-step : {A : Type 0} (read : List ℕ → Option A) (line after : List ℕ) → Lacks 10 line
    → asides_in read (line ++ 10 ∷ after) ≡ read line ∷ asides_in read after
asides-step read line after lacks = ap (λ (p : List (List ℕ) × List ℕ). map read p.0) (lines-step line after lacks)

pub asides-none : {A : Type 0} (read : List ℕ → Option A) (rest : List ℕ) → Lacks 10 rest → asides_in read rest ≡ []
asides-none read rest lacks = ap (λ (p : List (List ℕ) × List ℕ). map read p.0) (lines-none rest lacks)

-- ---- the head

-- the head of a schedule is the one that stands in front of its text
pub same-head : (g h : Head) (rest text : List ℕ) (lines : List Line) → FitsHead g → text ≡ text_of (head_lines g) ++ rest → SpellsSchedule h lines text
    → h ≡ g
same-head g h rest text lines fits split spelled =
    let texts = spelled.1.1.0 in
    one-text-head h g (text_of (texts ++ codes "end" ∷ [])) rest spelled.1.0 fits
    (sym (text_of-append (head_lines h) (texts ++ codes "end" ∷ [])) ∙ ap text_of (sym spelled.1.1.2) ∙ sym spelled.2 ∙ split)

-- ---- line by line

pub plain-more : {A : Type 0} (read : List ℕ → Option A) (bytes more rest line after : List ℕ)
    → cut_at 10 rest ≡ Some (line, after) → more ≡ bytes ++ (plain_line read line ++ 10 ∷ [])
    → more ++ plain_bytes read after ≡ bytes ++ plain_bytes read rest
plain-more read bytes more rest line after is put =
    let found = cut-found 10 rest line after is in
    let l : List ℕ = plain_line read line in
    ap (λ m. m ++ plain_bytes read after) put
    ∙ append_assoc bytes (l ++ 10 ∷ []) (plain_bytes read after)
    ∙ ap (λ x. bytes ++ x) (append_assoc l (10 ∷ []) (plain_bytes read after) ∙ sym (plain-step read line after found.1) ∙ ap (plain_bytes read) (sym found.0))

pub asides-more : {A : Type 0} (read : List ℕ → Option A) (asides more : List (Option A)) (rest line after : List ℕ)
    → cut_at 10 rest ≡ Some (line, after) → more ≡ asides ++ read line ∷ [] → more ++ asides_in read after ≡ asides ++ asides_in read rest
asides-more read asides more rest line after is put =
    let found = cut-found 10 rest line after is in
    ap (λ m. m ++ asides_in read after) put
    ∙ append_assoc asides (read line ∷ []) (asides_in read after)
    ∙ ap (λ x. asides ++ x) (sym (asides-step read line after found.1) ∙ ap (asides_in read) (sym found.0))

free-of : (rest : List ℕ) → cut_at 10 rest ≡ None → Lacks 10 rest
free-of rest none = subst (IsCut 10 rest) none (cut_found 10 rest)

pub plain-end : {A : Type 0} (read : List ℕ → Option A) (rest : List ℕ) → cut_at 10 rest ≡ None → plain_bytes read rest ≡ rest
plain-end read rest none = plain-none read rest (free-of rest none)

pub asides-end : {A : Type 0} (read : List ℕ → Option A) (rest : List ℕ) → cut_at 10 rest ≡ None → asides_in read rest ≡ []
asides-end read rest none = asides-none read rest (free-of rest none)
