-- A text that goes to a sink in pieces.
use Rattle.std.proofs.Common.{◌≡◌, ℕ, ◌+◌, ◌<◌, ◌≤◌, List, [], ◌∷◌, ◌++◌, All, length, take, drop, get_or, Option, subst, ap, sym, ◌∙◌, append_assoc}
use Rattle.std.proofs.Common.{length-append, arith}
use Rattle.std.specs.List.{flat_map}
use Rattle.std.proofs.Math.Seq.{take-append_seam, take-append-add}
use Rattle.std.proofs.lemmas.List.{take-append-le, take-append-drop, take_more, take_all, flat_map_more, append-nil}
use Rattle.std.proofs.lemmas.List.Concat.{flat_map-append}
use Rattle.std.proofs.lemmas.List.Elements.{All-push}
use Rattle.nq_base.specs.declared.Entry.{Entry}
use Rattle.nq_io.specs.Sink.{AppendsFront}
use Rattle.nq_io.specs.Told.{with_end}
use Rattle.nq_io.proofs.Told.{with_end-with_end}
use Rattle.nq_journal.specs.declared.printing.Printed.{Printed}
use Rattle.nq_journal.specs.Text.{Fits, journal_text, head_line, entry_line, end_line}

-- of the text so far the sink was given the front, without a fault, and the buffer has the rest
pub record IsGiven (before now : Option (List ℕ)) (faults_before faults_now : ℕ) (buffer so_far : List ℕ) : Type 0 where
  pub front : List ℕ
  pub given : now ≡ with_end before front
  pub split : so_far ≡ front ++ buffer
  pub calm : faults_now ≡ faults_before

-- the whole text is the text so far and what is left of it
pub text_at : (version : ℕ) (entries : List Entry) (place : ℕ)
    → journal_text version entries ≡ (head_line version ++ flat_map (entry_line version) (take place entries)) ++
    (flat_map (entry_line version) (drop place entries) ++ end_line)
unfolding journal_text
text_at version entries place =
    let parts = ap (λ es. head_line version ++ flat_map (entry_line version) es ++ end_line) (sym (take-append-drop place entries)) in
    parts ∙ simp (flat_map-append, append_assoc)

-- what was given is the front of the whole
pub front_given : (before now : Option (List ℕ)) (front rest whole : List ℕ) → now ≡ with_end before front → whole ≡ front ++ rest
    → AppendsFront whole before now
front_given before now front rest whole given split = record {
  count = length front;
  within = omega (arith, length-append front rest, ap length split);
  appended = given ∙ ap (with_end before) (sym (ap (take (length front)) split ∙ take-append_seam front rest));
}

-- a part of the buffer, behind what was given, is the front of the whole
pub front_more : (before held now : Option (List ℕ)) (front buffer rest whole : List ℕ) → held ≡ with_end before front
    → whole ≡ (front ++ buffer) ++ rest → AppendsFront buffer held now → AppendsFront whole before now
front_more before held now front buffer rest whole given split more =
    let n = more.count in
    let within : n ≤ length buffer = more.within in
    let regrouped = split ∙ append_assoc front buffer rest in
    record {
      count = length front + n;
      within = omega (arith, length-append front (buffer ++ rest), length-append buffer rest, ap length regrouped);
      appended =
          more.appended
          ∙ ap (λ h. with_end h (take n buffer)) given
          ∙ with_end-with_end before front (take n buffer)
          ∙ ap (with_end before)
          (sym
          (ap (take (length front + n)) regrouped
          ∙ take-append-add front (buffer ++ rest) n
          ∙ ap (λ xs. front ++ xs) (take-append-le n buffer rest within)));
    }

-- a run that stops gave the front of the whole
pub stopped : (before now : Option (List ℕ)) (m n : ℕ) (buffer so_far rest whole : List ℕ) → IsGiven before now m n buffer so_far
    → whole ≡ so_far ++ rest → AppendsFront whole before now
stopped before now m n buffer so_far rest whole is split =
    front_given before now is.front (buffer ++ rest) whole is.given (split ∙ ap (λ xs. xs ++ rest) is.split ∙ append_assoc is.front buffer rest)

-- so did one whose last piece was given in part
pub failed : (before held now : Option (List ℕ)) (m n : ℕ) (buffer so_far rest whole : List ℕ) → IsGiven before held m n buffer so_far
    → whole ≡ so_far ++ rest → AppendsFront buffer held now → AppendsFront whole before now
failed before held now m n buffer so_far rest whole is split more =
    front_more before held now is.front buffer rest whole is.given (split ∙ ap (λ xs. xs ++ rest) is.split) more

-- the buffer grew
pub extended : (before now : Option (List ℕ)) (m n : ℕ) (buffer so_far more buffer' so_far' : List ℕ) → IsGiven before now m n buffer so_far
    → buffer' ≡ buffer ++ more → so_far' ≡ so_far ++ more → IsGiven before now m n buffer' so_far'
extended before now m n buffer so_far more buffer' so_far' is grown added = record {
  front = is.front;
  given = is.given;
  split = added ∙ ap (λ xs. xs ++ more) is.split ∙ append_assoc is.front buffer more ∙ ap (λ xs. is.front ++ xs) (sym grown);
  calm = is.calm;
}

-- the buffer was given
pub all_given : (before held now : Option (List ℕ)) (m n : ℕ) (buffer so_far : List ℕ) → IsGiven before held m n buffer so_far
    → now ≡ with_end held buffer → now ≡ with_end before so_far
all_given before held now m n buffer so_far is put =
    put ∙ ap (λ h. with_end h buffer) is.given ∙ with_end-with_end before is.front buffer ∙ ap (with_end before) (sym is.split)

pub flushed : (before held now : Option (List ℕ)) (m n o : ℕ) (buffer so_far cleared : List ℕ) → IsGiven before held m n buffer so_far
    → now ≡ with_end held buffer → o ≡ n → cleared ≡ [] → IsGiven before now m o cleared so_far
flushed before held now m n o buffer so_far cleared is put same empty = record {
  front = so_far;
  given = all_given before held now m n buffer so_far is put;
  split = sym (ap (λ xs. so_far ++ xs) empty ∙ append-nil so_far);
  calm = same ∙ is.calm;
}

-- one entry more
pub entry_more : (version : ℕ) (items : List Entry) (place : ℕ) (entry : Entry) → place < length items → entry ≡ get_or items place entry
    → head_line version ++ flat_map (entry_line version)
    (take (place + 1) items) ≡ (head_line version ++ flat_map (entry_line version) (take place items)) ++ entry_line version entry
entry_more version items place entry within is =
    ap (λ es. head_line version ++ flat_map (entry_line version) es) (take_more items place entry within ∙ ap (λ e. take place items ++ e ∷ []) (sym is))
    ∙ sym (flat_map_more (entry_line version) (head_line version) (take place items) entry)

-- all entries
pub text_whole : (version : ℕ) (items entries : List Entry) (place : ℕ) → items ≡ entries → length items ≤ place
    → journal_text version entries ≡ (head_line version ++ flat_map (entry_line version) (take place items)) ++ end_line
unfolding journal_text
text_whole version items entries place same past =
    ap (λ es. head_line version ++ flat_map (entry_line version) es ++ end_line) (sym (take_all place items past ∙ same))

-- one entry more fits
pub fit_more : (items : List Entry) (place : ℕ) (entry : Entry) → place < length items → entry ≡ get_or items place entry → All Fits (take place items)
    → Fits entry → All Fits (take (place + 1) items)
fit_more items place entry within is fit fits =
    let P : List Entry → Type 0 = All Fits in
    let step = take_more items place entry within ∙ ap (λ e. take place items ++ e ∷ []) (sym is) in
    subst P (sym step) (All-push Fits (take place items) entry fit fits)

-- all entries fit
pub all_fit : (items entries : List Entry) (place : ℕ) → items ≡ entries → length items ≤ place → All Fits (take place items) → All Fits entries
all_fit items entries place same past fit =
    let P : List Entry → Type 0 = All Fits in subst P (take_all place items past ∙ same) fit

-- what stopped did not print all
pub memory_not_all : {A : Type 0} → Printed.Memory ≡ Printed.All → A
memory_not_all e = absurd (cc)

pub failed_not_all : {A : Type 0} → Printed.Failed ≡ Printed.All → A
failed_not_all e = absurd (cc)
