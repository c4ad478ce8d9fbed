-- Places and lines of a journal that was read stand within its text.
use Rattle.std.proofs.Common.{◌≡◌, ℕ, ◌+◌, ◌<◌, ◌≤◌, ◌^◌, List, [], ◌∷◌, ◌++◌, length, reverse, Option, Some, None, inl, inr, refl, sym, ◌∙◌, ap}
use Rattle.std.proofs.Common.{subst, arith, length-append}
use Rattle.std.proofs.lemmas.List.{length-reverse}
use Rattle.std.specs.List.{flat_map}
use Rattle.std.specs.Option.{option_or}
use Rattle.std.specs.Prelude.{codes}
use Rattle.nq_base.specs.declared.Entry.{Entry}
use Rattle.nq_check.specs.Rules.{first_rule}
use Rattle.nq_check.specs.Verdict.{Fault, IsVerdict, fault_at, least_fault, verdict}
use Rattle.nq_check.specs.declared.Judged.{Judged}
use Rattle.nq_check.specs.declared.Rule.{Rule}
use Rattle.nq_base.specs.declared.ending.ending.Ending.{Ending}
use Rattle.nq_io.specs.Faults.{Rose}
use Rattle.nq_io.specs.Sink.{AppendsFront, PrintsLine}
use Rattle.nq_io.specs.Told.{with_end}
use Rattle.nq_io.specs.Whole.{IsAll, IsOver}
use Rattle.nq_journal.specs.Fault.{IsFaultyAt, IsJournal, ended}
use Rattle.nq_journal.specs.Parsing.{IsFault, IsTextOf, named}
use Rattle.nq_journal.specs.Text.{IsText, entry_line, entry_words, end_line, head_line, journal_text}
use Rattle.nq_replay.specs.Ending.{CountsSource, IsUnlessFault, TellsOver}
use Rattle.nq_judge.specs.Judging.{IsJudged, IsSaidUnlessFault, Judges, JudgesText, PrintsWrong, TellsVerdict, yes_line}
use Rattle.nq_replay.specs.Lines.{script_line}
use Rattle.nq_script.specs.Words.{line, joined}

-- ---- the place of a fault

at_place : (n : ℕ) (rule : Option Rule) (f : Fault) → fault_at n rule ≡ Some f → f.place ≡ n
at_place n None f e = absurd (cc)
at_place n (Some rule) f e = let same : record { place = n; rule = rule } ≡ f = cc in sym (ap (λ (g : Fault). g.place) same)

within_or : (a b : Option Fault) (f : Fault) (n : ℕ) → option_or a b ≡ Some f → ((g : Fault) → a ≡ Some g → g.place < n) → ((g : Fault) → b ≡ Some g
    → g.place ≡ n) → f.place < n + 1
within_or None b f n e l r = let h : f.place ≡ n = r f e in omega arith
within_or (Some g) b f n e l r = let h : f.place < n = l f e in omega arith

fault_within : (whole after journal : List Entry) (f : Fault) → least_fault whole after journal ≡ Some f → f.place < length journal
fault_within whole after [] f e = absurd (cc)
fault_within whole after (entry ∷ before) f e =
    let here = first_rule whole after entry before in
    let h : f.place < length before + 1 = within_or (least_fault whole (entry ∷ after) before) (fault_at (length before) here) f (length before) e
    (fault_within whole (entry ∷ after) before) (at_place (length before) here) in
    omega arith

pub place_within : (entries : List Entry) (f : Fault) → verdict (reverse entries) ≡ Some f → f.place < length entries
place_within entries f e = let h : f.place < length (reverse entries) = fault_within (reverse entries) [] (reverse entries) f e in
    let l : length (reverse entries) ≡ length entries = length-reverse entries in omega arith

-- ---- lines

-- what is told in pieces, none of them empty, is as long as there are pieces
pieces : {X : Type 0} (f : X → List ℕ) → ((x : X) → 1 ≤ length (f x)) → (xs : List X) → length xs ≤ length (flat_map f xs)
pieces f some [] = omega arith
pieces f some (x ∷ xs) =
    let rest : length xs ≤ length (flat_map f xs) = pieces f some xs in
    let here : 1 ≤ length (f x) = some x in
    let both : length (f x ++ flat_map f xs) ≡ length (f x) + length (flat_map f xs) = length-append (f x) (flat_map f xs) in
    omega arith

some_line : (version : ℕ) (entry : Entry) → 1 ≤ length (entry_line version entry)
unfolding entry_line line
some_line version entry =
    let l : length (joined (entry_words version entry) ++ 10 ∷ []) ≡ length (joined (entry_words version entry)) + 1 =
    length-append (joined (entry_words version entry)) (10 ∷ []) in
    omega arith

-- a journal's text is as long as it has entries
pub entries_within : (version : ℕ) (entries : List Entry) (text : List ℕ) → IsText version entries text → length entries ≤ length text
unfolding journal_text
entries_within version entries text t =
    let body = flat_map (entry_line version) entries in
    let long : length entries ≤ length body = pieces (entry_line version) (some_line version) entries in
    let outer : length (head_line version ++ body ++ end_line) ≡ length (head_line version ++ body) + length end_line =
    length-append (head_line version ++ body) end_line in
    let inner : length (head_line version ++ body) ≡ length (head_line version) + length body = length-append (head_line version) body in
    let whole : length text ≡ length (head_line version ++ body ++ end_line) = ap length t.spelled in
    omega arith

some_ended : (l : List ℕ) → 1 ≤ length (ended l)
some_ended l = let e : length (l ++ 10 ∷ []) ≡ length l + 1 = length-append l (10 ∷ []) in omega arith

-- the number of a text's first faulty line is at most one more than its length
line_within : (number : ℕ) (text : List ℕ) → IsFaultyAt number text → number ≤ length text + 1
line_within number text f =
    let lines = f.before.lines in
    let long : length lines ≤ length (flat_map ended lines) = pieces ended some_ended lines in
    let front : length f.front ≡ length (flat_map ended lines) = ap length f.before.whole in
    let split : length text ≡ length (f.front ++ f.rest) = ap length f.split in
    let both : length (f.front ++ f.rest) ≡ length f.front + length f.rest = length-append f.front f.rest in
    let counted : length lines ≡ f.count = f.before.counted in
    let numbered : number ≡ f.count + 1 = f.numbered in
    omega arith

-- so it is named as it is
pub line_named : (number : ℕ) (text : List ℕ) → length text < 2 ^ 31 → IsFaultyAt number text → named number ≡ number
line_named number text short f = let h : number ≤ length text + 1 = line_within number text f in omega arith

-- ---- what is printed

-- the place that a verdict names fits
pub tell_fits : (judged : Judged) (entries : List Entry) (text : List ℕ) → IsVerdict judged (verdict (reverse entries)) → IsTextOf entries text
    → length text < 2 ^ 31 → (place : ℕ) (rule : Rule) → judged ≡ Judged.No place rule → place < 2 ^ 31
tell_fits Judged.Yes entries text v t short place rule e = absurd (cc)
tell_fits (Judged.No p r) entries text v t short place rule e =
    let within : p < length entries = place_within entries (record { place = p; rule = r }) v in
    let long : length entries ≤ length text = entries_within t.version entries text t.text in
    let same : p ≡ place = cc in
    omega arith
tell_fits Judged.Memory entries text v t short place rule e = absurd (cc)

-- a verdict that was printed is that on the text
pub judged_text : (end : Ending) (judged : Judged) (entries : List Entry) (text : List ℕ) (held now : Option (List ℕ)) (w w' : ℕ)
    → IsVerdict judged (verdict (reverse entries)) → IsTextOf entries text → TellsVerdict end judged held now w w' → JudgesText end text held now w w'
judged_text Ending.Done Judged.Yes entries text held now w w' v t h = (record { version = t.version; entries = entries; spelled = t.text; judged = v }, h)
judged_text Ending.Done (Judged.No p r) entries text held now w w' v t h = absurd h
judged_text Ending.Done Judged.Memory entries text held now w w' v t h = absurd h
judged_text Ending.WriteFault Judged.Yes entries text held now w w' v t h = (
  record {
    version = t.version;
    entries = entries;
    spelled = t.text;
    judged = v;
  },
  h.0,
  h.1,
)
judged_text Ending.WriteFault (Judged.No p r) entries text held now w w' v t h = absurd h
judged_text Ending.WriteFault Judged.Memory entries text held now w w' v t h = absurd h
judged_text Ending.NotSound Judged.Yes entries text held now w w' v t h = absurd h
judged_text Ending.NotSound (Judged.No p r) entries text held now w w' v t h =
    record { fault = record { place = p; rule = r }; judged = record { version = t.version; entries = entries; spelled = t.text; judged = v }; printed = h }
judged_text Ending.NotSound Judged.Memory entries text held now w w' v t h = absurd h
judged_text Ending.Memory judged entries text held now w w' v t h = h
judged_text other judged entries text held now w w' v t h = absurd h

-- a faulty line that was printed is the text's first one
pub wrong_text : (number : ℕ) (text bytes : List ℕ) (held now : Option (List ℕ)) (w w' : ℕ) → IsFault number text → length text < 2 ^ 31
    → bytes ≡ script_line number → PrintsLine bytes held now w w' → PrintsWrong text held now w w'
wrong_text number text bytes held now w w' f short spelled printed =
    let same : number ≡ f.line = f.is_named ∙ line_named f.line text short f.faulty in
    let told : bytes ≡ script_line f.line = spelled ∙ ap script_line same in
    record { number = f.line; faulty = f.faulty; printed = subst (λ (l : List ℕ). PrintsLine l held now w w') told printed }

-- `yes` was printed for a journal that is sound
pub tells_yes : (judged : Judged) (held now : Option (List ℕ)) (w w' : ℕ) → judged ≡ Judged.Yes → now ≡ with_end held (codes "yes\n")
    → TellsVerdict Ending.Done judged held now w w'
unfolding yes_line
tells_yes judged held now w w' e h = subst (λ (j : Judged). TellsVerdict Ending.Done j held now w w') (sym e) h

-- or a front of it
pub tells_front : (judged : Judged) (held now : Option (List ℕ)) (w w' : ℕ) → judged ≡ Judged.Yes → AppendsFront (codes "yes\n") held now → Rose w w'
    → TellsVerdict Ending.WriteFault judged held now w w'
unfolding yes_line
tells_front judged held now w w' e h r = subst (λ (j : Judged). TellsVerdict Ending.WriteFault j held now w w') (sym e) (h, r)

-- ---- the input

-- what was said of a text that was read is what was said of the input
pub judges_text : (end : Ending) (text : List ℕ) (limit : ℕ) (left rest held now : Option (List ℕ)) (r r' w w' : ℕ) → IsAll text limit left rest
    → JudgesText end text held now w w' → Judges end limit left rest held now r r' w w'
judges_text Ending.Done text limit left rest held now r r' w w' read judges = record { text = text; read = read; so = judges }
judges_text Ending.Script text limit left rest held now r r' w w' read judges = record { text = text; read = read; so = judges }
judges_text Ending.WriteFault text limit left rest held now r r' w w' read judges = record { text = text; read = read; so = judges }
judges_text Ending.Memory text limit left rest held now r r' w w' read judges = (judges, inr (inl (text, read)))
judges_text Ending.NotSound text limit left rest held now r r' w w' read judges = record { text = text; read = read; so = judges }
judges_text other text limit left rest held now r r' w w' read judges = absurd judges

pub judges_over : (end : Ending) (front : List ℕ) (limit : ℕ) (left rest held now : Option (List ℕ)) (r r' w w' : ℕ) → IsOver front limit left rest
    → TellsOver end front held now w w' → Judges end limit left rest held now r r' w w'
judges_over Ending.Memory front limit left rest held now r r' w w' over tells = (tells, inr (inr (front, over)))
judges_over Ending.Limit front limit left rest held now r r' w w' over tells = record { front = front; passes = over; printed = tells }
judges_over other front limit left rest held now r r' w w' over tells = absurd tells

-- judging a text counts no fault of the source
pub judged_source : (end : Ending) (text : List ℕ) (held now : Option (List ℕ)) (w w' before count : ℕ) → JudgesText end text held now w w'
    → count ≡ before → CountsSource end before count
judged_source Ending.ReadFault text held now w w' before count judges same = absurd judges
judged_source other text held now w w' before count judges same = same

is_journal : (text : List ℕ) (found : Option Fault) → IsJudged text found → IsJournal text
is_journal text found judged = record { version = judged.version; entries = judged.entries; text = judged.spelled }

-- of a text that is no journal's the faulty line is told
pub script_said : (end : Ending) (text : List ℕ) (number : ℕ) (held now : Option (List ℕ)) (r r' w w' : ℕ) → IsFaultyAt number text
    → JudgesText end text held now w w' → IsUnlessFault end Ending.Script r r' w w'
script_said Ending.Done text number held now r r' w w' faulty judges = absurd (faulty.no_journal (is_journal text None judges.0))
script_said Ending.Script text number held now r r' w w' faulty judges = inl refl
script_said Ending.WriteFault text number held now r r' w w' faulty judges = inr judges.2
script_said Ending.Memory text number held now r r' w w' faulty judges = inr tt
script_said Ending.NotSound text number held now r r' w w' faulty judges = absurd (faulty.no_journal (is_journal text (Some judges.fault) judges.judged))
script_said other text number held now r r' w w' faulty judges = absurd judges

-- of a text that is a journal's the verdict is said
pub verdict_said : (end : Ending) (text : List ℕ) (held now : Option (List ℕ)) (r r' w w' : ℕ) → IsJournal text → JudgesText end text held now w w'
    → IsSaidUnlessFault end r r' w w'
verdict_said Ending.Done text held now r r' w w' journal judges = inl refl
verdict_said Ending.Script text held now r r' w w' journal judges = absurd (judges.faulty.no_journal journal)
verdict_said Ending.WriteFault text held now r r' w w' journal judges = inr (inr judges.2)
verdict_said Ending.Memory text held now r r' w w' journal judges = inr (inr tt)
verdict_said Ending.NotSound text held now r r' w w' journal judges = inr (inl refl)
verdict_said other text held now r r' w w' journal judges = absurd judges
