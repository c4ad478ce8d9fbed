-- The whole text of a schedule: one schedule for it, and where it goes wrong.
use Rattle.std.proofs.Common.{◌≡◌, ◌⊎◌, inl, inr, ℕ, ◌+◌, List, [], ◌∷◌, ◌++◌, drop, map, refl, ap, sym, ◌∙◌, arith, subst, append_assoc, codes}
use Rattle.std.proofs.Common.{Result, Ok, Err, length-append}
use Rattle.std.specs.List.{AllByRecursion}
use Rattle.std.proofs.lemmas.List.{append-nil, append_cancel_left, append_cancel_right}
use Rattle.nq_script.specs.Heads.{FitsHead, head_lines}
use Rattle.nq_base.specs.declared.Event.{Event}
use Rattle.nq_script.specs.Lines.{AreSpelled, once}
use Rattle.nq_script.specs.Progress.{EndsWith, WrongLine, WrongEnd}
use Rattle.nq_script.specs.Schedule.{SpellsLines, SpellsWhole, SpellsSchedule, IsSchedule, StandsInFront, FirstBadHeadLine, FirstBadLine}
use Rattle.nq_script.specs.Text.{Lacks, text_of}
use Rattle.nq_script.specs.Faults.{Answers}
use Rattle.nq_script.specs.declared.faults.ScriptFault.{ScriptFault}
use Rattle.nq_script.specs.declared.faults.ScriptFault.TheVariants.{Bad, Memory}
use Rattle.nq_script.specs.declared.heads.Head.{Head}
use Rattle.nq_script.specs.declared.scripts.Script.{Script}
use Rattle.nq_script.specs.declared.lines.Line.{Line}
use Rattle.nq_script.proofs.FileLines.{text-behind, text_of-append}
use Rattle.nq_script.proofs.Fitting.{each-append, each-back}
use Rattle.nq_script.proofs.HeadLines.{head-lacks, one-head}
use Rattle.nq_script.proofs.LineTexts.{lines-lack, one-list-spelled, as-many, line-next, nothing-next, not-ended}
use Rattle.nq_script.proofs.Splitting.{first-same, nil-cons, not-nil, parts, lacks-tested, splits, Splits, wrong-stuck, wrong-once}

-- no line of a schedule has a line feed
whole-lacks : (head : Head) (lines : List Line) (whole : List (List ℕ)) → SpellsWhole head lines whole → AllByRecursion (Lacks 10) whole
whole-lacks head lines whole s =
    subst (AllByRecursion (Lacks 10)) (sym s.1.2)
    (each-append (Lacks 10) (head_lines head) (s.1.0 ++ codes "end" ∷ []) (head-lacks head s.0)
    (each-append (Lacks 10) s.1.0 (codes "end" ∷ []) (lines-lack head lines s.1.0 s.1.1) (lacks-tested 10 (codes "end") refl, tt)))

-- the text of a head, and behind it that of lines of events and `end`, is that of a schedule
pub schedule-found : (head : Head) (count size : ℕ) (text : List ℕ) (lines : List Line) → StandsInFront head count size text
    → EndsWith head lines (drop size text) → SpellsSchedule head lines text
schedule-found head count size text lines front ends = (
  head_lines head ++ (ends.0 ++ codes "end" ∷ []),
  (front.fits, (ends.0, ends.1, refl)),
  text-behind text (head_lines head) (ends.0 ++ codes "end" ∷ []) (drop size text) [] front.split (ends.2
      ∙ sym (append-nil (text_of (ends.0 ++ codes "end" ∷ []))))
      ∙ append-nil (text_of (head_lines head ++ (ends.0 ++ codes "end" ∷ []))),
)

-- where a head goes wrong, a schedule does
pub head-wrong : (text : List ℕ) (number : ℕ) → FirstBadHeadLine text number → FirstBadLine text number
head-wrong text number w = record {
  before = w.before;
  rest = w.rest;
  split = w.split;
  lines = w.lines;
  place = w.place;
  begun =
      let begun = w.begun in (
        begun.0 ++ codes "end" ∷ [],
        (
          begun.1.0,
          [],
          (
            begun.1.1,
            (
              [],
              tt,
              sym (append_assoc w.before begun.0 (codes "end" ∷ [])) ∙ ap (λ l. l ++ codes "end" ∷ []) begun.1.2,
            ),
          ),
        ),
      );
  unfinished = λ is. unfinished is.0.0 is.0.2.0 is.0.2.1.0 is.0.2.1.2;
  stuck = λ line after here lacks begun.
      let is = begun.1.2 in
      stuck line after here lacks begun.0 begun.1.0 is.0 is.1.0 is.1.2;
} where
  -- a head with more lines behind it than these would be another
  no-more : (g : Head) → FitsHead g → (line : List ℕ) (more : List (List ℕ)) → w.before ≡ head_lines g ++ line ∷ more → ⊥
  no-more g fits line more same =
      let begun = w.begun in
      nil-cons (sym (one-head g begun.1.0 (line ∷ more ++ begun.0) [] fits begun.1.1
      (sym (append_assoc (head_lines g) (line ∷ more) begun.0) ∙ ap (λ l. l ++ begun.0) (sym same) ∙ begun.1.2 ∙ sym (append-nil (head_lines begun.1.0)))).1)

  unfinished : (g : Head) → FitsHead g → (texts : List (List ℕ)) → w.before ≡ head_lines g ++ (texts ++ codes "end" ∷ []) → ⊥
  unfinished g fits [] same = no-more g fits (codes "end") [] same
  unfinished g fits (text ∷ texts) same = no-more g fits text (texts ++ codes "end" ∷ []) same

  stuck : (line after : List ℕ) → w.rest ≡ line ++ 10 ∷ after → Lacks 10 line → (more : List (List ℕ)) (g : Head) → FitsHead g → (texts : List (List ℕ))
      → w.before ++ line ∷ [] ++ more ≡ head_lines g ++ (texts ++ codes "end" ∷ []) → ⊥
  stuck line after here lacks more g fits texts same =
      by_part (parts w.before (head_lines g) (line ∷ more) (texts ++ codes "end" ∷ []) regrouped) where
        regrouped : w.before ++ line ∷ more ≡ head_lines g ++ (texts ++ codes "end" ∷ [])
        regrouped = sym (append_assoc w.before (line ∷ []) more) ∙ same

        longer : (part : List (List ℕ)) → head_lines g ≡ w.before ++ part → ⊥
        longer [] whole = w.unfinished (g, fits, sym (whole ∙ append-nil w.before))
        longer (next ∷ part) whole =
            let tail = append_cancel_left w.before (line ∷ more) (next ∷ part ++ (texts ++ codes "end" ∷ []))
            (regrouped ∙ ap (λ l. l ++ (texts ++ codes "end" ∷ [])) whole ∙ append_assoc w.before (next ∷ part) (texts ++ codes "end" ∷ [])) in
            w.stuck line after here lacks
            (part, (g, fits, append_assoc w.before (line ∷ []) part ∙ ap (λ l. w.before ++ l ∷ part) (first-same tail) ∙ sym whole))

        shorter : (part : List (List ℕ)) → w.before ≡ head_lines g ++ part → ⊥
        shorter [] whole = w.unfinished (g, fits, whole ∙ append-nil (head_lines g))
        shorter (next ∷ part) whole = no-more g fits next part whole

        by_part : ((part : List (List ℕ)) × (head_lines g ≡ w.before ++ part)) ⊎ ((part : List (List ℕ)) × (w.before ≡ head_lines g ++ part)) → ⊥
        by_part (inl p) = longer p.0 p.1
        by_part (inr p) = shorter p.0 p.1

-- lines of events go wrong where a schedule does
pub line-wrong : (head : Head) (count size : ℕ) (text : List ℕ) (number : ℕ) → StandsInFront head count size text
    → WrongLine head (count + 1) (drop size text) number → FirstBadLine text number
line-wrong head count size text number front w = record {
  before = head_lines head ++ w.read.texts;
  rest = w.rest;
  split = text-behind text (head_lines head) w.read.texts (drop size text) w.rest front.split w.read.split;
  lines = each-append (Lacks 10) (head_lines head) w.read.texts (head-lacks head front.fits) (lines-lack head w.lines w.read.texts w.read.spelled);
  place =
      let here = w.place in
      let many = as-many head w.lines w.read.texts w.read.spelled in
      let head_many = front.lines in
      let long = length-append (head_lines head) w.read.texts in omega arith;
  begun = (codes "end" ∷ [], (head, w.lines, (front.fits, (w.read.texts, w.read.spelled, append_assoc (head_lines head) w.read.texts (codes "end" ∷ [])))));
  unfinished = λ is.
      let whole = is.0.2 in
      let one = one-head head is.0.0 w.read.texts (whole.1.0 ++ codes "end" ∷ []) front.fits whole.0 whole.1.2 in
      not-ended head w.lines is.0.1 w.read.texts whole.1.0 w.read.spelled
      (subst (λ h. SpellsLines h is.0.1 whole.1.0) (sym one.0) whole.1.1) one.1;
  stuck = λ line after here lacks begun.
      let whole = begun.1.2 in
      let one = one-head head begun.1.0 (w.read.texts ++ line ∷ begun.0) (whole.1.0 ++ codes "end" ∷ []) front.fits whole.0
      (regrouped line begun.0 (whole.1.0 ++ codes "end" ∷ []) begun.1.0 whole.1.2) in
      let next = line-next head w.lines begun.1.1 w.read.texts whole.1.0 line begun.0 w.read.spelled
      (subst (λ h. SpellsLines h begun.1.1 whole.1.0) (sym one.0) whole.1.1) one.1 in
      w.stuck line after here lacks next.0 next.1;
} where
  regrouped : (line : List ℕ) (more end : List (List ℕ)) (g : Head) → head_lines head ++ w.read.texts ++ line ∷ [] ++ more ≡ head_lines g ++ end
      → head_lines head ++ (w.read.texts ++ line ∷ more) ≡ head_lines g ++ end
  regrouped line more end g same =
      sym (append_assoc (head_lines head) w.read.texts (line ∷ more)) ∙ sym (append_assoc (head_lines head ++ w.read.texts) (line ∷ []) more) ∙ same

-- bytes behind `end` are wrong in a schedule
pub end-wrong : (head : Head) (count size : ℕ) (text : List ℕ) (number : ℕ) → StandsInFront head count size text
    → WrongEnd head (count + 1) (drop size text) number → FirstBadLine text number
end-wrong head count size text number front w = record {
  before = head_lines head ++ (w.texts ++ codes "end" ∷ []);
  rest = w.rest;
  split = text-behind text (head_lines head) (w.texts ++ codes "end" ∷ []) (drop size text) w.rest front.split w.split;
  lines = whole-lacks head w.lines (head_lines head ++ (w.texts ++ codes "end" ∷ [])) is;
  place =
      let here = w.place in
      let many = as-many head w.lines w.texts w.spelled in
      let head_many = front.lines in
      let tail = length-append w.texts (codes "end" ∷ []) in
      let long = length-append (head_lines head) (w.texts ++ codes "end" ∷ []) in omega arith;
  begun = ([], (head, w.lines, subst (SpellsWhole head w.lines) (sym (append-nil (head_lines head ++ (w.texts ++ codes "end" ∷ [])))) is));
  unfinished = λ whole. w.more whole.1;
  stuck = λ line after here lacks begun.
      let whole = begun.1.2 in
      let one = one-head head begun.1.0 (w.texts ++ codes "end" ∷ line ∷ begun.0) (whole.1.0 ++ codes "end" ∷ []) front.fits whole.0
      (regrouped line begun.0 (whole.1.0 ++ codes "end" ∷ []) begun.1.0 whole.1.2) in
      nothing-next head w.lines begun.1.1 w.texts whole.1.0 line begun.0 w.spelled
      (subst (λ h. SpellsLines h begun.1.1 whole.1.0) (sym one.0) whole.1.1) one.1;
} where
  is : SpellsWhole head w.lines (head_lines head ++ (w.texts ++ codes "end" ∷ []))
  is = (front.fits, (w.texts, w.spelled, refl))

  regrouped : (line : List ℕ) (more ends : List (List ℕ)) (g : Head)
      → head_lines head ++ (w.texts ++ codes "end" ∷ []) ++ line ∷ [] ++ more ≡ head_lines g ++ ends
      → head_lines head ++ (w.texts ++ codes "end" ∷ line ∷ more) ≡ head_lines g ++ ends
  regrouped line more ends g same =
      ap (λ l. head_lines head ++ l) (sym (append_assoc w.texts (codes "end" ∷ []) (line ∷ more)))
      ∙ sym (append_assoc (head_lines head) (w.texts ++ codes "end" ∷ []) (line ∷ more))
      ∙ sym (append_assoc (head_lines head ++ (w.texts ++ codes "end" ∷ [])) (line ∷ []) more) ∙ same

nothing-left : (more : List (List ℕ)) (rest : List ℕ) → [] ≡ text_of more ++ rest → (more ≡ []) × (rest ≡ [])
nothing-left [] rest e = (refl, sym e)
nothing-left (line ∷ more) rest e =
    absurd (not-nil line 10 (text_of more ++ rest) (sym (append_assoc line (10 ∷ text_of more) rest) ∙ sym e))

-- a text that is a schedule goes wrong nowhere
pub schedule-right : (text : List ℕ) (number : ℕ) (head : Head) (lines : List Line) → SpellsSchedule head lines text → FirstBadLine text number → ⊥
schedule-right text number head lines s w =
    by_order (splits w.before s.0 w.rest [] w.lines (whole-lacks head lines s.0 s.1) (sym w.split ∙ s.2 ∙ sym (append-nil (text_of s.0)))) where
      shorter : (more : List (List ℕ)) → s.0 ≡ w.before ++ more → w.rest ≡ text_of more ++ [] → ⊥
      shorter [] same left = w.unfinished ((head, lines, subst (SpellsWhole head lines) (same ∙ append-nil w.before) s.1), left)
      shorter (line ∷ more) same left =
          wrong-stuck IsSchedule (λ before rest. IsSchedule before × (rest ≡ [])) text number w line more []
          (each-back (Lacks 10) w.before (line ∷ more) (subst (AllByRecursion (Lacks 10)) same (whole-lacks head lines s.0 s.1))) left
          ([], (head, lines, subst (SpellsWhole head lines) (same ∙ sym (append-nil (w.before ++ line ∷ more))) s.1))

      longer : (more : List (List ℕ)) → w.before ≡ s.0 ++ more → [] ≡ text_of more ++ w.rest → ⊥
      longer more same left =
          let none = nothing-left more w.rest left in
          w.unfinished ((head, lines, subst (SpellsWhole head lines) (sym (same ∙ ap (λ l. s.0 ++ l) none.0 ∙ append-nil s.0)) s.1), none.1)

      by_order : Splits w.before s.0 w.rest [] → ⊥
      by_order (inl p) = shorter p.0 p.1 p.2
      by_order (inr p) = longer p.0 p.1 p.2

-- a text is of one list of lines
one-whole : (xs ys : List (List ℕ)) → AllByRecursion (Lacks 10) xs → AllByRecursion (Lacks 10) ys → text_of xs ≡ text_of ys → xs ≡ ys
one-whole xs ys a b e = by_order (splits xs ys [] [] a b (append-nil (text_of xs) ∙ e ∙ sym (append-nil (text_of ys)))) where
  by_order : Splits xs ys [] [] → xs ≡ ys
  by_order (inl p) = sym (p.1 ∙ ap (λ l. xs ++ l) (nothing-left p.0 [] p.2).0 ∙ append-nil xs)
  by_order (inr p) = p.1 ∙ ap (λ l. ys ++ l) (nothing-left p.0 [] p.2).0 ∙ append-nil ys

-- a text is of one schedule
pub one-schedule : (g h : Head) (ls ms : List Line) (text : List ℕ) → SpellsSchedule g ls text → SpellsSchedule h ms text → (g ≡ h) × (ls ≡ ms)
one-schedule g h ls ms text s t =
    let whole = one-whole s.0 t.0 (whole-lacks g ls s.0 s.1) (whole-lacks h ms t.0 t.1) (sym s.2 ∙ t.2) in
    let one = one-head g h (s.1.1.0 ++ codes "end" ∷ []) (t.1.1.0 ++ codes "end" ∷ []) s.1.0 t.1.0 (sym s.1.1.2 ∙ whole ∙ t.1.1.2) in
    let texts = append_cancel_right s.1.1.0 t.1.1.0 (codes "end" ∷ []) one.1 in (
      one.0,
      one-list-spelled h ls ms t.1.1.0
          (subst (SpellsLines h ls) texts (subst (λ k. SpellsLines k ls s.1.1.0) one.0 s.1.1.1)) t.1.1.1,
    )

-- where lines of events go wrong, or bytes follow `end`, a schedule goes wrong
pub lines-wrong : (head : Head) (count size : ℕ) (text : List ℕ) (number : ℕ) → StandsInFront head count size text
    → WrongLine head (count + 1) (drop size text) number ⊎ WrongEnd head (count + 1) (drop size text) number → FirstBadLine text number
lines-wrong head count size text number front (inl w) = line-wrong head count size text number front w
lines-wrong head count size text number front (inr w) = end-wrong head count size text number front w

-- the one schedule that the text spells is read
pub schedule-only : (text : List ℕ) (head : Head) (lines : List Line) → SpellsSchedule head lines text → (r : Result Script ScriptFault)
    → Answers r (λ script. SpellsSchedule script.head script.lines text) (λ number. FirstBadLine text number)
    → Answers r (λ script. (script.head ≡ head) × (script.lines ≡ lines)) (λ number. ⊥)
schedule-only text head lines s (Ok script) said = one-schedule script.head head script.lines lines text said s
schedule-only text head lines s (Err (Bad number)) said = schedule-right text number head lines s said
schedule-only text head lines s (Err Memory) said = tt

-- the first line that is wrong is the one that is named
pub schedule-bad : (text : List ℕ) (number : ℕ) → FirstBadLine text number → (r : Result Script ScriptFault)
    → Answers r (λ script. SpellsSchedule script.head script.lines text) (λ place. FirstBadLine text place)
    → Answers r (λ script. ⊥) (λ place. place ≡ number)
schedule-bad text number w (Ok script) said = schedule-right text number script.head script.lines said w
schedule-bad text number w (Err (Bad place)) said = wrong-once IsSchedule (λ before rest. IsSchedule before × (rest ≡ [])) text place number said w
schedule-bad text number w (Err Memory) said = tt

spelled-lines : (head : Head) (events : List Event) (texts : List (List ℕ)) → AreSpelled head events texts → SpellsLines head (map once events) texts
spelled-lines head [] [] s = tt
spelled-lines head [] (text ∷ texts) s = absurd s
spelled-lines head (event ∷ events) [] s = absurd s
spelled-lines head (event ∷ events) (text ∷ texts) s = (tt, (s.0, s.1), spelled-lines head events texts s.2)

-- what is printed of a head and events is the text of their schedule
pub printed-again : (head : Head) (events : List Event) (texts : List (List ℕ)) → FitsHead head → AreSpelled head events texts
    → SpellsSchedule head (map once events) (text_of (head_lines head) ++ (text_of texts ++ codes "end\n"))
printed-again head events texts fits s = (
  head_lines head ++ (texts ++ codes "end" ∷ []),
  (fits, (texts, spelled-lines head events texts s, refl)),
  sym (text_of-append (head_lines head) (texts ++ codes "end" ∷ [])
      ∙ ap (λ t. text_of (head_lines head) ++ t) (text_of-append texts (codes "end" ∷ []))),
)
