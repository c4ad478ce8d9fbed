-- Which call has to report a loss, and that it does.
use Rattle.std.proofs.Common.{◌≡◌, ◌<◌, ◌≤◌, ℕ, zero, suc, ◌+◌, ◌-◌, Bool, true, false, not, ◌&&◌, ◌||◌, List, [], ◌∷◌, length, take, drop, reverse}
use Rattle.std.proofs.Common.{Option, Some, None, inl, inr, refl, sym, ◌∙◌, ap, subst, arith}
use Rattle.std.specs.Prelude.{nat_eq, if◌then◌else◌, Result, Ok, Err, OnOk}
use Rattle.std.specs.List.{slice_get}
use Rattle.std.proofs.lemmas.Bool.{and_parts, and_from, cases_Bool, cases_lt, eqb-true}
use Rattle.std.proofs.lemmas.Option.{slice_get_cases, slice_get_within}
use Rattle.nq_base.specs.declared.Entry.{Entry}
use Rattle.nq_base.specs.declared.Entry.TheVariants.{C, A}
use Rattle.nq_base.specs.declared.Loss.{Loss}
use Rattle.nq_base.specs.declared.Said.TheVariants.{Lost}
use Rattle.nq_base.specs.declared.Told.{Told}
use Rattle.nq_base.specs.declared.Who.{Who}
use Rattle.nq_check.specs.Fronts.{keeps_at}
use Rattle.nq_rules.specs.Marks.{IsMarked, Spot, mark_at, same_spot, spot}
use Rattle.nq_rules.specs.Named.{is_named_at_once, is_reported}
use Rattle.nq_check.specs.Reports.{AreNext, IsReportKey, TakesReport, answers}
use Rattle.nq_check.specs.Tables.{NoneBetween}
use Rattle.nq_check.specs.declared.rules.Rule.TheVariants.{Ordered}
use Rattle.nq_check.proofs.Spots.{same_self}
use Rattle.nq_rules.proofs.Places.{drop_here, taken_here}
use Rattle.nq_model.specs.laws.JournalTest.{exists, is_answer}
use Rattle.nq_model.specs.laws.OrderedTest.{is_in_order}
use Rattle.nq_model.specs.laws.ReportedTest.{is_busy_answer, is_reporting, must_report, names}
use Rattle.nq_model.specs.protocol.Table.{same_who}
use Rattle.nq_model.proofs.JournalTests.{tells_who}

some_one : {X : Type 0} (x y : X) → Some x ≡ Some y → x ≡ y
some_one x y e = cc

none_of : (b : Bool) → (b ≡ true → ⊥) → b ≡ false
none_of true f = absurd (f refl)
none_of false f = refl

-- ---- the key of a call that reports

pub busy_key : (whole : List Entry) (by : Who) (q : ℕ) (told : Told) → exists (is_busy_answer by q) whole ≡ true → IsReportKey whole (C by q told) None
busy_key whole by q told busy who file h =
    let p = and_parts (same_who by who && is_reporting file told) (not (exists (is_busy_answer who q) whole)) h in
    let w = and_parts (same_who by who) (is_reporting file told) p.0 in
    let same : by ≡ who = tells_who.sound w.0 in
    let is_busy : exists (is_busy_answer who q) whole ≡ true = subst (λ z. exists (is_busy_answer z q) whole ≡ true) same busy in
    let wrong : false ≡ true = sym (ap not is_busy) ∙ p.1 in
    absurd (cc)

-- ---- what has to report next

at_place : (whole : List Entry) (k place : ℕ) (x entry : Entry) → place ≡ k → slice_get whole k ≡ Some x → slice_get whole place ≡ Some entry → x ≡ entry
at_place whole k place x entry same e there =
    let at_k : slice_get whole k ≡ Some entry = subst (λ i. slice_get whole i ≡ Some entry) same there in
    some_one x entry (sym e ∙ at_k)

-- from the place of an entry that has not to report
one_before : (test : Entry → Bool) (whole : List Entry) (k to : ℕ) (x : Entry) → slice_get whole k ≡ Some x → test x ≡ false
    → NoneBetween test whole (k + 1) to → NoneBetween test whole k to
one_before test whole k to x e f none place entry a b there =
    elim (cases_lt k place) [
      | inl l ↦ none place entry (omega arith) b there
      | inr most ↦ subst (λ y. test y ≡ false) (at_place whole k place x entry (omega arith) e there) f
    ]

nothing : (test : Entry → Bool) (whole : List Entry) (from to : ℕ) → to ≤ from → NoneBetween test whole from to
nothing test whole from to h place entry a b there = absurd (omega arith)

pub takes_none : (whole : List Entry) (place : ℕ) (x : Entry) (marks : List (Spot × ℕ)) (key : Option Spot) → key ≡ None
    → slice_get whole place ≡ Some x → IsReportKey (reverse whole) x key → TakesReport whole place marks marks
takes_none whole place x marks key nil e known next who file =
    let quiet : must_report (reverse whole) who file x ≡ false =
    none_of (must_report (reverse whole) who file x) (λ t. let wrong : None ≡ Some (spot who file 0) = sym nil ∙ known who file t in absurd (cc)) in
    one_before (must_report (reverse whole) who file) whole place (length whole - mark_at marks (spot who file 0)) x e quiet (next who file)

pub takes_some : (whole : List Entry) (place : ℕ) (x : Entry) (old new : List (Spot × ℕ)) (key : Option Spot) (at : Spot) → key ≡ Some at
    → place < length whole → slice_get whole place ≡ Some x → IsReportKey (reverse whole) x key → IsMarked at (length whole - place) old new
    → TakesReport whole place old new
takes_some whole place x old new key at is within e known marked next who file =
    elim (cases_Bool (same_spot at (spot who file 0))) [
      | inl y ↦
          let here : mark_at new (spot who file 0) ≡ length whole - place =
          marked (spot who file 0) ∙ ap (λ b. if b then length whole - place else mark_at old (spot who file 0)) y in
          nothing (must_report (reverse whole) who file) whole place (length whole - mark_at new (spot who file 0)) (omega arith)
      | inr f ↦
          let same : mark_at new (spot who file 0) ≡ mark_at old (spot who file 0) =
          marked (spot who file 0) ∙ ap (λ b. if b then length whole - place else mark_at old (spot who file 0)) f in
          let quiet : must_report (reverse whole) who file x ≡ false =
          none_of (must_report (reverse whole) who file x) (λ t.
          let its : at ≡ spot who file 0 = some_one at (spot who file 0) (sym is ∙ known who file t) in
          let yes : same_spot at (spot who file 0) ≡ true = subst (λ s. same_spot at s ≡ true) its (same_self at) in
          let wrong : true ≡ false = sym yes ∙ f in
          absurd (cc)) in
          subst (λ m. NoneBetween (must_report (reverse whole) who file) whole place (length whole - m)) (sym same)
          (one_before (must_report (reverse whole) who file) whole place (length whole - mark_at old (spot who file 0)) x e quiet (next who file))
    ]

-- what a mark tells of a key
pub next_free : (whole : List Entry) (left : ℕ) (marks : List (Spot × ℕ)) (who : Who) (file : ℕ) (key : Spot) (head call : ℕ) → AreNext whole left marks
    → key ≡ spot who file 0 → head ≡ mark_at marks key → call ≡ length whole - head → NoneBetween (must_report (reverse whole) who file) whole left call
next_free whole left marks who file key head call next is_key is_head is_call =
    let is : call ≡ length whole - mark_at marks (spot who file 0) = is_call ∙ ap (λ n. length whole - n) (is_head ∙ ap (λ k. mark_at marks k) is_key) in
    subst (λ k. NoneBetween (must_report (reverse whole) who file) whole left k) (sym is) (next who file)

-- what is told of a result that is Ok
pub on_ok : {X E : Type 0} (r : Result X E) (P Q : Type 0) → (P → Q) → OnOk r P → OnOk r Q
on_ok (Ok x) P Q f h = f h
on_ok (Err e) P Q f h = tt

-- a place that is counted from 1
pub next_before : (whole : List Entry) (left : ℕ) (marks : List (Spot × ℕ)) → 0 < left → AreNext whole left marks → AreNext whole ((left - 1) + 1) marks
next_before whole left marks up h =
    let same : left ≡ (left - 1) + 1 = omega arith in
    subst (λ k. AreNext whole k marks) same h

-- behind the last entry
pub none_next : (whole : List Entry) (left : ℕ) (marks : List (Spot × ℕ)) → left ≡ length whole → AreNext whole left marks
none_next whole left marks e who file place entry a b there = absurd (omega arith)

-- ---- a loss is reported

or_last : (a b : Bool) → b ≡ true → (a || b) ≡ true
or_last true b h = refl
or_last false b h = h

one_past : (all before : List Entry) (who : Who) (loss : Loss) (x : Entry) (after : List Entry) → must_report all who loss.file x ≡ false
    → is_reported all (x ∷ before) who loss after ≡ true → is_reported all before who loss (x ∷ after) ≡ true
one_past all before who loss x after f h =
    and_from (not (must_report all who loss.file x) || is_named_at_once all before who loss x after)
    (must_report all who loss.file x || (names all who loss x || is_reported all (x ∷ before) who loss after))
    (ap (λ b. not b || is_named_at_once all before who loss x after) f)
    (or_last (must_report all who loss.file x) (names all who loss x || is_reported all (x ∷ before) who loss after)
    (or_last (names all who loss x) (is_reported all (x ∷ before) who loss after) h))

past_all : (whole : List Entry) (who : Who) (loss : Loss) (n from : ℕ) → NoneBetween (must_report (reverse whole) who loss.file) whole from (from + n)
    → from + n ≤ length whole → is_reported (reverse whole) (reverse (take (from + n) whole)) who loss (drop (from + n) whole) ≡ true
    → is_reported (reverse whole) (reverse (take from whole)) who loss (drop from whole) ≡ true
past_all whole who loss zero from none l h =
    let same : from + 0 ≡ from = omega arith in
    subst (λ k. is_reported (reverse whole) (reverse (take k whole)) who loss (drop k whole) ≡ true) same h
past_all whole who loss (suc n) from none l h =
    let same : from + suc n ≡ (from + 1) + n = omega arith in
    let rest : is_reported (reverse whole) (reverse (take (from + 1) whole)) who loss (drop (from + 1) whole) ≡ true =
    past_all whole who loss n (from + 1) (λ place entry a b there. none place entry (omega arith) (omega arith) there) (omega arith)
    (subst (λ k. is_reported (reverse whole) (reverse (take k whole)) who loss (drop k whole) ≡ true) same h) in
    elim (slice_get_cases whole from).1 [
      | inl there ↦
          let x = there.0 in
          subst (λ l. is_reported (reverse whole) (reverse (take from whole)) who loss l ≡ true) (sym (drop_here whole from x there.2))
          (one_past (reverse whole) (reverse (take from whole)) who loss x (drop (from + 1) whole) (none from x (omega arith) (omega arith) there.2)
          (subst (λ l. is_reported (reverse whole) l who loss (drop (from + 1) whole) ≡ true) (taken_here whole from x there.2) rest))
      | inr out ↦ absurd (omega arith)
    ]

-- up to a place no entry has to report it
past : (whole : List Entry) (who : Who) (loss : Loss) (from to : ℕ) → from ≤ to → to ≤ length whole
    → NoneBetween (must_report (reverse whole) who loss.file) whole from to
    → is_reported (reverse whole) (reverse (take to whole)) who loss (drop to whole) ≡ true
    → is_reported (reverse whole) (reverse (take from whole)) who loss (drop from whole) ≡ true
past whole who loss from to a b none h =
    let up : to ≡ from + (to - from) = omega arith in
    past_all whole who loss (to - from) from (subst (λ k. NoneBetween (must_report (reverse whole) who loss.file) whole from k) up none) (omega arith)
    (subst (λ k. is_reported (reverse whole) (reverse (take k whole)) who loss (drop k whole) ≡ true) up h)

named_now : (all before : List Entry) (who : Who) (loss : Loss) (x : Entry) (after : List Entry) → names all who loss x ≡ true
    → is_reported all before who loss (x ∷ after) ≡ true
named_now all before who loss (A by q (Lost spans)) after h = ap (λ b. b || is_reported all (A by q (Lost spans) ∷ before) who loss after) h
named_now all before who loss other after h = absurd (cc)

drop_all : {X : Type 0} (xs : List X) (k : ℕ) → length xs ≤ k → drop k xs ≡ []
drop_all [] zero h = refl
drop_all [] (suc k) h = refl
drop_all (x ∷ xs) zero h = absurd (omega arith)
drop_all (x ∷ xs) (suc k) h = drop_all xs k (omega arith)

-- no call has to
pub never_told : (whole : List Entry) (who : Who) (loss : Loss) (from to : ℕ) → from ≤ length whole → length whole ≤ to
    → NoneBetween (must_report (reverse whole) who loss.file) whole from to
    → is_reported (reverse whole) (reverse (take from whole)) who loss (drop from whole) ≡ true
never_told whole who loss from to a b none =
    past whole who loss from (length whole) a (omega arith) (λ place entry c d there. none place entry c (omega arith) there)
    (subst (λ l. is_reported (reverse whole) (reverse (take (length whole) whole)) who loss l ≡ true) (sym (drop_all whole (length whole) (omega arith))) refl)

-- an answer names it before one has to
pub told_before : (whole : List Entry) (who : Who) (loss : Loss) (from to at : ℕ) (x : Entry) → from ≤ at → at ≤ to → slice_get whole at ≡ Some x
    → names (reverse whole) who loss x ≡ true → NoneBetween (must_report (reverse whole) who loss.file) whole from to
    → is_reported (reverse whole) (reverse (take from whole)) who loss (drop from whole) ≡ true
told_before whole who loss from to at x a b there h none =
    let within : at < length whole = slice_get_within whole at x there in
    past whole who loss from at a (omega arith) (λ place entry c d e. none place entry c (omega arith) e)
    (subst (λ l. is_reported (reverse whole) (reverse (take at whole)) who loss l ≡ true) (sym (drop_here whole at x there))
    (named_now (reverse whole) (reverse (take at whole)) who loss x (drop (at + 1) whole) h))

-- the first answer of a call
at_once : (all behind before : List Entry) (who : Who) (loss : Loss) (x y : Entry) (after : List Entry) → answers x y ≡ true
    → names all who loss y ≡ true → is_in_order all behind y (x ∷ before) ≡ true → is_named_at_once all before who loss x (y ∷ after) ≡ true
at_once all behind before who loss (C by q told) (A other n said) after a h ordered =
    let p = and_parts (same_who other by) (nat_eq n q) a in
    let same : other ≡ by = tells_who.sound p.0 in
    let number : n ≡ q = eqb-true n q p.1 in
    let first : not (exists (is_answer by q) before) ≡ true =
    subst (λ z. not (exists (is_answer z q) before) ≡ true) same (subst (λ z. not (exists (is_answer other z) before) ≡ true) number ordered) in
    and_from (is_answer by q (A other n said) && names all who loss (A other n said)) (not (exists (is_answer by q) before))
    (and_from (is_answer by q (A other n said)) (names all who loss (A other n said)) a h) first
at_once all behind before who loss (C by q told) other after a h ordered = absurd (cc)
at_once all behind before who loss x y after a h ordered = absurd (cc)

called_now : (all before : List Entry) (who : Who) (loss : Loss) (x y : Entry) (after : List Entry) → names all who loss y ≡ true
    → is_named_at_once all before who loss x (y ∷ after) ≡ true → is_reported all before who loss (x ∷ y ∷ after) ≡ true
called_now all before who loss x y after h once =
    and_from (not (must_report all who loss.file x) || is_named_at_once all before who loss x (y ∷ after))
    (must_report all who loss.file x || (names all who loss x || is_reported all (x ∷ before) who loss (y ∷ after)))
    (or_last (not (must_report all who loss.file x)) (is_named_at_once all before who loss x (y ∷ after)) once)
    (or_last (must_report all who loss.file x) (names all who loss x || is_reported all (x ∷ before) who loss (y ∷ after))
    (or_last (names all who loss x) (is_reported all (x ∷ before) who loss (y ∷ after)) (named_now all (x ∷ before) who loss y after h)))

-- the call that has to is answered at once by an A that names it
pub told_at_once : (whole : List Entry) (who : Who) (loss : Loss) (from to : ℕ) (x y : Entry) → from ≤ to → slice_get whole to ≡ Some x
    → slice_get whole (to + 1) ≡ Some y → names (reverse whole) who loss y ≡ true → answers x y ≡ true → keeps_at Ordered whole (to + 1) y ≡ true
    → NoneBetween (must_report (reverse whole) who loss.file) whole from to
    → is_reported (reverse whole) (reverse (take from whole)) who loss (drop from whole) ≡ true
told_at_once whole who loss from to x y a there_x there_y h answered ordered none =
    let within : to < length whole = slice_get_within whole to x there_x in
    let in_order : is_in_order (reverse whole) (drop ((to + 1) + 1) whole) y (x ∷ reverse (take to whole)) ≡ true =
    subst (λ l. is_in_order (reverse whole) (drop ((to + 1) + 1) whole) y l ≡ true) (taken_here whole to x there_x) ordered in
    let rest : drop to whole ≡ x ∷ y ∷ drop ((to + 1) + 1) whole = drop_here whole to x there_x ∙ ap (λ l. x ∷ l) (drop_here whole (to + 1) y there_y) in
    past whole who loss from to a (omega arith) none
    (subst (λ l. is_reported (reverse whole) (reverse (take to whole)) who loss l ≡ true) (sym rest)
    (called_now (reverse whole) (reverse (take to whole)) who loss x y (drop ((to + 1) + 1) whole) h
    (at_once (reverse whole) (drop ((to + 1) + 1) whole) (reverse (take to whole)) who loss x y (drop ((to + 1) + 1) whole) answered h in_order)))
