-- The rules of the judge and the laws of the definitions agree in a journal that is ordered.
use Rattle.std.proofs.Common.{◌≡◌, ◌≤◌, ℕ, ◌+◌, Bool, true, false, not, ◌&&◌, ◌||◌, ◌==◌, List, [], ◌∷◌, Option, Some, None, refl, sym, ◌∙◌, ap, subst, arith}
use Rattle.std.specs.Prelude.{⊤, if◌then◌else◌, nat_le}
use mathlib.Core.Logic.{inl, inr}
use Rattle.std.proofs.lemmas.Bool.{and_parts, or_cases, eq-eqb, eqb-true, le-leb}
use Rattle.nq_base.specs.declared.Entry.{Entry}
use Rattle.nq_base.specs.declared.Entry.TheVariants.{C, W, R, L, A}
use Rattle.nq_base.specs.declared.Loss.{Loss}
use Rattle.nq_base.specs.declared.Said.TheVariants.{Ok, OkValue, OkBy, Lost}
use Rattle.nq_base.specs.declared.Told.{Told}
use Rattle.nq_base.specs.declared.Told.TheVariants.{Put}
use Rattle.nq_base.specs.declared.Who.{Who}
use Rattle.nq_model.specs.laws.Journal.{Throughout, AtEachPlace, call_of}
use Rattle.nq_model.specs.laws.JournalTest.{each, exists, number_of, somewhere, throughout, is_answer, is_call, is_counted, is_open, is_read_by, is_stored}
use Rattle.nq_model.specs.laws.JournalTest.{is_through}
use Rattle.nq_model.specs.laws.LegalTest.{is_counted_by, is_counted_with, is_legal_answer as is_legal_answer_by_law, is_legal_at as is_legal_at_by_law}
use Rattle.nq_model.specs.laws.LegalTest.{is_reading}
use Rattle.nq_model.specs.laws.OrderedTest.{is_before_call, is_in_order, is_no_other, is_numbered, is_read_in_order, is_write_in_order, is_write_of}
use Rattle.nq_model.specs.laws.OrderedTest.{open_call, writes}
use Rattle.nq_model.specs.laws.Reported.{loss_told}
use Rattle.nq_model.specs.laws.ReportedTest.{is_named_next, is_reported_in, must_report, names, is_reported_at as is_reported_by_law}
use Rattle.nq_model.specs.laws.SynchronizedTest.{is_kept as is_kept_by_law, is_kept_at as is_kept_at_by_law, is_put_kept as is_put_kept_by_law}
use Rattle.nq_model.specs.protocol.Table.{same_who}
use Rattle.nq_model.proofs.JournalTests.{tells_answer, tells_who}
use Rattle.nq_rules.specs.Kept.{is_kept, is_kept_at, is_put_kept}
use Rattle.nq_check.specs.Legal.{is_legal_answer, is_legal_at}
use Rattle.nq_rules.specs.Named.{is_named_at_once, is_reported, is_reported_at}

-- ---- what holds at each place, seen from a place

-- each entry after a place keeps a fact with what stands before it
abbrev pub Ahead : (List Entry → Entry → List Entry → Type 0) → (before after : List Entry) → Type 0
Ahead Fact before [] = ⊤
Ahead Fact before (entry ∷ after) = Fact after entry before × Ahead Fact (entry ∷ before) after

-- an entry stands in order
abbrev pub InOrder : (whole after : List Entry) → Entry → (before : List Entry) → Type 0
InOrder whole after entry before = is_in_order whole after entry before ≡ true

-- a write stands in order
abbrev pub WriteInOrder : Entry → (before : List Entry) → Type 0
WriteInOrder (W who file block number value through) before = is_write_in_order before who file block number value ≡ true
WriteInOrder other before = ⊤

write_there : (whole after : List Entry) (entry : Entry) (before : List Entry) → InOrder whole after entry before → WriteInOrder entry before
write_there whole after (W who file block number value through) before h = h
write_there whole after other before h = tt

pub writes_there : (whole after journal : List Entry) → AtEachPlace (InOrder whole) after journal → Throughout WriteInOrder journal
writes_there whole after [] h = tt
writes_there whole after (entry ∷ before) h = (write_there whole after entry before h.0, writes_there whole (entry ∷ after) before h.1)

-- ---- losses that are reported

and_true : (b : Bool) → (b && true) ≡ b
and_true true = refl
and_true false = refl

and_same : (a b c : Bool) → (a ≡ true → c ≡ true) → (a && b && c) ≡ (a && b)
and_same false b c f = refl
and_same true b c f = rw (f refl) (and_true b)

-- an answer that stands in order is the first of its call
first_answer : (whole : List Entry) (by : Who) (q : ℕ) (told : Told) (next : Entry) (before after : List Entry) → is_answer by q next ≡ true
    → is_in_order whole after next (C by q told ∷ before) ≡ true → not (exists (is_answer by q) before) ≡ true
first_answer whole by q told (A who n said) before after e o =
    let h = (tells_answer by q (A who n said)).sound e in
    let at : not (exists (is_answer by n) before) ≡ true = subst (λ (w : Who). not (exists (is_answer w n) before) ≡ true) h.0 o in
    subst (λ (m : ℕ). not (exists (is_answer by m) before) ≡ true) h.1 at
first_answer whole by q told other before after e o = absurd (cc)

named_same : (whole : List Entry) (who : Who) (loss : Loss) (entry : Entry) (before after : List Entry) → Ahead (InOrder whole) (entry ∷ before) after
    → is_named_at_once whole before who loss entry after ≡ is_named_next whole who loss entry after
named_same whole who loss (C by q told) before [] h = refl
named_same whole who loss (C by q told) before (next ∷ after) h =
    and_same (is_answer by q next) (names whole who loss next) (not (exists (is_answer by q) before))
    (λ e. first_answer whole by q told next before after e h.0)
named_same whole who loss other before after h = refl

reported_on : (whole : List Entry) (who : Who) (loss : Loss) (before after : List Entry) → Ahead (InOrder whole) before after
    → is_reported whole before who loss after ≡ is_reported_in whole who loss after
reported_on whole who loss before [] h = refl
reported_on whole who loss before (entry ∷ after) h =
    let once : is_named_at_once whole before who loss entry after ≡ is_named_next whole who loss entry after = named_same whole who loss entry before
    after h.1 in
    let rest : is_reported whole (entry ∷ before) who loss after ≡ is_reported_in whole who loss after = reported_on whole who loss (entry ∷ before)
    after h.1 in
    ap (λ n. (not (must_report whole who loss.file entry) || n) &&
    (must_report whole who loss.file entry || (names whole who loss entry || is_reported whole (entry ∷ before) who loss after))) once
    ∙ ap (λ r. (not (must_report whole who loss.file entry) || is_named_next whole who loss entry after) &&
    (must_report whole who loss.file entry || (names whole who loss entry || r))) rest

pub reported_same : (whole after : List Entry) (entry : Entry) (before : List Entry) → Ahead (InOrder whole) (entry ∷ before) after
    → is_reported_at whole after entry before ≡ is_reported_by_law whole after entry before
reported_same whole after (L who file block first last) before h =
    reported_on whole who (loss_told file block first last) (L who file block first last ∷ before) after h
reported_same whole after (A who q (Lost spans)) before h = refl
reported_same whole after other before h = refl

-- ---- puts that are kept

other_is : (s o e : Bool) → (not (s && o) || e) ≡ true → s ≡ true → o ≡ true → e ≡ true
other_is true true e h a b = h
other_is true false e h a b = absurd (cc)
other_is false o e h a b = absurd (cc)

only_at : (before : List Entry) (by : Who) (p q : ℕ) (entry : Entry) (entries : List Entry) → is_no_other before by p entry ≡ true
    → each (is_no_other before by p) entries ≡ true → is_open before by q ≡ true → is_call by q entry ≡ true → q ≡ p
only_at before by p q (C who n told) entries here none opened call =
    let h = and_parts (same_who who by) (n == q) call in
    let same : n ≡ q = eqb-true n q h.1 in
    let open_n : is_open before by n ≡ true = subst (λ (m : ℕ). is_open before by m ≡ true) (sym same) opened in
    let at : n ≡ p = eqb-true n p (other_is (same_who who by) (is_open before by n) (n == p) here h.0 open_n) in
    sym same ∙ at
only_at before by p q other entries here none opened call = absurd (cc)

-- where another open call would have to be this one, an open call is this one
only_here : (before : List Entry) (by : Who) (p q : ℕ) (entries : List Entry) → each (is_no_other before by p) entries ≡ true
    → exists (is_call by q) entries ≡ true → is_open before by q ≡ true → q ≡ p
only_here before by p q [] none call opened = absurd (cc)
only_here before by p q (entry ∷ entries) none call opened =
    let h = and_parts (is_no_other before by p entry) (each (is_no_other before by p) entries) none in
    elim (or_cases (is_call by q entry) (exists (is_call by q) entries) call) [
      | inl here ↦ only_at before by p q entry entries h.0 h.1 opened here
      | inr there ↦ only_here before by p q entries h.1 there opened
    ]

-- the facts of a write's one opened call
abbrev WritesAlone : (before : List Entry) (by : Who) (file block value q : ℕ) → Bool
WritesAlone before by file block value q = each (is_no_other before by q) before && writes file block value (call_of before by q)

of_call : (before : List Entry) (by : Who) (file block number value : ℕ) (found : Option ℕ) → is_write_of before by file block number value found ≡ true
    → (q : ℕ) → is_open before by q ≡ true → WritesAlone before by file block value q ≡ true
of_call before by file block number value None h q opened = absurd (cc)
of_call before by file block number value (Some p) h q opened =
    let fresh = not (exists (is_numbered by number) before) in
    let first = throughout (is_before_call by p) before in
    let h1 = and_parts (WritesAlone before by file block value p && first) fresh h in
    let h2 = and_parts (WritesAlone before by file block value p) first h1.0 in
    let h3 = and_parts (each (is_no_other before by p) before) (writes file block value (call_of before by p)) h2.0 in
    let called = and_parts (exists (is_call by q) before) (not (exists (is_answer by q) before)) opened in
    let same : q ≡ p = only_here before by p q before h3.0 called.0 opened in
    subst (λ (m : ℕ). WritesAlone before by file block value m ≡ true) (sym same) h2.0

middle : (s o a w k : Bool) → (s ≡ true → o ≡ true → (a && w) ≡ true) → ((((s && o) && a) && w) && k) ≡ ((s && o) && k)
middle false o a w k f = refl
middle true false a w k f = refl
middle true true a w k f = let h = and_parts a w (f refl refl) in rw (h.0, h.1) refl

alone_by : (before : List Entry) (who by : Who) (file block number value q : ℕ) → is_write_in_order before by file block number value ≡ true
    → same_who by who ≡ true → is_open before who q ≡ true → WritesAlone before who file block value q ≡ true
alone_by before who by file block number value q h s opened =
    let e : who ≡ by = sym ((tells_who {a = by} {b = who}).sound s) in
    let open_by : is_open before by q ≡ true = subst (λ (w : Who). is_open before w q ≡ true) e opened in
    subst (λ (w : Who). WritesAlone before w file block value q ≡ true) (sym e)
    (of_call before by file block number value (open_call before by before) h q open_by)

put_same : (answered : List Entry) (who : Who) (q : ℕ) (entry : Entry) (before : List Entry) → WriteInOrder entry before
    → is_put_kept answered who q entry before ≡ is_put_kept_by_law answered who q entry before
put_same answered who q (W by file block number value through) before h =
    middle (same_who by who) (is_open before who q) (each (is_no_other before who q) before) (writes file block value (call_of before who q))
    (is_through (W by file block number value through) || is_stored answered (W by file block number value through))
    (alone_by before who by file block number value q h)
put_same answered who q other before h = refl

somewhere_same : (f g : Entry → List Entry → Bool) (Fact : Entry → List Entry → Type 0)
    → ((entry : Entry) (before : List Entry) → Fact entry before → f entry before ≡ g entry before) → (journal : List Entry) → Throughout Fact journal
    → somewhere f journal ≡ somewhere g journal
somewhere_same f g Fact same [] h = refl
somewhere_same f g Fact same (entry ∷ before) h =
    ap (λ x. x || somewhere f before) (same entry before h.0) ∙ ap (λ x. g entry before || x) (somewhere_same f g Fact same before h.1)

kept_call : (whole before : List Entry) (who : Who) (q : ℕ) (call : Option Told) → Throughout WriteInOrder before
    → is_kept whole before who q call ≡ is_kept_by_law whole before who q call
kept_call whole before who q (Some (Put file block value)) h =
    somewhere_same (is_put_kept before who q) (is_put_kept_by_law before who q) WriteInOrder (put_same before who q) before h
kept_call whole before who q other h = refl

pub kept_same : (whole : List Entry) (entry : Entry) (before : List Entry) → Throughout WriteInOrder before
    → is_kept_at whole entry before ≡ is_kept_at_by_law whole entry before
kept_same whole (A who q Ok) before h = kept_call whole before who q (call_of whole who q) h
kept_same whole (A who q (OkValue value)) before h = kept_call whole before who q (call_of whole who q) h
kept_same whole (A who q (OkBy value packet)) before h = kept_call whole before who q (call_of whole who q) h
kept_same whole other before h = refl

-- ---- answers to reads

none_if : (b e : Bool) (n : ℕ) → not (b || e) ≡ true → (not e ≡ true → n ≡ 0) → (if b then 1 + n else n) ≡ 0
none_if true e n h f = absurd (cc)
none_if false e n h f = f h

none_of : (test : Entry → Bool) (xs : List Entry) → not (exists test xs) ≡ true → number_of test xs ≡ 0
none_of test [] h = refl
none_of test (x ∷ xs) h = none_if (test x) (exists test xs) (number_of test xs) h (none_of test xs)

some_if : (b e : Bool) (n : ℕ) → (b || e) ≡ true → (e ≡ true → 1 ≤ n) → 1 ≤ (if b then 1 + n else n)
some_if true e n h f = omega arith
some_if false e n h f = f h

some_of : (test : Entry → Bool) (xs : List Entry) → exists test xs ≡ true → 1 ≤ number_of test xs
some_of test [] h = absurd (cc)
some_of test (x ∷ xs) h = some_if (test x) (exists test xs) (number_of test xs) h (some_of test xs)

one_if : (b : Bool) (n : ℕ) → n ≤ 1 → (b ≡ true → n ≡ 0) → (if b then 1 + n else n) ≤ 1
one_if true n l f = let none : n ≡ 0 = f refl in omega arith
one_if false n l f = l

fewer_if : (a b : Bool) (n m : ℕ) → (a ≡ true → b ≡ true) → n ≤ m → (if a then 1 + n else n) ≤ (if b then 1 + m else m)
fewer_if true true n m f l = omega arith
fewer_if true false n m f l = absurd (let t = f refl in cc)
fewer_if false true n m f l = omega arith
fewer_if false false n m f l = l

fewer : (t u : Entry → Bool) (xs : List Entry) → ((x : Entry) → t x ≡ true → u x ≡ true) → number_of t xs ≤ number_of u xs
fewer t u [] f = omega arith
fewer t u (x ∷ xs) f = fewer_if (t x) (u x) (number_of t xs) (number_of u xs) (f x) (fewer t u xs f)

or_second : (a b : Bool) → (not a || b) ≡ true → a ≡ true → b ≡ true
or_second true b h t = h
or_second false b h t = absurd (cc)

-- a counted read that stands in order is the first of its call
counted_first : (whole after : List Entry) (who : Who) (q : ℕ) (entry : Entry) (before : List Entry) → is_in_order whole after entry before ≡ true
    → is_counted_by whole who q entry ≡ true → number_of (is_counted_by whole who q) before ≡ 0
counted_first whole after who q (R by n file block value served) before o e =
    let read : Entry = R by n file block value served in
    let h = and_parts (is_read_by who q read) (is_counted whole read) e in
    let r = and_parts (same_who by who) (n == q) h.0 in
    let w : by ≡ who = (tells_who {a = by} {b = who}).sound r.0 in
    let m : n ≡ q = eqb-true n q r.1 in
    let in_order = or_second (is_counted whole read) (is_read_in_order whole before by n) o h.1 in
    let none : not (exists (is_counted_by whole by n) before) ≡ true =
    (and_parts (is_open before by n) (not (exists (is_counted_by whole by n) before)) in_order).1 in
    let of_who = subst (λ (z : Who). not (exists (is_counted_by whole z n) before) ≡ true) w none in
    none_of (is_counted_by whole who q) before (subst (λ (k : ℕ). not (exists (is_counted_by whole who k) before) ≡ true) m of_who)
counted_first whole after who q other before o e = absurd (cc)

one_counted : (whole after journal : List Entry) (who : Who) (q : ℕ) → AtEachPlace (InOrder whole) after journal
    → number_of (is_counted_by whole who q) journal ≤ 1
one_counted whole after [] who q h = omega arith
one_counted whole after (entry ∷ before) who q h =
    one_if (is_counted_by whole who q entry) (number_of (is_counted_by whole who q) before)
    (one_counted whole (entry ∷ after) before who q h.1) (counted_first whole after who q entry before h.0)

with_by : (whole : List Entry) (who : Who) (q value : ℕ) (entry : Entry) → is_counted_with whole who q value entry ≡ true
    → is_counted_by whole who q entry ≡ true
with_by whole who q value (R by n file block v served) h = (and_parts (v == value) (is_counted_by whole who q (R by n file block v served)) h).1
with_by whole who q value other h = absurd (cc)

-- where a call has one counted read at most, that is of a value where exactly one is
one_with : (found : Bool) (own all : ℕ) → own ≤ all → all ≤ 1 → (found ≡ true → 1 ≤ own) → (not found ≡ true → own ≡ 0) → (own == 1) ≡ (found && nat_le all 1)
one_with true own all l m some none =
    let least : 1 ≤ own = some refl in
    let one : own ≡ 1 = omega arith in
    eq-eqb own 1 one ∙ sym (le-leb all 1 m)
one_with false own all l m some none = let zero : own ≡ 0 = none refl in rw zero refl

answer_same : (whole : List Entry) (who : Who) (q value : ℕ) → AtEachPlace (InOrder whole) [] whole
    → is_legal_answer whole who q value ≡ is_legal_answer_by_law whole who q value
unfolding is_legal_answer
answer_same whole who q value h =
    one_with (exists (is_counted_with whole who q value) whole) (number_of (is_counted_with whole who q value) whole)
    (number_of (is_counted_by whole who q) whole)
    (fewer (is_counted_with whole who q value) (is_counted_by whole who q) whole (with_by whole who q value))
    (one_counted whole [] whole who q h)
    (some_of (is_counted_with whole who q value) whole)
    (none_of (is_counted_with whole who q value) whole)

pub legal_same : (whole : List Entry) (entry : Entry) (before : List Entry) → AtEachPlace (InOrder whole) [] whole
    → is_legal_at whole entry before ≡ is_legal_at_by_law whole entry before
legal_same whole (A who q (OkValue value)) before h = ap (λ b. not (is_reading (call_of whole who q)) || b) (answer_same whole who q value h)
legal_same whole (A who q (OkBy value packet)) before h = ap (λ b. not (is_reading (call_of whole who q)) || b) (answer_same whole who q value h)
legal_same whole other before h = refl

-- ---- both, at each place

-- the judge and the laws say the same of an entry
pub record Same (whole after : List Entry) (entry : Entry) (before : List Entry) : Type 0 where
  pub reported : is_reported_at whole after entry before ≡ is_reported_by_law whole after entry before
  pub kept : is_kept_at whole entry before ≡ is_kept_at_by_law whole entry before

pub all_same : (whole after journal : List Entry) → AtEachPlace (InOrder whole) after journal → Ahead (InOrder whole) journal after
    → AtEachPlace (Same whole) after journal
all_same whole after [] h ahead = tt
all_same whole after (entry ∷ before) h ahead = (
  record {
    reported = reported_same whole after entry before ahead;
    kept = kept_same whole entry before (writes_there whole (entry ∷ after) before h.1);
  },
  all_same whole (entry ∷ after) before h.1 (h.0, ahead),
)
