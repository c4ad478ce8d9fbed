-- What answers name is named anew, and has a mark.
use Rattle.std.proofs.Common.{◌≡◌, ◌<◌, ◌≤◌, ℕ, zero, suc, ◌+◌, Bool, true, false, not, ◌&&◌, ◌||◌, List, [], ◌∷◌, length, take, drop, reverse}
use Rattle.std.proofs.Common.{Option, Some, inl, inr, refl, sym, ◌∙◌, ap, subst, arith}
use Rattle.std.specs.Prelude.{nat_eq, if◌then◌else◌, IsTrue, Result, Ok, Err, IfOk}
use Rattle.std.specs.List.{slice_get}
use Rattle.std.proofs.lemmas.Bool.{and_parts, and_from, cases_Bool, eqb-true}
use Rattle.nq_base.specs.declared.Entry.{Entry}
use Rattle.nq_base.specs.declared.Entry.TheVariants.{L, A}
use Rattle.nq_base.specs.declared.Said.TheVariants.{Lost}
use Rattle.nq_base.specs.declared.Span.{Span}
use Rattle.nq_base.specs.declared.Told.{Told}
use Rattle.nq_base.specs.declared.Who.{Who}
use Rattle.nq_rules.specs.Marks.{IsMarked, Spot, mark_at, same_spot}
use Rattle.nq_check.specs.Namings.{HasMark, HasNoMark, IsNamed, KeepsMarks, NamesAll, NamesAnew, NamesLost, NamesUpTo, is_lost_as, loss_spot}
use Rattle.nq_check.proofs.Spots.{marked_there}
use Rattle.nq_rules.proofs.Places.{drop_here}
use Rattle.nq_model.specs.laws.Journal.{Each, call_of}
use Rattle.nq_model.specs.laws.JournalTest.{exists, speaks_of}
use Rattle.nq_model.specs.laws.Reported.{loss_told}
use Rattle.nq_model.specs.laws.ReportedTest.{is_name_of, is_same_span, is_unnamed, name_losses, names}
use Rattle.nq_model.specs.protocol.Table.{same_who}
use Rattle.nq_model.proofs.JournalTests.{tells_who}

none_of : (b : Bool) → (b ≡ true → ⊥) → b ≡ false
none_of true f = absurd (f refl)
none_of false f = refl

-- ---- a mark more

-- a mark that is set stays one
pub marks_kept : (at : Spot) (n : ℕ) (old new : List (Spot × ℕ)) → 0 < n → IsMarked at n old new → KeepsMarks old new
marks_kept at n old new up h key some =
    elim (cases_Bool (same_spot at key)) [
      | inl y ↦
          let here : mark_at new key ≡ n = h key ∙ ap (λ b. if b then n else mark_at old key) y in
          omega arith
      | inr f ↦
          let here : mark_at new key ≡ mark_at old key = h key ∙ ap (λ b. if b then n else mark_at old key) f in
          omega arith
    ]

unequal : (n : ℕ) → nat_eq n 0 ≡ false → 0 < n
unequal zero h = absurd (cc)
unequal (suc n) h = omega arith

none_kept : (old new : List (Spot × ℕ)) → KeepsMarks old new → (who : Who) (span : Span) → HasNoMark new who span → HasNoMark old who span
none_kept old new keeps who span h =
    let up = keeps (loss_spot who span.first span.last) in
    elim (cases_Bool (nat_eq (mark_at old (loss_spot who span.first span.last)) 0)) [
      | inl y ↦ eqb-true (mark_at old (loss_spot who span.first span.last)) 0 y
      | inr f ↦ absurd (let more = up (unequal (mark_at old (loss_spot who span.first span.last)) f) in omega arith)
    ]

each_kept : (old new : List (Spot × ℕ)) → KeepsMarks old new → (who : Who) (spans : List Span) → Each (HasNoMark new who) spans
    → Each (HasNoMark old who) spans
each_kept old new keeps who [] h = tt
each_kept old new keeps who (span ∷ spans) h = (none_kept old new keeps who span h.0, each_kept old new keeps who spans h.1)

marked_kept : (old new : List (Spot × ℕ)) → KeepsMarks old new → (who : Who) (spans : List Span) → Each (HasMark old who) spans → Each (HasMark new who) spans
marked_kept old new keeps who [] h = tt
marked_kept old new keeps who (span ∷ spans) h = (keeps (loss_spot who span.first span.last) h.0, marked_kept old new keeps who spans h.1)

entry_kept : (old new : List (Spot × ℕ)) → KeepsMarks old new → (entry : Entry) → IsNamed old entry → IsNamed new entry
entry_kept old new keeps (A who q (Lost spans)) h = marked_kept old new keeps who spans.items h
entry_kept old new keeps other h = tt

before_kept : (old new : List (Spot × ℕ)) → KeepsMarks old new → (before : List Entry) → Each (IsNamed old) before → Each (IsNamed new) before
before_kept old new keeps [] h = tt
before_kept old new keeps (entry ∷ before) h = (entry_kept old new keeps entry h.0, before_kept old new keeps before h.1)

-- ---- what has no mark is not named

-- numbers of a loss and of a span that names it
same_numbers : (file block first last : ℕ) (span : Span) → is_name_of (loss_told file block first last) span ≡ true → (span.first ≡ first) × (span.last ≡ last)
same_numbers file block first last span h =
    let p = and_parts (nat_eq span.block block && nat_eq span.first first) (nat_eq span.last last) h in
    let q = and_parts (nat_eq span.block block) (nat_eq span.first first) p.0 in
    (eqb-true span.first first q.1, eqb-true span.last last p.1)

moved : (marks : List (Spot × ℕ)) (who : Who) (a b c d : ℕ) → a ≡ b → c ≡ d → 0 < mark_at marks (loss_spot who a c) → 0 < mark_at marks (loss_spot who b d)
moved marks who a b c d e f h = subst (λ n. 0 < mark_at marks (loss_spot who n d)) e (subst (λ n. 0 < mark_at marks (loss_spot who a n)) f h)

some_marked : (marks : List (Spot × ℕ)) (who : Who) (file block first last : ℕ) (spans : List Span) → Each (HasMark marks who) spans
    → exists (is_name_of (loss_told file block first last)) spans ≡ true → 0 < mark_at marks (loss_spot who first last)
some_marked marks who file block first last [] m h = absurd (cc)
some_marked marks who file block first last (span ∷ spans) m h =
    elim (cases_Bool (is_name_of (loss_told file block first last) span)) [
      | inl y ↦
          let same = same_numbers file block first last span y in
          moved marks who span.first first span.last last same.0 same.1 m.0
      | inr f ↦ some_marked marks who file block first last spans m.1 (sym (ap (λ b. b || exists (is_name_of (loss_told file block first last)) spans) f) ∙ h)
    ]

named_one : (marks : List (Spot × ℕ)) (whole : List Entry) (who : Who) (file block first last : ℕ) (entry : Entry) → IsNamed marks entry
    → names whole who (loss_told file block first last) entry ≡ true → 0 < mark_at marks (loss_spot who first last)
named_one marks whole who file block first last (A by q (Lost spans)) m h =
    let p = and_parts (same_who by who && speaks_of file (call_of whole by q)) (exists (is_name_of (loss_told file block first last)) spans.items) h in
    let r = and_parts (same_who by who) (speaks_of file (call_of whole by q)) p.0 in
    let same : by ≡ who = tells_who.sound r.0 in
    subst (λ w. 0 < mark_at marks (loss_spot w first last)) same (some_marked marks by file block first last spans.items m p.1)
named_one marks whole who file block first last other m h = absurd (cc)

pub not_named : (marks : List (Spot × ℕ)) (whole : List Entry) (who : Who) (file block first last : ℕ) (before : List Entry)
    → Each (IsNamed marks) before → mark_at marks (loss_spot who first last) ≡ 0 → exists (names whole who (loss_told file block first last)) before ≡ false
not_named marks whole who file block first last [] m none = refl
not_named marks whole who file block first last (entry ∷ before) m none =
    let misses : names whole who (loss_told file block first last) entry ≡ false =
    none_of (names whole who (loss_told file block first last) entry)
    (λ t. let up = named_one marks whole who file block first last entry m.0 t in omega arith) in
    ap (λ b. b || exists (names whole who (loss_told file block first last)) before) misses ∙ not_named marks whole who file block first last before m.1 none

-- ---- an L that no A has named

unnamed_one : (marks : List (Spot × ℕ)) (whole before : List Entry) (who : Who) (call : Option Told) (span : Span) → Each (IsNamed marks) before
    → HasNoMark marks who span → (entry : Entry) → is_lost_as who call span entry ≡ true → is_unnamed whole before who call span entry ≡ true
unnamed_one marks whole before who call span m none (L by file block first last) h =
    let p = and_parts (same_who by who && speaks_of file call) (is_name_of (loss_told file block first last) span) h in
    let same = same_numbers file block first last span p.1 in
    let at : mark_at marks (loss_spot who first last) ≡ 0 =
    subst (λ n. mark_at marks (loss_spot who n last) ≡ 0) same.0 (subst (λ n. mark_at marks (loss_spot who span.first n) ≡ 0) same.1 none) in
    and_from (same_who by who && speaks_of file call && is_name_of (loss_told file block first last) span)
    (not (exists (names whole who (loss_told file block first last)) before)) h
    (ap not (not_named marks whole who file block first last before m at))
unnamed_one marks whole before who call span m none other h = absurd (cc)

exists_also : (f g : Entry → Bool) → ((entry : Entry) → f entry ≡ true → g entry ≡ true) → (entries : List Entry) → exists f entries ≡ true
    → exists g entries ≡ true
exists_also f g all [] h = absurd (cc)
exists_also f g all (entry ∷ entries) h =
    elim (cases_Bool (f entry)) [
      | inl y ↦ ap (λ b. b || exists g entries) (all entry y)
      | inr n ↦
          let rest : exists g entries ≡ true = exists_also f g all entries (sym (ap (λ b. b || exists f entries) n) ∙ h) in
          elim (cases_Bool (g entry)) [
            | inl y ↦ ap (λ b. b || exists g entries) y
            | inr m ↦ ap (λ b. b || exists g entries) m ∙ rest
          ]
    ]

-- ---- spans, one after another

same_span : (a b : Span) → is_same_span a b ≡ true → (a.first ≡ b.first) × (a.last ≡ b.last)
same_span a b h =
    let p = and_parts (nat_eq a.block b.block && nat_eq a.first b.first) (nat_eq a.last b.last) h in
    let q = and_parts (nat_eq a.block b.block) (nat_eq a.first b.first) p.0 in
    (eqb-true a.first b.first q.1, eqb-true a.last b.last p.1)

-- a span with a mark is none of those without
not_again : (marks : List (Spot × ℕ)) (who : Who) (span : Span) → HasMark marks who span → (spans : List Span) → Each (HasNoMark marks who) spans
    → exists (is_same_span span) spans ≡ false
not_again marks who span some [] none = refl
not_again marks who span some (other ∷ spans) none =
    let misses : is_same_span span other ≡ false =
    none_of (is_same_span span other) (λ t.
    let same = same_span span other t in
    let up : 0 < mark_at marks (loss_spot who other.first other.last) = moved marks who span.first other.first span.last other.last same.0 same.1 some in
    let zero : mark_at marks (loss_spot who other.first other.last) ≡ 0 = none.0 in
    omega arith) in
    ap (λ b. b || exists (is_same_span span) spans) misses ∙ not_again marks who span some spans none.1

first_of : (whole before : List Entry) (who : Who) (call : Option Told) (span : Span) (spans : List Span)
    → exists (is_unnamed whole before who call span) before ≡ true → exists (is_same_span span) spans ≡ false
    → name_losses whole before who call spans ≡ true → name_losses whole before who call (span ∷ spans) ≡ true
first_of whole before who call span spans some again rest =
    and_from (exists (is_unnamed whole before who call span) before && not (exists (is_same_span span) spans)) (name_losses whole before who call spans)
    (and_from (exists (is_unnamed whole before who call span) before) (not (exists (is_same_span span) spans)) some (ap not again)) rest

drop_all : {X : Type 0} (xs : List X) (k : ℕ) → length xs ≤ k → drop k xs ≡ []
drop_all [] zero h = refl
drop_all [] (suc k) h = refl
drop_all (x ∷ xs) zero h = absurd (omega arith)
drop_all (x ∷ xs) (suc k) h = drop_all xs k (omega arith)

-- no span yet
pub up_to_none : (whole before : List Entry) (who : Who) (call : Option Told) (spans : List Span) (marks : List (Spot × ℕ))
    → NamesUpTo whole before who call spans 0 marks marks
up_to_none whole before who call spans marks = record {
  keeps = λ key h. h;
  marks = λ later keeps h. h;
  names = λ m none h. h;
}

-- one more
pub up_to_next : (whole before : List Entry) (who : Who) (call : Option Told) (spans : List Span) (k mark : ℕ) (span : Span)
    (old mid new : List (Spot × ℕ)) → 0 < mark → slice_get spans k ≡ Some span → NamesUpTo whole before who call spans k old mid
    → NamesAnew before who call span mark mid new → NamesUpTo whole before who call spans (k + 1) old new
up_to_next whole before who call spans k mark span old mid new up e so_far h =
    let keeps = marks_kept (loss_spot who span.first span.last) mark mid new up h.marked in
    let here : HasMark new who span = let at = marked_there (loss_spot who span.first span.last) mark mid new h.marked in omega arith in
    let split = drop_here spans k span e in record {
      keeps = λ key some. keeps key (so_far.keeps key some);
      marks = λ later on rest.
          so_far.marks later (λ key some. on key (keeps key some))
          (subst (λ l. Each (HasMark later who) l) (sym split) (on (loss_spot who span.first span.last) here, rest));
      names = λ m none rest.
          so_far.names m
          (subst (λ l. Each (HasNoMark mid who) l) (sym split) (h.unnamed, each_kept mid new keeps who (drop (k + 1) spans) none))
          (subst (λ l. name_losses whole before who call l ≡ true) (sym split)
          (first_of whole before who call span (drop (k + 1) spans)
          (exists_also (is_lost_as who call span) (is_unnamed whole before who call span)
          (unnamed_one old whole before who call span m (none_kept old mid so_far.keeps who span h.unnamed)) before h.lost)
          (not_again new who span here (drop (k + 1) spans) none) rest));
    }

-- all of them
pub up_to_all : (whole before : List Entry) (who : Who) (call : Option Told) (spans : List Span) (k : ℕ) (old new : List (Spot × ℕ)) → length spans ≤ k
    → NamesUpTo whole before who call spans k old new → NamesAll whole before who call spans old new
up_to_all whole before who call spans k old new long h =
    let none : drop k spans ≡ [] = drop_all spans k long in record {
      keeps = h.keeps;
      marks = h.marks new (λ key some. some) (subst (λ l. Each (HasMark new who) l) (sym none) tt);
      names = λ m.
          h.names m (subst (λ l. Each (HasNoMark new who) l) (sym none) tt)
          (subst (λ l. name_losses whole before who call l ≡ true) (sym none) refl);
    }

-- ---- entries

lost_on : (whole : List Entry) (place : ℕ) (who : Who) (q : ℕ) (spans : List Span) (old new : List (Spot × ℕ))
    → NamesAll (reverse whole) (reverse (take place whole)) who (call_of (reverse whole) who q) spans old new → NamesLost whole place who q spans old new
lost_on whole place who q spans old new h m = (h.names m, (h.marks, before_kept old new h.keeps (reverse (take place whole)) m))

-- the same, of a result that is Ok
pub lost_ok : {E : Type 0} (r : Result Bool E) (whole : List Entry) (place : ℕ) (who : Who) (q : ℕ) (call : Option Told) (spans : List Span)
    (old new : List (Spot × ℕ)) → call ≡ call_of (reverse whole) who q
    → IfOk r (λ yes. IsTrue yes → NamesAll (reverse whole) (reverse (take place whole)) who call spans old new)
    → IfOk r (λ yes. IsTrue yes → NamesLost whole place who q spans old new)
lost_ok (Ok made) whole place who q call spans old new is h =
    λ t. lost_on whole place who q spans old new
    (subst (λ (o : Option Told). NamesAll (reverse whole) (reverse (take place whole)) who o spans old new) is (h t))
lost_ok (Err e) whole place who q call spans old new is h = tt
