-- The last write before the A of a `put` is the write of that call, where all entries stand in order.
use Rattle.std.proofs.Common.{◌≡◌, ◌<◌, ◌≤◌, ℕ, ◌+◌, List, length, drop, take, reverse, Option, Some, None, Bool, true, false, not, ◌&&◌, ◌||◌, ◌==◌}
use Rattle.std.proofs.Common.{refl, sym, ◌∙◌, ap, subst, arith}
use Rattle.std.specs.List.{slice_get}
use Rattle.std.proofs.lemmas.Bool.{and_parts, and_from, eqb-true}
use Rattle.nq_base.specs.declared.Entry.{Entry}
use Rattle.nq_base.specs.declared.Entry.TheVariants.{C, W, A}
use Rattle.nq_base.specs.declared.Who.{Who}
use Rattle.nq_check.specs.Fronts.{KeepsBelow}
use Rattle.nq_rules.specs.Kept.{is_put_kept, is_write_of_call}
use Rattle.nq_check.specs.declared.rules.Rule.{Rule}
use Rattle.nq_check.proofs.Climbs.{climb}
use Rattle.nq_rules.proofs.Places.{taken_here}
use Rattle.nq_model.specs.laws.Journal.{call_of}
use Rattle.nq_model.specs.laws.JournalTest.{each, exists, is_answer, is_call, is_open, is_stored, is_through, is_write_by, somewhere, throughout}
use Rattle.nq_model.specs.laws.OrderedTest.{is_before_call, is_in_order, is_no_other, is_numbered, is_write_of, open_call, writes}
use Rattle.nq_model.specs.protocol.Table.{same_who}
use Rattle.nq_model.proofs.JournalTests.{tells_who}

-- what keeps a rule below a place keeps it below each earlier one
pub keeps_less : (rule : Rule) (whole : List Entry) (n m : ℕ) → KeepsBelow rule whole n → m ≤ n → KeepsBelow rule whole m
keeps_less rule whole n m h less place entry below there = h place entry (omega arith) there

pub or_there : (a b : Bool) → b ≡ true → (a || b) ≡ true
or_there true b h = refl
or_there false b h = h

pub or_here : (a b : Bool) → a ≡ true → (a || b) ≡ true
or_here true b h = refl
or_here false b h = absurd (cc)

second_of : (a b : Bool) → a ≡ true → (not a || b) ≡ true → b ≡ true
second_of true b x h = h
second_of false b x h = absurd (cc)

not_false : (a : Bool) → not a ≡ true → a ≡ false
not_false true x = absurd (cc)
not_false false x = refl

second_false : (a b : Bool) → (a || b) ≡ false → b ≡ false
second_false true b h = absurd (cc)
second_false false b h = h

self : (who : Who) → same_who who who ≡ true
self who = (tells_who {a = who} {b = who}).complete refl

-- ---- an entry before a place

pub exists_before : (test : Entry → Bool) (whole : List Entry) (p k : ℕ) (x : Entry) → p < k → k ≤ length whole → slice_get whole p ≡ Some x
    → test x ≡ true → exists test (reverse (take k whole)) ≡ true
exists_before test whole p k x below within there t =
    climb (λ l. exists test l ≡ true) whole (p + 1) k (omega arith) within
    (subst (λ l. exists test l ≡ true) (sym (taken_here whole p x there)) (or_here (test x) (exists test (reverse (take p whole))) t))
    (λ place entry before a b e h. or_there (test entry) (exists test before) h)

pub somewhere_before : (test : Entry → List Entry → Bool) (whole : List Entry) (p k : ℕ) (x : Entry) → p < k → k ≤ length whole
    → slice_get whole p ≡ Some x → test x (reverse (take p whole)) ≡ true → somewhere test (reverse (take k whole)) ≡ true
somewhere_before test whole p k x below within there t =
    climb (λ l. somewhere test l ≡ true) whole (p + 1) k (omega arith) within
    (subst (λ l. somewhere test l ≡ true) (sym (taken_here whole p x there))
    (or_here (test x (reverse (take p whole))) (somewhere test (reverse (take p whole))) t))
    (λ place entry before a b e h. or_there (test entry before) (somewhere test before) h)

pub each_before : (test : Entry → Bool) (whole : List Entry) (p k : ℕ) (x : Entry) → p < k → k ≤ length whole → slice_get whole p ≡ Some x
    → each test (reverse (take k whole)) ≡ true → test x ≡ true
each_before test whole p k x below within there =
    climb (λ l. each test l ≡ true → test x ≡ true) whole (p + 1) k (omega arith) within
    (subst (λ l. each test l ≡ true → test x ≡ true) (sym (taken_here whole p x there)) (λ h. (and_parts (test x) (each test (reverse (take p whole))) h).0))
    (λ place entry before a b e f h. f (and_parts (test entry) (each test before) h).1)

-- where no entry before a place passes, none before an earlier one does
pub none_before : (test : Entry → Bool) (whole : List Entry) (p k : ℕ) → p ≤ k → k ≤ length whole → exists test (reverse (take k whole)) ≡ false
    → exists test (reverse (take p whole)) ≡ false
none_before test whole p k below within =
    climb (λ l. exists test l ≡ false → exists test (reverse (take p whole)) ≡ false) whole p k below within
    (λ h. h)
    (λ place entry before a b e f h. f (second_false (test entry) (exists test before) h))

-- ---- the write of an open call

call_here : (before : List Entry) (by who : Who) (n q p : ℕ) (opened : Bool) → same_who by who ≡ true → (n == q) ≡ true → opened ≡ true
    → (not (same_who by who && opened) || (n == p)) ≡ true → q ≡ p
call_here before by who n q p opened w same o h =
    sym (eqb-true n q same) ∙ eqb-true n p (second_of (same_who by who && opened) (n == p) (and_from (same_who by who) opened w o) h)

-- a call that is open, where no other than call p is, is call p
is_that_one : (before : List Entry) (who : Who) (q p : ℕ) (entry : Entry) → is_call who q entry ≡ true → is_open before who q ≡ true
    → is_no_other before who p entry ≡ true → q ≡ p
is_that_one before who q p (C by n told) c o h =
    let w = and_parts (same_who by who) (n == q) c in
    call_here before by who n q p (is_open before who n) w.0 w.1 (subst (λ m. is_open before who m ≡ true) (sym (eqb-true n q w.1)) o) h
is_that_one before who q p other c o h = absurd (cc)

writes_of : (before : List Entry) (who : Who) (q file block number value : ℕ) (through : Bool) (call : Entry) (found : Option ℕ)
    → is_call who q call ≡ true → is_open before who q ≡ true
    → ((p : ℕ) → each (is_no_other before who p) before ≡ true → is_no_other before who p call ≡ true)
    → is_write_of before who file block number value found ≡ true → is_write_of_call who q (W who file block number value through) before ≡ true
writes_of before who q file block number value through call None c o f h = absurd (cc)
writes_of before who q file block number value through call (Some p) c o f h =
    let a = and_parts (each (is_no_other before who p) before && writes file block value (call_of before who p) && throughout (is_before_call who p)
    before) (not (exists (is_numbered who number) before)) h in
    let b = and_parts (each (is_no_other before who p) before && writes file block value (call_of before who p))
    (throughout (is_before_call who p) before) a.0 in
    let d = and_parts (each (is_no_other before who p) before) (writes file block value (call_of before who p)) b.0 in
    let same : q ≡ p = is_that_one before who q p call c o (f p d.0) in
    subst
    (λ m. (same_who who who && is_open before who m && each (is_no_other before who m) before && writes file block value (call_of before who m)) ≡
    true) (sym same)
    (and_from (same_who who who && is_open before who p && each (is_no_other before who p) before) (writes file block value (call_of before who p))
    (and_from (same_who who who && is_open before who p) (each (is_no_other before who p) before)
    (and_from (same_who who who) (is_open before who p) (self who) (subst (λ m. is_open before who m ≡ true) same o)) d.0) d.1)

writes_own : (whole after before : List Entry) (who : Who) (q : ℕ) (call write : Entry) → is_call who q call ≡ true → is_open before who q ≡ true
    → ((p : ℕ) → each (is_no_other before who p) before ≡ true → is_no_other before who p call ≡ true) → is_write_by who write ≡ true
    → is_in_order whole after write before ≡ true → is_write_of_call who q write before ≡ true
writes_own whole after before who q call (W by file block number value through) c o f w h =
    let is : by ≡ who = (tells_who {a = by} {b = who}).sound w in
    subst (λ (x : Who). is_write_of_call who q (W x file block number value through) before ≡ true) (sym is)
    (writes_of before who q file block number value through call (open_call before who before) c o f
    (subst (λ (x : Who). is_write_of before x file block number value (open_call before x before) ≡ true) is h))
writes_own whole after before who q call other c o f w h = absurd (cc)

unanswered : (whole after before : List Entry) (who : Who) (q : ℕ) (entry : Entry) → is_answer who q entry ≡ true
    → is_in_order whole after entry before ≡ true → exists (is_answer who q) before ≡ false
unanswered whole after before who q (A by n said) a h =
    let w = and_parts (same_who by who) (n == q) a in
    let is : by ≡ who = (tells_who {a = by} {b = who}).sound w.0 in
    subst (λ (x : Who). exists (is_answer x q) before ≡ false) is
    (subst (λ m. exists (is_answer by m) before ≡ false) (eqb-true n q w.1) (not_false (exists (is_answer by n) before) h))
unanswered whole after before who q other a h = absurd (cc)

-- the C of a call, then a write of its incarnation, then the A of the call
pub put_kept : (whole : List Entry) (c p k : ℕ) (who : Who) (q : ℕ) (call write answer : Entry) → KeepsBelow Rule.Ordered whole (k + 1) → c < p → p < k
    → k < length whole → slice_get whole c ≡ Some call → slice_get whole p ≡ Some write → slice_get whole k ≡ Some answer → is_call who q call ≡ true
    → is_write_by who write ≡ true → is_answer who q answer ≡ true → (is_through write || is_stored (reverse (take k whole)) write) ≡ true
    → somewhere (is_put_kept (reverse (take k whole)) who q) (reverse (take k whole)) ≡ true
put_kept whole c p k who q call write answer ordered first second within at_c at_p at_k is_c is_w is_a kept =
    let up_k : k ≤ length whole = omega arith in
    let up_p : p ≤ length whole = omega arith in
    let none_k = unanswered (reverse whole) (drop (k + 1) whole) (reverse (take k whole)) who q answer is_a (ordered k answer (omega arith) at_k) in
    let none_p : exists (is_answer who q) (reverse (take p whole)) ≡ false = none_before (is_answer who q) whole p k (omega arith) up_k none_k in
    let called : exists (is_call who q) (reverse (take p whole)) ≡ true = exists_before (is_call who q) whole c p call first up_p at_c is_c in
    let opened : is_open (reverse (take p whole)) who q ≡ true = and_from (exists (is_call who q) (reverse (take p whole)))
    (not (exists (is_answer who q) (reverse (take p whole)))) called (ap not none_p) in
    let own = writes_own (reverse whole) (drop (p + 1) whole) (reverse (take p whole)) who q call write is_c opened
    (λ n e. each_before (is_no_other (reverse (take p whole)) who n) whole c p call first up_p at_c e) is_w (ordered p write (omega arith) at_p) in
    somewhere_before (is_put_kept (reverse (take k whole)) who q) whole p k write second up_k at_p
    (and_from (is_write_of_call who q write (reverse (take p whole))) (is_through write || is_stored (reverse (take k whole)) write) own kept)
