-- The parts of a line of calls: what is open, what stays, and what the next line is made of.
use Rattle.std.proofs.Common.{◌≡◌, ◌<◌, ℕ, Bool, true, false, not, ◌&&◌, ◌||◌, ◌==◌, List, [], ◌∷◌, Option, Some, None, inl, inr, refl, sym, ◌∙◌, ap}
use Rattle.std.proofs.Common.{subst, arith}
use Rattle.std.specs.Prelude.{if◌then◌else◌, nat_lt}
use Rattle.std.specs.Option.{option_or}
use Rattle.std.proofs.lemmas.Bool.{and_parts, and_from, cases_Bool, eqb-true, eq-eqb, lt-ltb, cases_lt}
use Rattle.nq_base.specs.declared.Entry.{Entry}
use Rattle.nq_base.specs.declared.Entry.TheVariants.{C, W}
use Rattle.nq_base.specs.declared.Told.{Told}
use Rattle.nq_base.specs.declared.Told.TheVariants.{Write, Put, Resize, Remove}
use Rattle.nq_base.specs.declared.Who.{Who}
use Rattle.nq_model.specs.laws.Journal.{call_of, told_by}
use Rattle.nq_model.specs.laws.JournalTest.{each, exists, is_answer, is_call, is_open, throughout}
use Rattle.nq_model.specs.laws.LegalTest.{is_counted_by}
use Rattle.nq_model.specs.laws.OrderedTest.{call_resizes, is_before_call, is_call_below, is_no_other, is_numbered, is_open_call, is_resize_by, open_call}
use Rattle.nq_model.specs.laws.OrderedTest.{writes}
use Rattle.nq_model.specs.protocol.Table.{same_who}
use Rattle.nq_model.proofs.JournalTests.{tells_who}
use Rattle.nq_rules.specs.declared.lines.CallProgress.{CallProgress}
use Rattle.nq_rules.specs.declared.lines.Open.{Open}
use Rattle.nq_rules.specs.InOrder.{AreBusy, AreOpened, IsLineOf, IsOpened}
use Rattle.nq_rules.specs.Lines.{Sizing, Writing, is_sizing, is_writing, sizing_of, writing_of}

-- ---- truth values

pub or_none : (a b : Bool) → a ≡ false → b ≡ false → (a || b) ≡ false
or_none true b x y = x
or_none false b x y = y

pub or_here : (a b : Bool) → a ≡ true → (a || b) ≡ true
or_here true b x = refl
or_here false b x = absurd (cc)

pub or_there : (a b : Bool) → b ≡ true → (a || b) ≡ true
or_there true b x = refl
or_there false b x = x

pub neither_first : (a b : Bool) → (a || b) ≡ false → a ≡ false
neither_first true b x = x
neither_first false b x = refl

pub neither_second : (a b : Bool) → (a || b) ≡ false → b ≡ false
neither_second true b x = absurd (cc)
neither_second false b x = x

pub and_not_there : (a b : Bool) → b ≡ false → (a && b) ≡ false
and_not_there true b x = x
and_not_there false b x = refl

pub and_not_here : (a b : Bool) → a ≡ false → (a && b) ≡ false
and_not_here true b x = absurd (cc)
and_not_here false b x = refl

pub not_false : (a : Bool) → not a ≡ true → a ≡ false
not_false true x = absurd (cc)
not_false false x = refl

pub not_not : (a : Bool) → not a ≡ false → a ≡ true
not_not true x = refl
not_not false x = absurd (cc)

pub nothing_is : {X : Type 0} (x : X) → None ≡ Some x → ⊥
nothing_is x e = absurd (cc)

pub both_ways : (a : Bool) → a ≡ true → a ≡ false → ⊥
both_ways true x y = absurd (cc)
both_ways false x y = absurd (cc)

not_true : (a : Bool) → (a ≡ true → ⊥) → a ≡ false
not_true true f = absurd (f refl)
not_true false f = refl

pub other_number : (a b : ℕ) → (a ≡ b → ⊥) → (a == b) ≡ false
other_number a b f = not_true (a == b) (λ e. f (eqb-true a b e))

or_nothing : (a : Bool) → (a || false) ≡ a
or_nothing true = refl
or_nothing false = refl

pub self : (who : Who) → same_who who who ≡ true
self who = (tells_who {a = who} {b = who}).complete refl

-- ---- calls that are open

same_open : (who : Who) (q : ℕ) (entry : Entry) (before : List Entry) → is_call who q entry ≡ false → is_answer who q entry ≡ false
    → is_open (entry ∷ before) who q ≡ is_open before who q
same_open who q entry before c a = rw (c, a) refl

pub is_called : (before : List Entry) (who : Who) (q : ℕ) → is_open before who q ≡ true → exists (is_call who q) before ≡ true
is_called before who q o = (and_parts (exists (is_call who q) before) (not (exists (is_answer who q) before)) o).0

pub is_unanswered : (before : List Entry) (who : Who) (q : ℕ) → is_open before who q ≡ true → exists (is_answer who q) before ≡ false
is_unanswered before who q o =
    not_false (exists (is_answer who q) before) (and_parts (exists (is_call who q) before) (not (exists (is_answer who q) before)) o).1

pub opens : (before : List Entry) (who : Who) (q : ℕ) → exists (is_call who q) before ≡ true → exists (is_answer who q) before ≡ false
    → is_open before who q ≡ true
opens before who q c a = and_from (exists (is_call who q) before) (not (exists (is_answer who q) before)) c (ap not a)

pub not_called : (before : List Entry) (who : Who) (q : ℕ) → exists (is_call who q) before ≡ false → call_of before who q ≡ None
not_called [] who q h = refl
not_called (C by n told ∷ before) who q h =
    rw (
      not_called before who q (neither_second (same_who by who && (n == q)) (exists (is_call who q) before) h),
      neither_first
          (same_who by who && (n == q)) (exists (is_call who q) before) h,
    ) refl
not_called (other ∷ before) who q h = rw (not_called before who q (neither_second (is_call who q other) (exists (is_call who q) before) h)) refl

pub none_since : (before : List Entry) (who : Who) (q : ℕ) → exists (is_call who q) before ≡ false → throughout (is_before_call who q) before ≡ true
none_since [] who q h = refl
none_since (W by file block number value through ∷ before) who q h =
    and_from (not (same_who by who) || not (exists (is_call who q) before)) (throughout (is_before_call who q) before)
    (or_there (not (same_who by who)) (not (exists (is_call who q) before)) (ap not h)) (none_since before who q h)
none_since (other ∷ before) who q h = none_since before who q (neither_second (is_call who q other) (exists (is_call who q) before) h)

below_one : (by who : Who) (n q : ℕ) → (same_who by who ≡ true → n < q) → (not (same_who by who) || nat_lt n q) ≡ true
below_one by who n q f =
    elim (cases_Bool (same_who by who)) [
      | inl y ↦ or_there (not (same_who by who)) (nat_lt n q) (lt-ltb n q (f y))
      | inr e ↦ or_here (not (same_who by who)) (nat_lt n q) (ap not e)
    ]

-- where no call above the highest number stands, a call of this number is below each higher one
pub upto : (there : Bool) (n highest q : ℕ) → highest < q → there ≡ true → (highest < n → there ≡ false) → n < q
upto there n highest q l t f =
    elim (cases_lt highest n) [
      | inl high ↦ absurd (both_ways there t (f high))
      | inr low ↦ omega arith
    ]

pub all_below : (before : List Entry) (who : Who) (highest q : ℕ) → highest < q → ((n : ℕ) → highest < n → exists (is_call who n) before ≡ false)
    → each (is_call_below who q) before ≡ true
all_below [] who highest q l h = refl
all_below (C by n told ∷ before) who highest q l h =
    and_from (not (same_who by who) || nat_lt n q) (each (is_call_below who q) before)
    (below_one by who n q (λ y. upto (exists (is_call who n) (C by n told ∷ before)) n highest q l
    (or_here (same_who by who && (n == n)) (exists (is_call who n) before) (and_from (same_who by who) (n == n) y (eq-eqb n n refl)))
    (h n)))
    (all_below before who highest q l (λ m k. neither_second (same_who by who && (n == m)) (exists (is_call who m) before) (h m k)))
all_below (other ∷ before) who highest q l h =
    all_below before who highest q l (λ m k. neither_second (is_call who m other) (exists (is_call who m) before) (h m k))

pub none_open : (entries before : List Entry) (who : Who) → ((q : ℕ) → is_open before who q ≡ true → ⊥) → exists (is_open_call before who) entries ≡ false
none_open [] before who f = refl
none_open (C by n told ∷ entries) before who f =
    or_none (same_who by who && is_open before who n) (exists (is_open_call before who) entries)
    (and_not_there (same_who by who) (is_open before who n) (not_true (is_open before who n) (f n)))
    (none_open entries before who f)
none_open (other ∷ entries) before who f = none_open entries before who f

-- where one call alone is open, no other is
pub no_others : (entries before : List Entry) (who : Who) (p : ℕ) → ((q : ℕ) → is_open before who q ≡ true → p ≡ q) → each (is_no_other before who p)
    entries ≡ true
no_others [] before who p f = refl
no_others (C by n told ∷ entries) before who p f =
    and_from (not (same_who by who && is_open before who n) || (n == p)) (each (is_no_other before who p) entries)
    (elim (cases_Bool (is_open before who n)) [
      | inl o ↦ or_there (not (same_who by who && is_open before who n)) (n == p) (eq-eqb n p (sym (f n o)))
      | inr c ↦ or_here (not (same_who by who && is_open before who n)) (n == p) (ap not (and_not_there (same_who by who) (is_open before who n) c))
    ])
    (no_others entries before who p f)
no_others (other ∷ entries) before who p f = no_others entries before who p f

pub if_true : {X : Type 0} (b : Bool) (x y : X) → b ≡ true → (if b then x else y) ≡ x
if_true true x y e = refl
if_true false x y e = absurd (cc)

pub if_false : {X : Type 0} (b : Bool) (x y : X) → b ≡ false → (if b then x else y) ≡ y
if_false true x y e = absurd (cc)
if_false false x y e = refl

later_call : (by who : Who) (n p : ℕ) (is_open rest : Bool) → (same_who by who && is_open) ≡ false → (n ≡ p → is_open ≡ true)
    → ((same_who by who && (n == p)) || rest) ≡ true → rest ≡ true
later_call by who n p is_open true e f c = refl
later_call by who n p is_open false e f c =
    let h = and_parts (same_who by who) (n == p) (sym (or_nothing (same_who by who && (n == p))) ∙ c) in
    absurd (both_ways (same_who by who && is_open) (and_from (same_who by who) is_open h.0 (f (eqb-true n p h.1))) e)

-- where one call alone is open, it is the one that is found
pub found : (entries before : List Entry) (who : Who) (p : ℕ) → ((q : ℕ) → is_open before who q ≡ true → p ≡ q) → is_open before who p ≡ true
    → exists (is_call who p) entries ≡ true → open_call before who entries ≡ Some p
found [] before who p f o c = absurd (cc)
found (C by n told ∷ entries) before who p f o c =
    elim (cases_Bool (same_who by who && is_open before who n)) [
      | inl y ↦
          if_true (same_who by who && is_open before who n) (Some n) (open_call before who entries) y
          ∙ ap Some (sym (f n (and_parts (same_who by who) (is_open before who n) y).1))
      | inr e ↦
          if_false (same_who by who && is_open before who n) (Some n) (open_call before who entries) e
          ∙ found entries before who p f o
          (later_call by who n p (is_open before who n) (exists (is_call who p) entries) e (λ s. subst (λ m. is_open before who m ≡ true) (sym s) o) c)
    ]
found (other ∷ entries) before who p f o c = found entries before who p f o c

-- ---- what else an entry leaves as it was

-- the entry tells nothing of the calls of an incarnation
pub record IsQuiet (whole : List Entry) (who : Who) (entry : Entry) : Type 0 where
  pub call : (q : ℕ) → is_call who q entry ≡ false
  pub answer : (q : ℕ) → is_answer who q entry ≡ false
  pub resize : (q : ℕ) → is_resize_by who q entry ≡ false
  pub read : (q : ℕ) → is_counted_by whole who q entry ≡ false
  pub number : (n : ℕ) → is_numbered who n entry ≡ false
  pub write : (q : ℕ) (before : List Entry) → is_before_call who q entry before ≡ true

-- what stays of an open call behind an entry that is not its A
pub still_open : (whole before : List Entry) (who : Who) (q : ℕ) (writing : Option Writing) (sizing : Option Sizing)
    (wrote resized read now_wrote now_resized now_read : Bool) (entry : Entry) → IsOpened whole before who q writing sizing wrote resized read
    → is_answer who q entry ≡ false → (now_wrote ≡ false → (wrote ≡ false) × (is_before_call who q entry before ≡ true))
    → (now_resized ≡ false → (resized ≡ false) × (is_resize_by who q entry ≡ false))
    → (now_read ≡ false → (read ≡ false) × (is_counted_by whole who q entry ≡ false))
    → IsOpened whole (entry ∷ before) who q writing sizing now_wrote now_resized now_read
still_open whole before who q writing sizing wrote resized read now_wrote now_resized now_read entry h a w z r = record {
  opened =
      opens (entry ∷ before) who q (or_there (is_call who q entry) (exists (is_call who q) before) (is_called before who q h.opened))
      (or_none (is_answer who q entry) (exists (is_answer who q) before) a (is_unanswered before who q h.opened));
  told = h.told;
  call = ap (λ c. option_or c (told_by entry who q)) h.call;
  writes = h.writes;
  sizes = h.sizes;
  unwritten = λ e. and_from (is_before_call who q entry before) (throughout (is_before_call who q) before) (w e).1 (h.unwritten (w e).0);
  unresized = λ e. or_none (is_resize_by who q entry) (exists (is_resize_by who q) before) (z e).1 (h.unresized (z e).0);
  unread = λ e. or_none (is_counted_by whole who q entry) (exists (is_counted_by whole who q) before) (r e).1 (h.unread (r e).0);
}

still_opened : (whole before : List Entry) (who : Who) (current : Option Open) (entry : Entry) → IsQuiet whole who entry
    → AreOpened whole before who current → AreOpened whole (entry ∷ before) who current
still_opened whole before who None entry k h = tt
still_opened whole before who (Some o) entry k h =
    still_open whole before who o.q o.writing o.sizing o.wrote o.resized o.read o.wrote o.resized o.read entry h (k.answer o.q)
    (λ e. (e, k.write o.q before)) (λ e. (e, k.resize o.q)) (λ e. (e, k.read o.q))

pub still_busy : (before : List Entry) (who : Who) (highest : ℕ) (current : Option Open) (busy : Option ℕ) (entry : Entry)
    → ((q : ℕ) → is_answer who q entry ≡ false) → AreBusy before who highest current busy → AreBusy (entry ∷ before) who highest current busy
still_busy before who highest current None entry a h = tt
still_busy before who highest current (Some busy) entry a h =
    record { upto = h.upto; unanswered = or_none (is_answer who busy entry) (exists (is_answer who busy) before) (a busy) h.unanswered; apart = h.apart }

-- what is told of a busy call asks no more of the open one than its number
pub same_busy : (before : List Entry) (who : Who) (highest : ℕ) (o n : Open) (busy : Option ℕ) → o.q ≡ n.q → AreBusy before who highest (Some o) busy
    → AreBusy before who highest (Some n) busy
same_busy before who highest o n None e h = tt
same_busy before who highest o n (Some busy) e h = record { upto = h.upto; unanswered = h.unanswered; apart = λ x. h.apart (e ∙ x) }

pub quiet : (whole before : List Entry) (who : Who) (line : CallProgress) (entry : Entry) → IsQuiet whole who entry → IsLineOf whole before who line
    → IsLineOf whole (entry ∷ before) who line
quiet whole before who line entry k h = record {
  calls = λ q l. or_none (is_call who q entry) (exists (is_call who q) before) (k.call q) (h.calls q l);
  answers = λ q l. or_none (is_answer who q entry) (exists (is_answer who q) before) (k.answer q) (h.answers q l);
  resizes = λ q l. or_none (is_resize_by who q entry) (exists (is_resize_by who q) before) (k.resize q) (h.resizes q l);
  reads = λ q l. or_none (is_counted_by whole who q entry) (exists (is_counted_by whole who q) before) (k.read q) (h.reads q l);
  writes = λ n l. or_none (is_numbered who n entry) (exists (is_numbered who n) before) (k.number n) (h.writes n l);
  below = λ n l. or_none (is_numbered who n entry) (exists (is_numbered who n) before) (k.number n) (h.below n l);
  alone = λ q o. h.alone q (sym (same_open who q entry before (k.call q) (k.answer q)) ∙ o);
  current = still_opened whole before who line.current entry k h.current;
  busy = still_busy before who line.highest line.current line.busy entry k.answer h.busy;
}

-- ---- what a call asks

write_asked : (file block value : ℕ) (told : Told) → is_writing file block value (writing_of told) ≡ true → writes file block value (Some told) ≡ true
write_asked file block value (Write f b v) h = h
write_asked file block value (Put f b v) h = h
write_asked file block value other h = absurd (cc)

pub asks_write : (file block value : ℕ) (told : Told) (writing : Option Writing) → writing_of told ≡ writing → is_writing file block value writing ≡ true
    → writes file block value (Some told) ≡ true
asks_write file block value told writing e h = write_asked file block value told (ap (is_writing file block value) e ∙ h)

resize_asked : (file to : ℕ) (told : Told) → is_sizing file to (sizing_of told) ≡ true → call_resizes file to (Some told) ≡ true
resize_asked file to (Resize f n) h = h
resize_asked file to (Remove f) h =
    let t = and_parts (f == file) (0 == to) h in and_from (f == file) (to == 0) t.0 (eq-eqb to 0 (sym (eqb-true 0 to t.1)))
resize_asked file to other h = absurd (cc)

pub asks_resize : (file to : ℕ) (told : Told) (sizing : Option Sizing) → sizing_of told ≡ sizing → is_sizing file to sizing ≡ true
    → call_resizes file to (Some told) ≡ true
asks_resize file to told sizing e h = resize_asked file to told (ap (is_sizing file to) e ∙ h)

-- ---- the next line, from its parts

abbrev pub a_line : (highest last least : ℕ) (current : Option Open) (busy : Option ℕ) → CallProgress
a_line highest last least current busy = record { highest = highest; last = last; least = least; current = current; busy = busy }

some_or : {X : Type 0} → X → Option X → X
some_or d None = d
some_or d (Some x) = x

pub same_some : {X : Type 0} (x y : X) → Some x ≡ Some y → x ≡ y
unfolding some_or
same_some x y e = ap (some_or x) e

pub no_call_above : (who : Who) (before : List Entry) (q highest : ℕ) → is_open before who q ≡ true
    → ((n : ℕ) → highest < n → exists (is_call who n) before ≡ false) → (n : ℕ) → highest < n → q ≡ n → ⊥
no_call_above who before q highest o h n l e =
    both_ways (exists (is_call who n) before) (subst (λ m. exists (is_call who m) before ≡ true) e (is_called before who q o)) (h n l)
