-- An entry from which there is a next line stands in order, and that line tells of it.
use Rattle.std.proofs.Common.{◌≡◌, ◌<◌, ◌≤◌, ℕ, Bool, true, false, not, ◌&&◌, ◌||◌, ◌==◌, List, ◌∷◌, Option, Some, None, inl, inr, refl, sym, ◌∙◌, ap, subst, arith}
use Rattle.std.specs.Prelude.{◌⊎◌, nat_le}
use Rattle.std.proofs.lemmas.Bool.{and_parts, and_from, cases_Bool, eqb-true, eq-eqb, leb-false, leb-true}
use Rattle.nq_base.specs.declared.Entry.{Entry}
use Rattle.nq_base.specs.declared.Entry.TheVariants.{C, W, R, Z, A}
use Rattle.nq_base.specs.declared.Said.{Said}
use Rattle.nq_base.specs.declared.Told.{Told}
use Rattle.nq_base.specs.declared.Who.{Who}
use Rattle.nq_model.specs.laws.JournalTest.{each, exists, is_answer, is_call, is_counted, is_open}
use Rattle.nq_model.specs.laws.LegalTest.{is_counted_by}
use Rattle.nq_model.specs.laws.OrderedTest.{has_open, is_busy_next, is_call_below, is_call_in_order, is_numbered, is_resize_by, is_resize_in_order}
use Rattle.nq_model.specs.laws.OrderedTest.{is_read_in_order, is_write_in_order, writes}
use Rattle.nq_model.specs.protocol.Table.{same_who}
use Rattle.nq_model.proofs.JournalTests.{tells_who}
use Rattle.nq_rules.specs.declared.lines.CallProgress.{CallProgress}
use Rattle.nq_rules.specs.declared.lines.Open.{Open}
use Rattle.nq_rules.specs.InOrder.{AreBusy, AreLines, AreOpened, IsBusyCall, IsLineOf, IsNext, IsOpenCall, StandsInOrder, is_else}
use Rattle.nq_rules.specs.Lines.{IsLined, after_answer_of, after_call, after_call_at, after_read_of, after_resize_of, after_write_of, begun}
use Rattle.nq_rules.specs.Lines.{is_sizing, is_used, is_writing, line_at, lower, upper}
use Rattle.nq_rules.proofs.LineParts.{or_none, or_here, or_there, neither_first, neither_second, and_not_there, and_not_here, not_false, not_not}
use Rattle.nq_rules.proofs.LineParts.{nothing_is, both_ways, other_number, self, is_called, is_unanswered, opens, not_called, none_since, upto}
use Rattle.nq_rules.proofs.LineParts.{all_below, none_open, no_others, if_true, if_false, found, IsQuiet, still_open, still_busy, same_busy, quiet}
use Rattle.nq_rules.proofs.LineParts.{asks_write, asks_resize, a_line, same_some, no_call_above}

-- ---- a C

call_in_order : (after before : List Entry) (who : Who) (highest q : ℕ) → highest < q → ((n : ℕ) → highest < n → exists (is_call who n) before ≡ false)
    → (not (has_open before who) || (exists (is_answer who q) before || is_busy_next who q after)) ≡ true → is_call_in_order after before who q ≡ true
call_in_order after before who highest q l h o =
    and_from (each (is_call_below who q) before) (not (has_open before who) || (exists (is_answer who q) before || is_busy_next who q after))
    (all_below before who highest q l h) o

-- what a C leaves of a line, whichever call is open now
called : (whole before : List Entry) (who : Who) (q : ℕ) (told : Told) (highest last least : ℕ) (current now_open : Option Open) (busy now_busy : Option ℕ)
    → highest < q → IsLineOf whole before who (a_line highest last least current busy)
    → ((n : ℕ) → is_open (C who q told ∷ before) who n ≡ true → IsOpenCall now_open n ⊎ IsBusyCall now_busy n)
    → AreOpened whole (C who q told ∷ before) who now_open → AreBusy (C who q told ∷ before) who q now_open now_busy
    → IsLineOf whole (C who q told ∷ before) who (a_line q last least now_open now_busy)
called whole before who q told highest last least current now_open busy now_busy l h alone o b = record {
  calls =
      λ n k. or_none (same_who who who && (q == n)) (exists (is_call who n) before)
      (and_not_there (same_who who who) (q == n) (other_number q n (λ e. omega arith))) (h.calls n (omega arith));
  answers = λ n k. h.answers n (omega arith);
  resizes = λ n k. h.resizes n (omega arith);
  reads = λ n k. h.reads n (omega arith);
  writes = h.writes;
  below = h.below;
  alone = alone;
  current = o;
  busy = b;
}

-- a call that is open behind a C is the C's own, or was open before it
opened_by : (before : List Entry) (who : Who) (q n : ℕ) (told : Told) → is_open (C who q told ∷ before) who n ≡ true → (q ≡ n) ⊎ (is_open before who n ≡ true)
opened_by before who q n told o =
    elim (cases_Bool (same_who who who && (q == n))) [
      | inl y ↦ inl (eqb-true q n (and_parts (same_who who who) (q == n) y).1)
      | inr e ↦ inr (sym (ap (λ c. (c || exists (is_call who n) before) && not (exists (is_answer who n) before)) e) ∙ o)
    ]

call_line : (whole after before : List Entry) (who : Who) (q : ℕ) (told : Told) (is_busy : Bool) (highest last least : ℕ) (current : Option Open)
    (busy : Option ℕ) (new : CallProgress) → is_busy ≡ is_busy_next who q after → highest < q → IsLineOf whole before who (a_line highest last least current busy)
    → after_call_at (a_line highest last least current busy) q told is_busy current busy ≡ Some new
    → (is_call_in_order after before who q ≡ true) × IsLineOf whole (C who q told ∷ before) who new
call_line whole after before who q told is_busy highest last least None None new b l h e =
    let none : has_open before who ≡ false = none_open before before who (λ n o. elim (h.alone n o) [ inl x ↦ x | inr x ↦ x ]) in (
      call_in_order after before who highest q l h.calls
          (or_here (not (has_open before who)) (exists (is_answer who q) before || is_busy_next who q after) (ap not none)),
      subst (λ n. IsLineOf whole (C who q told ∷ before) who n) (same_some (a_line q last least (Some (begun q told)) None) new e)
          (called whole before who q told highest last least None (Some (begun q told)) None None l h
          (λ n o. elim (opened_by before who q n told o) [ inl y ↦ inl y | inr y ↦ elim (h.alone n y) [ inl x ↦ absurd x | inr x ↦ absurd x ] ])
          (record {
            opened =
                opens (C who q told ∷ before) who q
                (or_here (same_who who who && (q == q)) (exists (is_call who q) before)
                (and_from (same_who who who) (q == q) (self who) (eq-eqb q q refl))) (h.answers q l);
            told = told;
            writes = refl;
            sizes = refl;
            call = rw (not_called before who q (h.calls q l), self who, eq-eqb q q refl) refl;
            unwritten = λ x. none_since before who q (h.calls q l);
            unresized = λ x. h.resizes q l;
            unread = λ x. h.reads q l;
          })
          tt),
    )
call_line whole after before who q told true highest last least (Some o) None new b l h e = (
  call_in_order after before who highest q l h.calls
      (or_there (not (has_open before who)) (exists (is_answer who q) before || is_busy_next who q after)
      (or_there (exists (is_answer who q) before) (is_busy_next who q after) (sym b))),
  subst (λ n. IsLineOf whole (C who q told ∷ before) who n) (same_some (a_line q last least (Some o) (Some q)) new e)
      (called whole before who q told highest last least (Some o) (Some o) None (Some q) l h
      (λ n x. elim (opened_by before who q n told x) [ inl y ↦ inr y | inr y ↦ elim (h.alone n y) [ inl z ↦ inl z | inr z ↦ absurd z ] ])
      (still_open whole before who o.q o.writing o.sizing o.wrote o.resized o.read o.wrote o.resized o.read (C who q told) h.current refl
      (λ x. (x, refl)) (λ x. (x, refl)) (λ x. (x, refl)))
      (record {
        upto = omega arith;
        unanswered = h.answers q l;
        apart = λ x. no_call_above who before o.q highest h.current.opened h.calls q l x;
      })),
)
call_line whole after before who q told false highest last least (Some o) None new b l h e = absurd (cc)
call_line whole after before who q told is_busy highest last least None (Some busy) new b l h e = absurd (cc)
call_line whole after before who q told is_busy highest last least (Some o) (Some busy) new b l h e = absurd (cc)

-- ---- a W

upper_is : (a b : ℕ) → (a ≤ upper a b) × (b ≤ upper a b)
upper_is a b =
    elim (cases_Bool (nat_le a b)) [
      | inl y ↦ let most : upper a b ≡ b = if_true (nat_le a b) b a y in let up = leb-true a b y in (omega arith, omega arith)
      | inr n ↦ let most : upper a b ≡ a = if_false (nat_le a b) b a n in let up = leb-false a b n in (omega arith, omega arith)
    ]

lower_is : (a b : ℕ) → (lower a b ≤ a) × (lower a b ≤ b)
lower_is a b =
    elim (cases_Bool (nat_le a b)) [
      | inl y ↦ let least : lower a b ≡ a = if_true (nat_le a b) a b y in let up = leb-true a b y in (omega arith, omega arith)
      | inr n ↦ let least : lower a b ≡ b = if_false (nat_le a b) a b n in let up = leb-false a b n in (omega arith, omega arith)
    ]

-- a number above all that were used, or below them, is new
unused : (whole before : List Entry) (who : Who) (line : CallProgress) (number : ℕ) → IsLineOf whole before who line
    → is_used line number ≡ false → exists (is_numbered who number) before ≡ false
unused whole before who line number h f =
    elim (cases_Bool (nat_le number line.last)) [
      | inl y ↦
          elim (cases_Bool (nat_le line.least number)) [
            | inl z ↦
                let both : (nat_le number line.last && nat_le line.least number) ≡ true = and_from (nat_le number line.last) (nat_le line.least number) y z in
                absurd (cc)
            | inr z ↦ h.below number (leb-false line.least number z)
          ]
      | inr n ↦ h.writes number (leb-false number line.last n)
    ]

write_line : (whole before : List Entry) (who : Who) (file block number value : ℕ) (through : Bool) (highest last least : ℕ) (current : Option Open)
    (busy : Option ℕ) (new : CallProgress) → IsLineOf whole before who (a_line highest last least current busy)
    → after_write_of (a_line highest last least current busy) file block number value current busy ≡ Some new
    → (is_write_in_order before who file block number value ≡ true) × IsLineOf whole (W who file block number value through ∷ before) who new
write_line whole before who file block number value through highest last least None busy new h e = absurd (cc)
write_line whole before who file block number value through highest last least (Some o) (Some busy) new h e = absurd (cc)
write_line whole before who file block number value through highest last least (Some o) None new h e =
    let used = is_used (a_line highest last least (Some o) None) number in
    let bad = o.wrote || used || not (is_writing file block value o.writing) in
    let next = a_line highest (upper number last) (lower number least)
    (Some (record { q = o.q; writing = o.writing; sizing = o.sizing; wrote = true; resized = o.resized; read = o.read })) None in
    elim (cases_Bool bad) [
      | inl y ↦ absurd (nothing_is new (sym (if_true bad None (Some next) y) ∙ e))
      | inr f ↦
          let asking = is_writing file block value o.writing in
          let made = neither_first (o.wrote || used) (not asking) f in
          let unwritten : o.wrote ≡ false = neither_first o.wrote used made in
          let fresh : exists (is_numbered who number) before ≡ false =
          unused whole before who (a_line highest last least (Some o) None) number h (neither_second o.wrote used made) in
          let asks = asks_write file block value h.current.told o.writing h.current.writes
          (not_not asking (neither_second (o.wrote || used) (not asking) f)) in
          let one : (n : ℕ) → is_open before who n ≡ true → o.q ≡ n = λ n x. elim (h.alone n x) [ inl z ↦ z | inr z ↦ absurd z ] in (
            rw (
              found before before who o.q one h.current.opened (is_called before who o.q h.current.opened),
              no_others before before who o.q one,
              h.current.call,
              asks,
              h.current.unwritten unwritten,
              fresh,
            ) refl,
            subst (λ n. IsLineOf whole (W who file block number value through ∷ before) who n) (same_some next new (sym (if_false bad None (Some next) f) ∙ e))
                (record {
                  calls = h.calls;
                  answers = h.answers;
                  resizes = h.resizes;
                  reads = h.reads;
                  writes =
                      λ n k. let most = (upper_is number last).0 in
                      let more = (upper_is number last).1 in
                      or_none (same_who who who && (number == n)) (exists (is_numbered who n) before)
                      (and_not_there (same_who who who) (number == n) (other_number number n (λ x. omega arith))) (h.writes n (omega arith));
                  below =
                      λ n k. let most = (lower_is number least).0 in
                      let more = (lower_is number least).1 in
                      or_none (same_who who who && (number == n)) (exists (is_numbered who n) before)
                      (and_not_there (same_who who who) (number == n) (other_number number n (λ x. omega arith))) (h.below n (omega arith));
                  alone = h.alone;
                  current =
                      still_open whole before who o.q o.writing o.sizing o.wrote o.resized o.read true o.resized o.read
                      (W who file block number value through) h.current refl (λ x. absurd (cc)) (λ x. (x, refl)) (λ x. (x, refl));
                  busy = tt;
                }),
          )
    ]

-- ---- a Z, and a read

three : (a b c : Bool) → (a && b && c) ≡ true → (a ≡ true) × (b ≡ true) × (c ≡ true)
three true true true h = (refl, refl, refl)
three true true false h = absurd (cc)
three true false c h = absurd (cc)
three false b c h = absurd (cc)

resize_line : (whole before : List Entry) (who : Who) (q file from to : ℕ) (highest last least : ℕ) (current : Option Open) (busy : Option ℕ) (new : CallProgress)
    → IsLineOf whole before who (a_line highest last least current busy) → after_resize_of (a_line highest last least current busy) q file to current ≡ Some new
    → (is_resize_in_order before who q file to ≡ true) × IsLineOf whole (Z who q file from to ∷ before) who new
resize_line whole before who q file from to highest last least None busy new h e = absurd (cc)
resize_line whole before who q file from to highest last least (Some o) busy new h e =
    let good = (o.q == q) && not o.resized && is_sizing file to o.sizing in
    let next = a_line highest last least (Some (record { q = o.q; writing = o.writing; sizing = o.sizing; wrote = o.wrote; resized = true; read = o.read })) busy in
    elim (cases_Bool good) [
      | inl y ↦
          let t = three (o.q == q) (not o.resized) (is_sizing file to o.sizing) y in
          let same : o.q ≡ q = eqb-true o.q q t.0 in (
            subst (λ n. is_resize_in_order before who n file to ≡ true) same
                (rw (
                  h.current.opened,
                  h.current.call,
                  asks_resize file to h.current.told o.sizing h.current.sizes t.2,
                  h.current.unresized
                      (not_false o.resized t.1),
                ) refl),
            subst (λ n. IsLineOf whole (Z who q file from to ∷ before) who n) (same_some next new (sym (if_true good (Some next) None y) ∙ e))
                (record {
                  calls = h.calls;
                  answers = h.answers;
                  resizes =
                      λ n k. or_none (same_who who who && (q == n)) (exists (is_resize_by who n) before)
                      (and_not_there (same_who who who) (q == n)
                      (other_number q n (λ x. no_call_above who before o.q highest h.current.opened h.calls n k (same ∙ x)))) (h.resizes n k);
                  reads = h.reads;
                  writes = h.writes;
                  below = h.below;
                  alone = h.alone;
                  current =
                      still_open whole before who o.q o.writing o.sizing o.wrote o.resized o.read o.wrote true o.read (Z who q file from to) h.current
                      refl (λ x. (x, refl)) (λ x. absurd (cc)) (λ x. (x, refl));
                  busy =
                      same_busy (Z who q file from to ∷ before) who highest o
                      (record { q = o.q; writing = o.writing; sizing = o.sizing; wrote = o.wrote; resized = true; read = o.read }) busy refl
                      (still_busy before who highest (Some o) busy (Z who q file from to) (λ n. refl) h.busy);
                }),
          )
      | inr f ↦ absurd (nothing_is new (sym (if_false good (Some next) None f) ∙ e))
    ]

read_line : (whole before : List Entry) (who : Who) (q file block value : ℕ) (served : Option ℕ) (highest last least : ℕ) (current : Option Open)
    (busy : Option ℕ) (new : CallProgress) → IsLineOf whole before who (a_line highest last least current busy)
    → after_read_of (a_line highest last least current busy) q current ≡ Some new
    → (is_read_in_order whole before who q ≡ true) × IsLineOf whole (R who q file block value served ∷ before) who new
read_line whole before who q file block value served highest last least None busy new h e = absurd (cc)
read_line whole before who q file block value served highest last least (Some o) busy new h e =
    let good = (o.q == q) && not o.read in
    let next = a_line highest last least (Some
    (record { q = o.q; writing = o.writing; sizing = o.sizing; wrote = o.wrote; resized = o.resized; read = true })) busy in
    elim (cases_Bool good) [
      | inl y ↦
          let t = and_parts (o.q == q) (not o.read) y in
          let same : o.q ≡ q = eqb-true o.q q t.0 in (
            subst (λ n. is_read_in_order whole before who n ≡ true) same
                (rw (h.current.opened, h.current.unread (not_false o.read t.1)) refl),
            subst (λ n. IsLineOf whole (R who q file block value served ∷ before) who n) (same_some next new (sym (if_true good (Some next) None y) ∙ e))
                (record {
                  calls = h.calls;
                  answers = h.answers;
                  resizes = h.resizes;
                  reads = λ n k. or_none (is_counted_by whole who n (R who q file block value served)) (exists (is_counted_by whole who n) before)
                      (and_not_here (same_who who who && (q == n)) (is_counted whole (R who q file block value served))
                      (and_not_there (same_who who who) (q == n)
                      (other_number q n (λ x. no_call_above who before o.q highest h.current.opened h.calls n k (same ∙ x))))) (h.reads n k);
                  writes = h.writes;
                  below = h.below;
                  alone = h.alone;
                  current =
                      still_open whole before who o.q o.writing o.sizing o.wrote o.resized o.read o.wrote o.resized true
                      (R who q file block value served) h.current refl (λ x. (x, refl)) (λ x. (x, refl)) (λ x. absurd (cc));
                  busy =
                      same_busy (R who q file block value served ∷ before) who highest o
                      (record { q = o.q; writing = o.writing; sizing = o.sizing; wrote = o.wrote; resized = o.resized; read = true }) busy refl
                      (still_busy before who highest (Some o) busy (R who q file block value served) (λ n. refl) h.busy);
                }),
          )
      | inr f ↦ absurd (nothing_is new (sym (if_false good (Some next) None f) ∙ e))
    ]

-- ---- an A

-- a call that is open behind an A was open before it, and is not the one that it answers
open_before : (before : List Entry) (who : Who) (q n : ℕ) (said : Said) → is_open (A who q said ∷ before) who n ≡ true
    → (q ≡ n → ⊥) × (is_open before who n ≡ true)
open_before before who q n said o =
    let none = is_unanswered (A who q said ∷ before) who n o in
    let not_it = neither_first (same_who who who && (q == n)) (exists (is_answer who n) before) none in (
      λ e. both_ways (same_who who who && (q == n)) (and_from (same_who who who) (q == n) (self who) (eq-eqb q n e)) not_it,
      opens before who n (is_called (A who q said ∷ before) who n o) (neither_second (same_who who who && (q == n)) (exists (is_answer who n) before) none),
    )

answered : (whole before : List Entry) (who : Who) (q : ℕ) (said : Said) (highest last least : ℕ) (current now_open : Option Open) (busy : Option ℕ)
    → ((n : ℕ) → highest < n → q ≡ n → ⊥) → IsLineOf whole before who (a_line highest last least current busy)
    → ((n : ℕ) → is_open (A who q said ∷ before) who n ≡ true → IsOpenCall now_open n) → AreOpened whole (A who q said ∷ before) who now_open
    → IsLineOf whole (A who q said ∷ before) who (a_line highest last least now_open None)
answered whole before who q said highest last least current now_open busy low h alone o = record {
  calls = h.calls;
  answers =
      λ n k. or_none (same_who who who && (q == n)) (exists (is_answer who n) before)
      (and_not_there (same_who who who) (q == n) (other_number q n (low n k))) (h.answers n k);
  resizes = h.resizes;
  reads = h.reads;
  writes = h.writes;
  below = h.below;
  alone = λ n x. inl (alone n x);
  current = o;
  busy = tt;
}

still_one : (whole before : List Entry) (who : Who) (q : ℕ) (said : Said) (current : Option Open) → (IsOpenCall current q → ⊥)
    → AreOpened whole before who current → AreOpened whole (A who q said ∷ before) who current
still_one whole before who q said None f h = tt
still_one whole before who q said (Some o) f h =
    still_open whole before who o.q o.writing o.sizing o.wrote o.resized o.read o.wrote o.resized o.read (A who q said) h
    (and_not_there (same_who who who) (q == o.q) (other_number q o.q (λ x. f (sym x)))) (λ x. (x, refl)) (λ x. (x, refl)) (λ x. (x, refl))

answer_line : (whole before : List Entry) (who : Who) (q : ℕ) (said : Said) (highest last least : ℕ) (current : Option Open) (busy : Option ℕ) (new : CallProgress)
    → IsLineOf whole before who (a_line highest last least current busy) → after_answer_of (a_line highest last least current busy) q current busy ≡ Some new
    → (not (exists (is_answer who q) before) ≡ true) × IsLineOf whole (A who q said ∷ before) who new
answer_line whole before who q said highest last least None None new h e = absurd (cc)
answer_line whole before who q said highest last least (Some o) None new h e =
    let next = a_line highest last least None None in
    elim (cases_Bool (o.q == q)) [
      | inl y ↦
          let same : o.q ≡ q = eqb-true o.q q y in (
            subst (λ n. not (exists (is_answer who n) before) ≡ true) same (ap not (is_unanswered before who o.q h.current.opened)),
            subst (λ n. IsLineOf whole (A who q said ∷ before) who n) (same_some next new (sym (if_true (o.q == q) (Some next) None y) ∙ e))
                (answered whole before who q said highest last least (Some o) None None
                (λ n k x. no_call_above who before o.q highest h.current.opened h.calls n k (same ∙ x)) h
                (λ n x. let p = open_before before who q n said x in elim (h.alone n p.1) [ inl z ↦ p.0 (sym same ∙ z) | inr z ↦ z ]) tt),
          )
      | inr f ↦ absurd (nothing_is new (sym (if_false (o.q == q) (Some next) None f) ∙ e))
    ]
answer_line whole before who q said highest last least current (Some b) new h e =
    let next = a_line highest last least current None in
    elim (cases_Bool (b == q)) [
      | inl y ↦
          let same : b ≡ q = eqb-true b q y in
          let busy = h.busy in (
            subst (λ n. not (exists (is_answer who n) before) ≡ true) same (ap not busy.unanswered),
            subst (λ n. IsLineOf whole (A who q said ∷ before) who n) (same_some next new (sym (if_true (b == q) (Some next) None y) ∙ e))
                (answered whole before who q said highest last least current current (Some b) (λ n k x. let low = busy.upto in omega arith) h
                (λ n x. let p = open_before before who q n said x in elim (h.alone n p.1) [ inl z ↦ z | inr z ↦ absurd (p.0 (sym same ∙ z)) ])
                (still_one whole before who q said current (λ x. busy.apart (subst (λ n. IsOpenCall current n) (sym same) x)) h.current)),
          )
      | inr f ↦ absurd (nothing_is new (sym (if_false (b == q) (Some next) None f) ∙ e))
    ]

-- ---- the lines of all incarnations

lines_on : (whole before : List Entry) (who : Who) (entry : Entry) (line : CallProgress) (old new : List ((ℕ × ℕ) × CallProgress))
    → IsLined (who.host, who.inc) line old new → AreLines whole before old → IsLineOf whole (entry ∷ before) who line
    → ((other : Who) → same_who who other ≡ false → IsQuiet whole other entry) → AreLines whole (entry ∷ before) new
lines_on whole before who entry line old new l h here k other =
    elim (cases_Bool (same_who who other)) [
      | inl y ↦
          subst (λ n. IsLineOf whole (entry ∷ before) other n) (sym (l (other.host, other.inc) ∙ if_true (same_who who other) line (line_at old other) y))
          (subst (λ w. IsLineOf whole (entry ∷ before) w line) ((tells_who {a = who} {b = other}).sound y) here)
      | inr f ↦
          subst (λ n. IsLineOf whole (entry ∷ before) other n) (sym (l (other.host, other.inc) ∙ if_false (same_who who other) line (line_at old other) f))
          (quiet whole before other (line_at old other) entry (k other f) (h other))
    ]

pub call_stands : (whole after : List Entry) (who : Who) (q : ℕ) (told : Told) (is_busy : Bool) (old new : List ((ℕ × ℕ) × CallProgress))
    → is_busy ≡ is_busy_next who q after → IsNext who (after_call (line_at old who) q told is_busy) old new
    → StandsInOrder whole after (C who q told) old new
call_stands whole after who q told is_busy old new b n before h =
    let line = line_at old who in
    elim (cases_Bool (nat_le q line.highest)) [
      | inl y ↦ absurd (nothing_is n.line (sym (if_true (nat_le q line.highest) None (after_call_at line q told is_busy line.current line.busy) y) ∙ n.some))
      | inr f ↦
          let some = sym (if_false (nat_le q line.highest) None (after_call_at line q told is_busy line.current line.busy) f) ∙ n.some in
          let here = call_line whole after before who q told is_busy line.highest line.last line.least line.current line.busy n.line b (leb-false q line.highest f)
          (h who) some in (
            here.0,
            lines_on whole before who (C who q told) n.line old new n.lined h here.1
                (λ other e. record {
                  call = λ m. and_not_here (same_who who other) (q == m) e;
                  answer = λ m. refl;
                  resize = λ m. refl;
                  read = λ m. refl;
                  number = λ m. refl;
                  write = λ m l. refl;
                }),
          )
    ]

pub write_stands : (whole after : List Entry) (who : Who) (file block number value : ℕ) (through : Bool) (old new : List ((ℕ × ℕ) × CallProgress))
    → IsNext who (after_write_of (line_at old who) file block number value (line_at old who).current (line_at old who).busy) old new
    → StandsInOrder whole after (W who file block number value through) old new
write_stands whole after who file block number value through old new n before h =
    let line = line_at old who in
    let here = write_line whole before who file block number value through line.highest line.last line.least line.current line.busy n.line (h who) n.some in (
      here.0,
      lines_on whole before who (W who file block number value through) n.line old new n.lined h here.1
          (λ other e. record {
            call = λ m. refl;
            answer = λ m. refl;
            resize = λ m. refl;
            read = λ m. refl;
            number = λ m. and_not_here
                (same_who who other) (number == m) e;
            write = λ m l. or_here (not (same_who who other)) (not (exists (is_call other m) l)) (ap not e);
          }),
    )

pub resize_stands : (whole after : List Entry) (who : Who) (q file from to : ℕ) (old new : List ((ℕ × ℕ) × CallProgress))
    → IsNext who (after_resize_of (line_at old who) q file to (line_at old who).current) old new → StandsInOrder whole after (Z who q file from to) old new
resize_stands whole after who q file from to old new n before h =
    let line = line_at old who in
    let here = resize_line whole before who q file from to line.highest line.last line.least line.current line.busy n.line (h who) n.some in (
      here.0,
      lines_on whole before who (Z who q file from to) n.line old new n.lined h here.1
          (λ other e. record {
            call = λ m. refl;
            answer = λ m. refl;
            resize = λ m. and_not_here (same_who who other) (q == m) e;
            read = λ m. refl;
            number = λ m. refl;
            write = λ m l. refl;
          }),
    )

pub read_stands : (whole after : List Entry) (who : Who) (q file block value : ℕ) (served : Option ℕ) (old new : List ((ℕ × ℕ) × CallProgress))
    → IsNext who (after_read_of (line_at old who) q (line_at old who).current) old new → StandsInOrder whole after (R who q file block value served) old new
read_stands whole after who q file block value served old new n before h =
    let line = line_at old who in
    let entry = R who q file block value served in
    let here = read_line whole before who q file block value served line.highest line.last line.least line.current line.busy n.line (h who) n.some in (
      or_there (not (is_counted whole entry)) (is_read_in_order whole before who q) here.0,
      lines_on whole before who entry n.line old new n.lined h here.1
          (λ other e. record {
            call = λ m. refl;
            answer = λ m. refl;
            resize = λ m. refl;
            read = λ m. and_not_here (same_who who other && (q == m))
                (is_counted whole entry) (and_not_here (same_who who other) (q == m) e);
            number = λ m. refl;
            write = λ m l. refl;
          }),
    )

pub answer_stands : (whole after : List Entry) (who : Who) (q : ℕ) (said : Said) (old new : List ((ℕ × ℕ) × CallProgress))
    → IsNext who (after_answer_of (line_at old who) q (line_at old who).current (line_at old who).busy) old new
    → StandsInOrder whole after (A who q said) old new
answer_stands whole after who q said old new n before h =
    let line = line_at old who in
    let here = answer_line whole before who q said line.highest line.last line.least line.current line.busy n.line (h who) n.some in (
      here.0,
      lines_on whole before who (A who q said) n.line old new n.lined h here.1
          (λ other e. record {
            call = λ m. refl;
            answer = λ m. and_not_here (same_who who other) (q == m) e;
            resize = λ m. refl;
            read = λ m. refl;
            number = λ m. refl;
            write = λ m l. refl;
          }),
    )

-- ---- entries that leave all lines as they are

all_quiet : (whole before : List Entry) (entry : Entry) (lines : List ((ℕ × ℕ) × CallProgress)) → ((who : Who) → IsQuiet whole who entry)
    → AreLines whole before lines → AreLines whole (entry ∷ before) lines
all_quiet whole before entry lines k h who = quiet whole before who (line_at lines who) entry (k who) (h who)

-- a read that is not counted
pub uncounted_stands : (whole after : List Entry) (who : Who) (q file block value : ℕ) (served : Option ℕ) (lines : List ((ℕ × ℕ) × CallProgress))
    → is_counted whole (R who q file block value served) ≡ false → StandsInOrder whole after (R who q file block value served) lines lines
uncounted_stands whole after who q file block value served lines c before h =
    let entry = R who q file block value served in (
      or_here (not (is_counted whole entry)) (is_read_in_order whole before who q) (ap not c),
      all_quiet whole before entry lines
          (λ other. record {
            call = λ m. refl;
            answer = λ m. refl;
            resize = λ m. refl;
            read = λ m. and_not_there (same_who who other && (q == m))
                (is_counted whole entry) c;
            number = λ m. refl;
            write = λ m l. refl;
          }) h,
    )

-- an entry that tells nothing of the order of calls
pub else_stands : (whole after : List Entry) (entry : Entry) (lines : List ((ℕ × ℕ) × CallProgress)) → is_else entry ≡ true
    → StandsInOrder whole after entry lines lines
else_stands whole after (C who q told) lines i before h = absurd (cc)
else_stands whole after (W who file block number value through) lines i before h = absurd (cc)
else_stands whole after (Z who q file from to) lines i before h = absurd (cc)
else_stands whole after (R who q file block value served) lines i before h = absurd (cc)
else_stands whole after (A who q said) lines i before h = absurd (cc)
else_stands whole after other lines i before h = (
  refl,
  all_quiet whole before other lines
      (λ who. record { call = λ m. refl; answer = λ m. refl; resize = λ m. refl; read = λ m. refl; number = λ m. refl; write = λ m l. refl }) h,
)
